-- Some fields of a row, which are written at once. Used by contracts of the code; no promise names these.
use Rattle.std.specs.Prelude.{◌≡◌, true, List, ℕ, ◌-◌, ◌≤◌, length, take, drop}
use Rattle.bits.specs.internal.Windows.{bits_in}
use Rattle.format.specs.Format.{Format}
use Rattle.grammar.specs.internal.rows.Rows.{row, fits}

-- the entries of a table from first to before end
abbrev pub part : List ℕ → ℕ → ℕ → List ℕ
part l first end = take (end - first) (drop first l)

-- the fields of a row from first to before end
abbrev pub between : List ℕ → List ℕ → ℕ → ℕ → Format → Format
between ws ms first end f = row (part ws first end) (part ms first end) f

-- the row has the fields from first to before end, their largest values fit their widths, and the widths add up to total, 1 to 32 bits
pub record Puttable (ws ms : List ℕ) (first end total : ℕ) : Type 0 where
  pub order : first ≤ end
  pub inside : end ≤ length ws
  pub fit : fits (part ws first end) (part ms first end) ≡ true
  pub sum : bits_in (part ws first end) ≡ total
  pub some : 1 ≤ total
  pub most : total ≤ 32
