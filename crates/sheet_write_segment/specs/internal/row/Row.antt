-- Fields in a row, copied from a packet's bits to a room. Used by contracts of the code; no promise names these.
use Rattle.std.specs.Prelude.{List, [], ◌∷◌, ℕ, ◌+◌, ◌*◌, ◌^◌, ◌≤◌, ◌<◌, length}
use Rattle.bits.specs.internal.Windows.{bits_in, fields_at}
use Rattle.numbers.specs.Numbers.{groups_in}
use Rattle.numbers.specs.internal.Groups.{Put}
use Rattle.sheet_write_segment.specs.internal.elements.Writing.{putting}

-- ---- numbers put one after another

-- the room p with the numbers put from the byte up to which p is written on
unfoldable pub put_all : Put → List ℕ → Put
put_all p [] = p
put_all p (v ∷ vs) = put_all (putting p v) vs

-- each number fits the room p, once the numbers before it are put
pub data FitAll : Put → List ℕ → Type 0 where
  none : {p : Put} → FitAll p []
  more : {p : Put} {v : ℕ} {vs : List ℕ} → p.next + length (groups_in v) ≤ length p.bytes → FitAll (putting p v) vs → FitAll p (v ∷ vs)

-- ---- fields in a row

-- the values of fields of these widths, from the bit at of s on: fields_at, shut so that a proof finds the widths
unfoldable pub values_at : List ℕ → ℕ → List ℕ → List ℕ
values_at s at ws = fields_at s at ws

-- fields of the widths ws are present from the bit at on, in a packet s of at least eight bytes, and the room p holds their numbers
pub record Row (s : List ℕ) (at : ℕ) (ws : List ℕ) (p : Put) : Type 0 where
  pub inside : at + bits_in ws ≤ 8 * length s
  pub few : at + bits_in ws < 2 ^ 32
  pub long : 8 ≤ length s
  pub holds : FitAll p (values_at s at ws)

-- "They equal the packet fields": the fields of these widths from the bit at on, put one after another
abbrev pub copied : List ℕ → ℕ → List ℕ → Put → Put
copied s at ws p = put_all p (values_at s at ws)
