-- A row from one of its fields on, and what is known of that field.
use mathlib.Core.Path.{◌≡◌, refl}
use mathlib.Core.Bool.{true}
use mathlib.Core.List.{List, [], ◌∷◌}
use Prim.Native.Nat.{ℕ, zero, suc, ◌+◌, ◌≤◌, ◌<◌}
use native.Mathlib.Numerals.{add-one}
use native.Mathlib.Omega.{arith}
use lib.ListN.{length, drop, get_or, drop_of_length-le}
use lib.Seq.{drop-cons}
use Rattle.bits.specs.internal.Windows.{bits_in}
use Rattle.kinds.specs.Kind.{up_to}
use Rattle.fields.proofs.Lawful.{LawfulKind}
use Rattle.format.specs.Format.{Format, then}
use Rattle.grammar.specs.internal.rows.Rows.{row, fits}
use Rattle.grammar.proofs.rows.Measured.{no_row, first_fits, first_lawful}

pub fits_long : (ws ms : List ℕ) → fits ws ms ≡ true → length ms ≡ length ws
fits_long [] [] e = refl
fits_long [] (m ∷ ms) e = no_row e
fits_long (w ∷ ws) [] e = no_row e
fits_long (w ∷ ws) (m ∷ ms) e = omega (arith, fits_long ws ms (first_fits w m ws ms e).rest)

-- a field of a row has a width from 1 to 32, and a largest value that the width holds
pub fits_at : (ws ms : List ℕ) → fits ws ms ≡ true → (i : ℕ) → i < length ws → LawfulKind (up_to (get_or ws i 0) (get_or ms i 0))
fits_at [] ms e i h = absurd (omega arith)
fits_at (w ∷ ws) [] e i h = no_row e
fits_at (w ∷ ws) (m ∷ ms) e zero h = first_lawful (first_fits w m ws ms e)
fits_at (w ∷ ws) (m ∷ ms) e (suc i) h = fits_at ws ms (first_fits w m ws ms e).rest i (omega arith)

-- the row from the field i on
abbrev pub row_from : List ℕ → List ℕ → ℕ → Format → Format
row_from ws ms i f = row (drop i ws) (drop i ms) f

module _ (ws ms : List ℕ) (e : length ms ≡ length ws) (i : ℕ) where
  pub row_more : i < length ws → (f : Format) → row_from ws ms i f ≡ then (up_to (get_or ws i 0) (get_or ms i 0)) (row_from ws ms (i + 1) f)
  unfolding row
  row_more h f = let l : i < length ms = omega arith in rw (add-one, drop-cons ws i 0, drop-cons ms i 0)

  pub row_none : length ws ≤ i → (f : Format) → row_from ws ms i f ≡ f
  unfolding row
  row_none h f = rw (drop_of_length-le ws {i = i} h)

pub bits_more : (ws : List ℕ) (i : ℕ) → i < length ws → bits_in (drop i ws) ≡ get_or ws i 0 + bits_in (drop (i + 1) ws)
bits_more ws i h = rw (add-one i, drop-cons ws i 0 h)

pub bits_none : (ws : List ℕ) (i : ℕ) → length ws ≤ i → bits_in (drop i ws) ≡ 0
bits_none ws i h = rw (drop_of_length-le ws h)
