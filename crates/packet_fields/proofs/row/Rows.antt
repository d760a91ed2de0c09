-- A row of fields from one of its fields on: one field more, and none.
use mathlib.Core.Path.{◌≡◌, refl}
use mathlib.Core.Logic.{◌⊎◌, inl, inr}
use mathlib.Core.Bool.{true, ◌&&◌}
use mathlib.Core.List.{List, [], ◌∷◌}
use Prim.Native.Nat.{ℕ, ◌^◌, ◌≤◌}
use native.Mathlib.Omega.{arith}
use borrow.Author.Tests.{leb-true}
use lib.Dec.{leb, ltb}
use Rattle.bits.proofs.Tests.{and_left, and_right}
use Rattle.kinds.specs.Kind.{Kind, up_to}
use Rattle.format.specs.Format.{Format, then}
use Rattle.format.specs.internal.Ways.{Way, Went, Over, Left}
use Rattle.format.proofs.Ways.{left_as, left_on, left_off, left_none}
use Rattle.grammar.specs.internal.rows.Rows.{row, fits}

-- a width that a field can have, 1 to 32 bits
pub record Fit (w : ℕ) : Type 0 where
  pub some : 1 ≤ w
  pub most : w ≤ 32

-- the test of the first field, and of the fields after it
module _ (w m : ℕ) (ws ms : List ℕ) (e : fits (w ∷ ws) (m ∷ ms) ≡ true) where
  small : (leb w 32 && (ltb m (2 ^ w) && fits ws ms)) ≡ true
  small = and_right (leb 1 w) (leb w 32 && (ltb m (2 ^ w) && fits ws ms)) e

  held : (ltb m (2 ^ w) && fits ws ms) ≡ true
  held = and_right (leb w 32) (ltb m (2 ^ w) && fits ws ms) small

  pub fits_first : Fit w
  fits_first = record {
    some = leb-true 1 w (and_left (leb 1 w) (leb w 32 && (ltb m (2 ^ w) && fits ws ms)) e);
    most = leb-true w 32 (and_left (leb w 32) (ltb m (2 ^ w) && fits ws ms) small);
  }

  pub fits_rest : fits ws ms ≡ true
  fits_rest = and_right (ltb m (2 ^ w)) (fits ws ms) held

-- that is so of lists whose first fields are v and m
module _ {ws ms : List ℕ} (e : fits ws ms ≡ true) {v m : ℕ} {us ns : List ℕ} (ew : ws ≡ v ∷ us) (em : ms ≡ m ∷ ns) where
  first_rest : fits (v ∷ us) (m ∷ ns) ≡ true
  first_rest = rw (ew, em) at e

  pub fits_some : Fit v
  fits_some = fits_first v m us ns first_rest

  pub fits_more : fits us ns ≡ true
  fits_more = fits_rest v m us ns first_rest

-- ---- a row in any pass, from one of its fields on

empty : (vs ns : List ℕ) → (vs ≡ []) ⊎ (ns ≡ []) → (f : Format) → row vs ns f ≡ f
unfolding row
empty [] ns e f = refl
empty (v ∷ vs) [] e f = refl
empty (v ∷ vs) (n ∷ ns) (inl e) f = absurd (let z : ◌≡◌ {A = ℕ} 0 1 = cc in omega arith)
empty (v ∷ vs) (n ∷ ns) (inr e) f = absurd (let z : ◌≡◌ {A = ℕ} 0 1 = cc in omega arith)

module _ {X B : Type 0} {w : Way X B} {p : Format → Format} {ws ms : List ℕ} {at to : ℕ} {x y : X} (here : Left w p (row ws ms) at x to y) where
  module _ {v m : ℕ} {us ns : List ℕ} (ew : ws ≡ v ∷ us) (em : ms ≡ m ∷ ns) {k : Kind} (ek : k ≡ up_to v m) where
    more : Left w p (λ f. then k (row us ns f)) at x to y
    unfolding row
    more = left_as (λ f. then k (row us ns f)) (λ f. rw (ek, ew, em)) here

    pub row_off : {r place : ℕ} → Over w (then k) to y (Went.off r place) → Over w p at x (Went.off r place)
    row_off o = left_off (then k) (row us ns) more o

    pub row_on : {a : ℕ} {z : X} → Over w (then k) to y (Went.on a z) → Left w p (row us ns) at x a z
    row_on o = left_on (then k) (row us ns) more o

  pub row_none : (ws ≡ []) ⊎ (ms ≡ []) → Over w p at x (Went.on to y)
  row_none e = left_none (left_as (λ f. f) (empty ws ms e) here)
