-- A row of fields, measured: its fields are lawful, and it costs the sum of the costs of their kinds.
use mathlib.Core.Path.{◌≡◌}
use mathlib.Core.Bool.{true, false, ◌&&◌}
use mathlib.Core.List.{List, [], ◌∷◌}
use Prim.Native.Nat.{ℕ, ◌+◌, ◌^◌, ◌≤◌, ◌<◌}
use borrow.Author.Tests.{leb-true, ltb-true}
use lib.Dec.{leb, ltb}
use Rattle.bits.proofs.Tests.{and_left, and_right}
use Rattle.kinds.specs.Kind.{Kind, up_to}
use Rattle.fields.proofs.Lawful.{LawfulKind, up_to_lawful}
use Rattle.format.specs.Format.{Format}
use Rattle.format.proofs.Sized.{Measured, plus}
use Rattle.grammar.specs.internal.rows.Rows.{row, fits}

pub no_row : {C : Type 0} → false ≡ true → C
no_row e = cc

-- what is known of the first field of a row, and of the fields after it
pub record First (w m : ℕ) (ws ms : List ℕ) : Type 0 where
  pub some : 1 ≤ w
  pub most : w ≤ 32
  pub holds : m < 2 ^ w
  pub rest : fits ws ms ≡ true

pub first_fits : (w m : ℕ) (ws ms : List ℕ) → fits (w ∷ ws) (m ∷ ms) ≡ true → First w m ws ms
first_fits w m ws ms e =
    let a = and_right (leb 1 w) (leb w 32 && (ltb m (2 ^ w) && fits ws ms)) e in
    let b = and_right (leb w 32) (ltb m (2 ^ w) && fits ws ms) a in
    record {
      some = leb-true 1 w (and_left (leb 1 w) (leb w 32 && (ltb m (2 ^ w) && fits ws ms)) e);
      most = leb-true w 32 (and_left (leb w 32) (ltb m (2 ^ w) && fits ws ms) a);
      holds = ltb-true m (2 ^ w) (and_left (ltb m (2 ^ w)) (fits ws ms) b);
      rest = and_right (ltb m (2 ^ w)) (fits ws ms) b;
    }

pub first_lawful : {w m : ℕ} {ws ms : List ℕ} → First w m ws ms → LawfulKind (up_to w m)
first_lawful {w} {m} f = up_to_lawful w m (record { some = f.some; most = f.most }) f.holds

-- the sum of the costs of a row, and of what follows it
abbrev pub sum : (Kind → ℕ) → List ℕ → List ℕ → ℕ → ℕ
sum cost [] ms a = a
sum cost (w ∷ ws) [] a = a
sum cost (w ∷ ws) (m ∷ ms) a = cost (up_to w m) + sum cost ws ms a

module _ {lo hi : Kind → ℕ} {f : Format} {a b : ℕ} (measured : Measured lo hi f a b) where
  pub row_measured : (ws ms : List ℕ) → fits ws ms ≡ true → Measured lo hi (row ws ms f) (sum lo ws ms a) (sum hi ws ms b)
  unfolding row
  row_measured [] [] e = measured
  row_measured [] (m ∷ ms) e = no_row e
  row_measured (w ∷ ws) [] e = no_row e
  row_measured (w ∷ ws) (m ∷ ms) e = let h = first_fits w m ws ms e in plus (first_lawful h) λ _ _. row_measured ws ms h.rest
