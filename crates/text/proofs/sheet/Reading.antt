-- The numbers of a sheet, read one after the other; a sheet that was written of numbers has these numbers.
use mathlib.Core.Path.{◌≡◌, refl, sym, ap, ◌∙◌}
use mathlib.Core.List.{List, [], ◌∷◌, ◌++◌}
use Prim.Native.Nat.{ℕ, zero, suc, ◌+◌, ◌-◌, ◌≤◌}
use native.Mathlib.Omega.{arith}
use lib.ListN.{length, drop, get_or, length-append, length-drop}
use lib.Seq.{drop-drop, drop-nil, drop-append_seam}
use Rattle.bits.specs.Bits.{Bytes}
use Rattle.std.specs.Prelude.{Some, None, Option}
use Rattle.numbers.specs.Numbers.{number_of, number_in, groups_in}
use Rattle.numbers.proofs.Reading.{number_again, number_only}
use Rattle.numbers.proofs.Counting.{count_some}
use Rattle.kinds.specs.declared.Item.{Item}
use Rattle.format.specs.Format.{Format, write, sheet_numbers}
use Rattle.format.specs.Media.{sheet}
use Rattle.format.specs.Conforming.{Conforming, done, also, InSheet}
use Rattle.format.proofs.Media.{bytes_drop}
use Rattle.text.specs.internal.sheet.Numbers.{before, first_numbers, numbers_in}

-- no byte has no number
none_in : number_in [] ≡ None
unfolding number_of
none_in = refl

numbers_none : (n : ℕ) (s : List ℕ) → length s ≤ 0 → first_numbers n s ≡ []
numbers_none zero s h = refl
numbers_none (suc n) [] h = rw none_in
numbers_none (suc n) (b ∷ s) h = absurd (omega arith)

fewer : (s : List ℕ) (v n : ℕ) → length s ≤ suc n → length (drop (length (groups_in v)) s) ≤ n
fewer s v n h = omega (arith, length-drop (length (groups_in v)) s, count_some v)

same_before : (r : Option ℕ) {f g : ℕ → List ℕ} → ((v : ℕ) → f v ≡ g v) → before r f ≡ before r g
same_before None e = refl
same_before (Some v) e = ap (λ (t : List ℕ). v ∷ t) (e v)

-- two limits of which neither is below the count of bytes give the same numbers
enough : (n m : ℕ) (s : List ℕ) → length s ≤ n → length s ≤ m → first_numbers n s ≡ first_numbers m s
enough zero m s h l = sym (numbers_none m s h)
enough (suc n) zero s h l = numbers_none (suc n) s l
enough (suc n) (suc m) s h l =
    same_before (number_in s) λ v. enough n m (drop (length (groups_in v)) s) (fewer s v n h) (fewer s v m l)

module _ (s : List ℕ) where
  pub numbers_bad : number_in s ≡ None → numbers_in s ≡ []
  unfolding numbers_in
  numbers_bad e = go (length s)
    where
      go : (n : ℕ) → first_numbers n s ≡ []
      go zero = refl
      go (suc n) = rw e

  pub numbers_value : (v : ℕ) → number_in s ≡ Some v → numbers_in s ≡ v ∷ numbers_in (drop (length (groups_in v)) s)
  unfolding numbers_in
  numbers_value v e = enough (length s) (suc (length s)) s (omega arith) (omega arith) ∙ rw e (ap (λ (t : List ℕ). v ∷ t) (rest (drop (length (groups_in v)) s) (fewer s v (length s) (omega arith))))
    where
      rest : (t : List ℕ) → length t ≤ length s → first_numbers (length s) t ≡ first_numbers (length t) t
      rest t h = enough (length s) (length t) t h (omega arith)

-- a sheet that is written of values has the numbers of the values
pub numbers_written : {f : Format} {l : List Item} → Conforming InSheet f l → numbers_in (write sheet f l) ≡ sheet_numbers l
numbers_written done = numbers_bad [] none_in
numbers_written (also {next = next} {i = i} {l = l} g c) =
    let v = i.sheet in
    let t = write sheet (next i.packet) l in
    numbers_value (groups_in v ++ t) v (number_again v t g.fits)
    ∙ rw (drop-append_seam (groups_in v) t) (ap (λ (m : List ℕ). v ∷ m) (numbers_written c))

-- ---- at a place of a sheet

module _ (s : List ℕ) (at : ℕ) where
  pub first_number : (v : ℕ) → number_in (drop at s) ≡ Some v → v ≡ get_or (numbers_in (drop at s)) 0 0
  first_number v e = rw (numbers_value (drop at s) v e)

  pub no_number : number_in (drop at s) ≡ None → 0 ≡ get_or (numbers_in (drop at s)) 0 0
  no_number e = rw (numbers_bad (drop at s) e)

  module _ (ok : Bytes s) (v : ℕ) (e : number_in (drop at s) ≡ Some v) where
    -- the groups of a number are inside the sheet
    pub groups_inside : at ≤ length s → at + length (groups_in v) ≤ length s
    groups_inside h =
        let n = number_only (drop at s) v (bytes_drop at s ok) e in
        let g = groups_in v in
        omega (arith, ap length n.bytes ∙ length-append g (drop (length g) (drop at s)), length-drop at s)

    drop_value : (left : ℕ) → (left ≡ 0 → ⊥) → drop (left - 1) (numbers_in (drop (at + length (groups_in v)) s)) ≡ drop left (numbers_in (drop at s))
    drop_value zero h = absurd (h refl)
    drop_value (suc left) h =
        let d : suc left - 1 ≡ left = omega arith in
        rw (d, numbers_value (drop at s) v e, drop-drop (length (groups_in v)) at s)

    pub past_more : (left : ℕ) (goal : List ℕ) → (left ≡ 0 → ⊥) → drop left (numbers_in (drop at s)) ≡ goal
        → drop (left - 1) (numbers_in (drop (at + length (groups_in v)) s)) ≡ goal
    past_more left goal h g = drop_value left h ∙ g

  pub past_end_lem : (left : ℕ) (goal : List ℕ) → number_in (drop at s) ≡ None → drop left (numbers_in (drop at s)) ≡ goal → numbers_in (drop at s) ≡ goal
  past_end_lem left goal e g = let b = numbers_bad (drop at s) e in b ∙ sym (ap (drop left) b ∙ drop-nil left) ∙ g
