-- Numbers of an accepted journey sheet passed over one by one: timing points and constraints have the same count of numbers, whatever they say.
use mathlib.Core.Path.{◌≡◌, refl, sym, ap, ◌∙◌}
use mathlib.Core.List.{List}
use Prim.Native.Nat.{ℕ, zero, suc, ◌+◌, ◌*◌, ◌-◌, ◌%◌, ◌≤◌, ◌<◌}
use native.Mathlib.Nat.{suc-mul}
use native.Mathlib.Omega.{arith}
use borrow.Author.Tests.{ltb-true, ltb-false}
use lib.Dec.{ltb}
use lib.ListN.{drop}
use Rattle.bits.proofs.Tests.{by_cases}
use Rattle.kinds.specs.declared.Item.{Item}
use Rattle.kinds.specs.Kind.{Kind}
use Rattle.format.specs.Format.{Format, field, times, sheet_numbers}
use Rattle.grammar.specs.journey.Journey.{timing_point, temporary_constraint}
use Rattle.speed_element.specs.internal.Reading.{Past, Passes}
use Rattle.speed_element.proofs.Reading.{past_here, then_past}
use Rattle.speed_sheet.specs.internal.Asking.{counted_at, number_end, NumberHere, numbers_end, Numbers, Reads}
use Rattle.speed_sheet.proofs.Numbers.{value_or, field_any, known}
use Rattle.legs.specs.Legs.{after_constraints, after_points}
use Rattle.leg_parts.proofs.Reading.{times_end, times_pass}

module _ (s : List ℕ) where
  -- n numbers are read from the byte from on, after d numbers of all; the tree f follows
  pub record Walked (from d : ℕ) (all : List ℕ) (n : ℕ) (f : Format) : Type 0 where
    pub here : (i : ℕ) → i < n → NumberHere s (numbers_end s from i)
    pub past : Past (Reads s) f (numbers_end s from n) (drop (d + n) all)

  module _ {from d : ℕ} {all : List ℕ} where
    pub walk_start : {f : Format} → Past (Reads s) f from (drop (d + 0) all) → Walked from d all 0 f
    walk_start p = record { here = λ i h. absurd (omega arith); past = p }

    -- one field more: what follows may depend on its value
    pub walk_field : {n : ℕ} {k : Kind} {next : ℕ → Format} → Walked from d all n (field k next)
        → Walked from d all (suc n) (next (value_or (k.lower (counted_at s (numbers_end s from n) % 4294967296))))
    walk_field {n} {k} w =
        let z : d + n + 1 ≡ d + suc n = omega arith in
        let r = field_any s k (record { next = refl; value = refl }) in
        record {
          here = λ i h. by_cases (ltb i n) (λ e. w.here i (ltb-true i n e)) (λ e. let q : i ≡ n = omega (arith, ltb-false i n e) in rw q (known s k w.past.reads).number);
          past = rw z at (then_past (Reads s) r (d + n) all w.past);
        }

  -- ---- a timing point, and a constraint

  pub point_walk : (f : Format) (at : ℕ) (l : List Item) → Reads s (timing_point f) at l → Walked at 0 (sheet_numbers l) 16 f
  point_walk f at l h =
      let w4 = walk_field (walk_field (walk_field (walk_field (walk_start (past_here (Reads s) l h))))) in
      let w8 = walk_field (walk_field (walk_field (walk_field w4))) in
      let w12 = walk_field (walk_field (walk_field (walk_field w8))) in
      walk_field (walk_field (walk_field (walk_field w12)))

  pub constraint_walk : (f : Format) (at : ℕ) (l : List Item) → Reads s (temporary_constraint f) at l → Walked at 0 (sheet_numbers l) 8 f
  constraint_walk f at l h =
      let w4 = walk_field (walk_field (walk_field (walk_field (walk_start (past_here (Reads s) l h))))) in
      walk_field (walk_field (walk_field (walk_field w4)))

  -- ---- parts of k numbers, one after another

  ends_add : (at a b : ℕ) → numbers_end s (numbers_end s at a) b ≡ numbers_end s at (a + b)
  ends_add at a zero = let z : a + 0 ≡ a = omega arith in rw z
  ends_add at a (suc b) = let z : a + suc b ≡ suc (a + b) = omega arith in rw z (ap (number_end s) (ends_add at a b))

  module _ {part : Format → Format} (k : ℕ) (walk : (f : Format) (at : ℕ) (l : List Item) → Reads s (part f) at l → Walked at 0 (sheet_numbers l) k f) where
    parts_end : (n at : ℕ) → times_end (λ m. numbers_end s m k) n at ≡ numbers_end s at (n * k)
    parts_end zero at = let z : 0 * k ≡ 0 = omega arith in rw z
    parts_end (suc n) at = parts_end n (numbers_end s at k) ∙ ends_add at k (n * k) ∙ (let z : k + n * k ≡ suc n * k = omega (arith, suc-mul n k) in ap (numbers_end s at) z)

    parts_here : (n : ℕ) (f : Format) {at : ℕ} (l : List Item) → Reads s (times part n f) at l → (i : ℕ) → i < n * k → NumberHere s (numbers_end s at i)
    unfolding times
    parts_here zero f l h i m = absurd (omega arith)
    parts_here (suc n) f {at} l h i m =
        let w = walk (times part n f) at l h in
        by_cases (ltb i k) (λ e. w.here i (ltb-true i k e)) λ e.
        let g : k ≤ i = ltb-false i k e in
        let z : k + (i - k) ≡ i = omega arith in
        let q = parts_here n f w.past.values w.past.reads (i - k) (omega (arith, suc-mul n k)) in
        rw (ends_add at k (i - k), z) at q

    -- the count of numbers that the code passes over
    pub parts_numbers : (n : ℕ) (f : Format) {at : ℕ} (l : List Item) → Reads s (times part n f) at l → (m : ℕ) → m ≡ n * k → Numbers s at m
    parts_numbers n f l h m e = record { ok = h.ok; here = λ i g. parts_here n f l h i (omega arith) }

    pub parts_passed : (after : ℕ → List ℕ → List ℕ) → ((z : List ℕ) → z ≡ after 0 z) → ((n : ℕ) (z : List ℕ) → after n (drop (0 + k) z) ≡ after (suc n) z) → (n at m to : ℕ) → m ≡ n * k
        → to ≡ numbers_end s at m → Passes (Reads s) (times part n) (after n) at to
    parts_passed after none more n at m to e q =
        rw (q ∙ ap (numbers_end s at) e ∙ sym (parts_end n at)) (times_pass (Reads s) (λ m. numbers_end s m k) (λ m. record { past = λ f l h. (walk f m l h).past }) after none more n at)

  pub points_passed : (n at m to : ℕ) → m ≡ n * 16 → to ≡ numbers_end s at m → Passes (Reads s) (times timing_point n) (after_points n) at to
  points_passed n at m to e q = parts_passed 16 point_walk after_points (λ z. refl) (λ n z. refl) n at m to e q

  pub constraints_passed : (n at m to : ℕ) → m ≡ n * 8 → to ≡ numbers_end s at m → Passes (Reads s) (times temporary_constraint n) (after_constraints n) at to
  constraints_passed n at m to e q = parts_passed 8 constraint_walk after_constraints (λ z. refl) (λ n z. refl) n at m to e q
