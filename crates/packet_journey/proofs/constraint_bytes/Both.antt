-- The bytes of two values together: 0 where one of them has 0.
use mathlib.Core.Path.{◌≡◌, refl}
use Prim.Native.Nat.{ℕ, zero, suc, ◌+◌, ◌≤◌}
use native.Mathlib.Omega.{arith}
use Rattle.packet_journey.specs.internal.constraint_bytes.Bytes.{both}

pub first_none : (b : ℕ) {a : ℕ} → 0 ≡ a → 0 ≡ both a b
first_none b e = rw (← e)

pub second_none : (a : ℕ) {b : ℕ} → 0 ≡ b → 0 ≡ both a b
second_none zero e = refl
second_none (suc a) e = rw (← e)

-- each value has some bytes
added : (a b : ℕ) → (a ≡ 0 → ⊥) → (b ≡ 0 → ⊥) → a + b ≡ both a b
added zero b h l = absurd (h refl)
added (suc a) zero h l = absurd (l refl)
added (suc a) (suc b) h l = refl

pub both_some : {a b x y : ℕ} → a ≡ x → b ≡ y → (a ≡ 0 → ⊥) → (b ≡ 0 → ⊥) → a + b ≡ both x y
both_some {a} {b} ex ey h l = rw (← ex, ← ey) (added a b h l)

both_most : (a b : ℕ) → both a b ≤ a + b
both_most zero b = omega arith
both_most (suc a) zero = omega arith
both_most (suc a) (suc b) = omega arith

-- bounds of each value's bytes bound the bytes of both
pub both_within : (a b x y : ℕ) → a ≤ x → b ≤ y → both a b ≤ x + y
both_within a b x y h l = omega (arith, both_most a b)

-- where both values together have some bytes, each value has some
pub record Some (a b : ℕ) : Type 0 where
  pub first : a ≡ 0 → ⊥
  pub second : b ≡ 0 → ⊥
  pub sum : both a b ≡ a + b

pub some_both : (a b : ℕ) → (both a b ≡ 0 → ⊥) → Some a b
some_both zero b h = absurd (h refl)
some_both (suc a) zero h = absurd (h refl)
some_both (suc a) (suc b) h = record { first = λ z. omega arith; second = λ z. omega arith; sum = refl }
