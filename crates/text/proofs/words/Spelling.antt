-- The digits of a number spell it.
use mathlib.Core.Path.{◌≡◌, refl}
use mathlib.Core.List.{List, [], ◌∷◌, ◌++◌}
use Prim.Native.Nat.{ℕ, zero, suc, ◌+◌, ◌*◌, ◌-◌, ◌/◌, ◌%◌, ◌^◌, ◌<◌}
use native.Mathlib.Nat.{pow-suc}
use native.Mathlib.Omega.{arith}
use lib.Dec.{ltb}
use Rattle.bits.proofs.Tests.{by_cases}
use Rattle.text.specs.words.Words.{digit_byte, digits_of, decimal, spelt}

spelt_append : (n : ℕ) (s t : List ℕ) → spelt n (s ++ t) ≡ spelt (spelt n s) t
spelt_append n [] t = refl
spelt_append n (b ∷ s) t = spelt_append (10 * n + (b - 48)) s t

digits_spell : (n v : ℕ) → v < 10 ^ n → spelt 0 (digits_of n v) ≡ v
digits_spell zero v h = omega arith
digits_spell (suc n) v h =
    by_cases (ltb v 10)
    (λ e. rw e (omega arith))
    (λ e. rw (e, spelt_append 0 (digits_of n (v / 10)) (digit_byte (v % 10) ∷ []), digits_spell n (v / 10) (omega (arith, pow-suc 10 n))) (omega arith))

pub decimal_spells : (v : ℕ) → v < 2 ^ 32 → spelt 0 (decimal v) ≡ v
unfolding decimal
decimal_spells v h = digits_spell 10 v (omega arith)
