-- NID_OPERATIONAL's digits have their bits, and no more.
use Rattle.std.proofs.Common.{◌≡◌, ℕ, zero, suc, ◌/◌, ◌%◌, ◌^◌, ◌<◌, true, arith, eqb-true}
use native.Mathlib.Nat.{pow-succ'}
use Rattle.bits.proofs.Tests.{and_right}
use Rattle.kinds.specs.Kinds.{digit, digits}

pub digits_small : (n v : ℕ) → digits n v ≡ true → v < 16 ^ n
unfolding digits
digits_small zero v e = omega (arith, eqb-true v 0 e)
digits_small (suc n) v e = omega (arith, digits_small n (v / 16) (and_right (digit (v % 16)) (digits n (v / 16)) e), pow-succ' 16 n)
