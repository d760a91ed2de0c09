-- The names of entries as bits of two numbers: one computed test for all 64.
use mathlib.Core.Path.{◌≡◌, refl}
use mathlib.Core.Bool.{true, cond}
use Prim.Native.Nat.{ℕ, ◌+◌, ◌/◌, ◌%◌, ◌^◌, ◌<◌}
use borrow.Author.Tests.{eqb-true, ne_eqb}
use lib.Dec.{eqb}
use Rattle.bits.proofs.Tests.{each, each_at}
use Rattle.numbers.specs.Numbers.{groups_in}
use Rattle.packet_segment.specs.internal.element.Profile.{name_bytes}

-- the bytes of a name, as the code finds them
abbrev found : ℕ → ℕ
found t = cond (eqb (30065231871 / 2 ^ t % 2) 0) 0 (2 + 2044 / 2 ^ t % 2)

all_names : each 64 (λ t. eqb (found t) (name_bytes (t / 16) (t % 16))) ≡ true
unfolding groups_in
all_names = refl

module _ (t : ℕ) (h : t < 64) where
  name_found : found t ≡ name_bytes (t / 16) (t % 16)
  name_found = eqb-true (found t) (name_bytes (t / 16) (t % 16)) (each_at 64 (λ u. eqb (found u) (name_bytes (u / 16) (u % 16))) all_names t h)

  pub name_off : 30065231871 / 2 ^ t % 2 ≡ 0 → 0 ≡ name_bytes (t / 16) (t % 16)
  name_off e = rw e at name_found

  pub name_on : (30065231871 / 2 ^ t % 2 ≡ 0 → ⊥) → 2 + 2044 / 2 ^ t % 2 ≡ name_bytes (t / 16) (t % 16)
  name_on n = rw (ne_eqb (30065231871 / 2 ^ t % 2) 0 n) at name_found
