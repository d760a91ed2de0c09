-- The packet values of an accepted constraint's numbers, for any type and range.
use mathlib.Core.Path.{◌≡◌, refl, sym, ap}
use mathlib.Core.Option.{some}
use Prim.Native.Nat.{ℕ}
use native.Mathlib.Omega.{arith}
use borrow.Author.Tests.{eqb-true}
use lib.Dec.{lit<}
use Rattle.kinds.specs.Kind.{up_to, when}
use Rattle.kinds.specs.Kinds.{speed, no_current}
use Rattle.fields.proofs.Lawful.{narrow, up_to_lawful, none_lawful}
use Rattle.fields.specs.internal.lower.Lowered.{value_or, lowered}
use Rattle.kinds.specs.journey.Kinds.{d_tc_end_location, v_speed_level}
use Rattle.grammar.proofs.journey.Tree.{by_range, by_type}

-- the end's packet value is its number
pub end_same : (range start n : ℕ) → (d_tc_end_location range start).lower n ≡ when ((d_tc_end_location range start).allowed n) n
end_same range start n = by_range (λ k. k.lower n ≡ when (k.allowed n) n) range start refl refl

-- an unused speed is 0 in the sheet and in the packet
unused : (n v : ℕ) → (up_to 7 0).lower n ≡ some v → v ≡ lowered speed n
unused n v e =
    let w = up_to_lawful 7 0 (narrow tt) (lit< tt) in
    let a : n ≡ 0 = omega (arith, w.top n v e) in
    let b : v ≡ 0 = omega (arith, w.most v (w.into n v e)) in
    rw (a, b)

-- the speed's packet value is its number lowered, for any type
pub level_steps : (type n v : ℕ) → (v_speed_level type).lower n ≡ some v → v ≡ lowered speed n
level_steps type n v = by_type (λ k. k.lower n ≡ some v → v ≡ lowered speed n) type (λ e. sym (ap (value_or 128) e)) (unused n v)

-- the current is never used
pub no_limit : (n v : ℕ) → no_current.lower n ≡ some v → v ≡ 1023
no_limit n v e = eqb-true v 1023 (none_lawful.into n v e)
