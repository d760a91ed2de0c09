use Prim.Native.Nat.{◌+◌}
use Rattle.numbers.proofs.accepted.Groups.{rest_group, rest_start, rest_few, rest_inside, rest_last, rest_value, rest_scale, rest_more, rest_reads}
use mathlib.Core.Path.{◌≡◌, refl}
use native.Mathlib.Omega.{arith}
use Rattle.numbers.proofs.accepted.longer.Goals as goal

pub loop-i-init : goal.loop-i-init
loop-i-init c =
    let a = c.args in
    let z : a.from + 0 ≡ a.from = omega arith in
    rw z (rest_start a.s.now a.from c.requires.value _ c.requires.is refl (c.type_inv.s a.from).fits)

pub overflow_add-from : goal.overflow_add-from
overflow_add-from c = omega (arith, rest_inside c.loop-i.invariant)

pub bounds-s-from : goal.bounds-s-from
bounds-s-from c = rest_inside c.loop-i.invariant

pub overflow_mul-result : goal.overflow_mul-result
overflow_mul-result c =
    let r = rest_group c.loop-i.invariant c.from-b.ensures in
    omega (arith, rest_last r c.if-b-lt128.true, r.small)

pub overflow_add-result : goal.overflow_add-result
overflow_add-result c =
    let r = rest_group c.loop-i.invariant c.from-b.ensures in
    omega (arith, rest_last r c.if-b-lt128.true, r.small)

pub overflow_add-result-then-b-lt128 : goal.overflow_add-result-then-b-lt128
overflow_add-result-then-b-lt128 c = omega (arith, rest_inside c.loop-i.invariant)

pub overflow_add-result-then-b-lt128-2 : goal.overflow_add-result-then-b-lt128-2
overflow_add-result-then-b-lt128-2 c = omega (arith, rest_inside c.loop-i.invariant)

pub returns-then-b-lt128 : goal.returns-then-b-lt128
returns-then-b-lt128 c =
    let r = rest_group c.loop-i.invariant c.from-b.ensures in
    let l = rest_last r c.if-b-lt128.true in
    rest_reads r l.0 l.1

pub overflow_mul-value : goal.overflow_mul-value
overflow_mul-value c =
    let r = rest_group c.loop-i.invariant c.from-b.ensures in
    omega (arith, rest_value r c.if-b-lt128.false, r.small)

pub overflow_add-value : goal.overflow_add-value
overflow_add-value c =
    let r = rest_group c.loop-i.invariant c.from-b.ensures in
    omega (arith, rest_value r c.if-b-lt128.false, r.small)

pub overflow_mul-scale : goal.overflow_mul-scale
overflow_mul-scale c =
    let r = rest_group c.loop-i.invariant c.from-b.ensures in
    omega (arith, rest_scale r c.if-b-lt128.false, r.small)

pub loop-i-preserved : goal.loop-i-preserved
loop-i-preserved c =
    let r = rest_group c.loop-i.invariant c.from-b.ensures in
    let p : c.args.from + (c.loop-i.i + 1) ≡ c.args.from + c.loop-i.i + 1 = omega arith in
    rw p (rest_more r c.if-b-lt128.false _ refl (c.type_inv.s (c.args.from + c.loop-i.i + 1)).fits)

pub unreachable-requires : goal.unreachable-requires
unreachable-requires c = omega (arith, rest_few c.loop-i.invariant)
