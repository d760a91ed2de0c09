use native.Mathlib.Omega.{arith}
use Rattle.speed_sheet.proofs.Amid.{amid_start, amid_inside, amid_next, amid_end}
use Rattle.speed_sheet.proofs.numbers_end.Goals as goal

pub loop-ended-init : goal.loop-ended-init
loop-ended-init c = amid_start c.requires 0 (omega arith)

pub bounds-s-to : goal.bounds-s-to
bounds-s-to c = amid_inside c.requires c.loop-ended.invariant c.loop-ended-test.true

pub overflow_add-to : goal.overflow_add-to
overflow_add-to c = omega (arith, amid_inside c.requires c.loop-ended.invariant c.loop-ended-test.true)

pub loop-ended-smaller : goal.loop-ended-smaller
loop-ended-smaller c = omega (arith, amid_inside c.requires c.loop-ended.invariant c.loop-ended-test.true)

pub loop-ended-preserved : goal.loop-ended-preserved
loop-ended-preserved c =
    let l = c.loop-ended in
    amid_next c.requires l.invariant c.loop-ended-test.true c.wide.result c.wide.ensures (omega (arith, c.wide.ensures, c.type_inv.s l.to))

pub returns : goal.returns
returns c = amid_end c.loop-ended.invariant (omega (arith, c.loop-ended-test.false))
