use Rattle.std.proofs.Common.{◌≡◌, ℕ, zero, suc, ◌-◌, refl, arith}
use Rattle.format.specs.Format.{Format, times}
use Rattle.format.proofs.Ways.{left_all, left_as}
use Rattle.grammar.specs.segment.Segment.{entries}
use Rattle.grammar.specs.internal.segment.Parts.{entry}
use Rattle.verdict.proofs.Exits.{exit}
use Rattle.sheet_fields.proofs.Loops.{count_on, count_off, count_end}
use Rattle.sheet_segment.proofs.entries.Goals as goal

as_times : (n : ℕ) (f : Format) → entries n f ≡ times entry n f
unfolding entries times
as_times zero f = refl
as_times (suc n) f = rw (as_times n f)

pub loop-init : goal.loop-init
loop-init c = let e : c.args.count - 0 ≡ c.args.count = omega arith in rw e (left_as (times entry c.args.count) (as_times c.args.count) (left_all c.requires))

pub returns-in_err-spot : goal.returns-in_err-spot
returns-in_err-spot c = rw (exit c.from_residual.ensures.1) (count_off entry c.loop.invariant c.loop-test.true c.in_err-spot.ensures)

pub loop-preserved : goal.loop-preserved
loop-preserved c = count_on entry c.loop.invariant c.loop-test.true c.in_ok-spot.ensures

pub returns : goal.returns
returns c = count_end entry c.loop.invariant (omega arith)
