use mathlib.Core.Path.{◌∙◌}
use lib.ListN.{length}
use Rattle.steps.proofs.Places.{stretching_first, span_early, span_holds, span_late, stretching_last}
use Rattle.steps.proofs.looking.stretch_from.Goals as goal
use Rattle.steps.proofs.looking.stretch_from.Goals.{then-y-span, else-y-span+then-y-span-2, else-y-span+else-y-span-2}

pub loop-i-init : goal.loop-i-init
loop-i-init c =
    let a = c.args in
    stretching_first (length a.spans.now) a.spans.now a.y a.end c.requires.0 c.requires.1 c.requires.2

pub loop-i-preserved : goal.loop-i-preserved
loop-i-preserved c =
    let g = c.loop-i.invariant in
    let a = c.args in
    let l = a.spans.now in
    let n = length l in
    let h = c.loop-i-test.true in
    elim c.if-y-span.branch [
      | then-y-span w ↦ span_early n l a.y a.end g h w.if-y-span.true (w.until-is ∙ w.min-until.ensures) w.low-is
      | else-y-span+then-y-span-2 w ↦ span_holds n l a.y a.end g h w.if-y-span.false w.if-y-span-2.true (w.until-is ∙ w.min-until-then-y-span-2.ensures) (w.low-is ∙ w.lower-low.ensures)
      | else-y-span+else-y-span-2 w ↦ span_late n l a.y a.end g h w.if-y-span-2.false w.until-is w.low-is
    ]

pub returns : goal.returns
returns c =
    let a = c.args in
    stretching_last (length a.spans.now) a.spans.now a.y a.end c.loop-i.invariant c.loop-i-test.false
