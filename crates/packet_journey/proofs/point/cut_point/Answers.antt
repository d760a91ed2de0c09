-- `packet_journey::point::cut_point` meets its contract.
use Rattle.grammar.specs.internal.rows.Rows.{row}
use Rattle.grammar.specs.internal.journey.Parts.{stopping_widths, stopping_most}
use Rattle.format.proofs.Ways.{over_on, over_off, value_on, value_off}
use Rattle.verdict.proofs.Exits.{exit}
use Rattle.packet_journey.proofs.point.Looping.{point_over}
use Rattle.packet_journey.proofs.point.cut_point.Goals as goal

pub returns-in_err-passes : goal.returns-in_err-passes
returns-in_err-passes c = rw (exit c.from_residual.ensures.1) (point_over (over_off c.in_err-passes.ensures))

pub returns-in_err-stop_skip_passes : goal.returns-in_err-stop_skip_passes
returns-in_err-stop_skip_passes c =
    rw (exit c.from_residual-in_err-stop_skip_passes.ensures.1)
    (point_over (over_on c.in_ok-passes.ensures (value_off (λ v f. row stopping_widths (stopping_most v) f) (rw c.rule.ensures.kind at c.in_err-stop_skip_passes.ensures))))

pub returns : goal.returns
returns c =
    point_over (over_on c.in_ok-passes.ensures (value_on (λ v f. row stopping_widths (stopping_most v) f) (rw c.rule.ensures.kind at c.in_ok-stop_skip_passes.ensures) c.stopping.ensures))
