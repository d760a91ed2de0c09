-- `sheet_journey::body` meets its contract.
use Rattle.format.specs.Format.{field, times}
use Rattle.kinds.specs.journey.Kinds.{n_iter_sp}
use Rattle.grammar.specs.journey.Journey.{journey_segment, constraints}
use Rattle.format.proofs.Ways.{value_on, value_off}
use Rattle.verdict.proofs.Exits.{exit}
use Rattle.sheet_journey.proofs.body.Goals as goal

pub returns-in_err-next : goal.returns-in_err-next
returns-in_err-next c = rw (exit c.from_residual.ensures.1) (value_off (λ v f. field n_iter_sp (λ n. times (journey_segment constraints) n f)) c.in_err-next.ensures)

pub returns-in_err-count : goal.returns-in_err-count
returns-in_err-count c = rw (exit c.from_residual-in_err-count.ensures.1) (value_on (λ v f. field n_iter_sp (λ n. times (journey_segment constraints) n f)) c.in_ok-next.ensures (value_off (times (journey_segment constraints)) c.in_err-count.ensures))

pub returns : goal.returns
returns c = value_on (λ v f. field n_iter_sp (λ n. times (journey_segment constraints) n f)) c.in_ok-next.ensures (value_on (times (journey_segment constraints)) c.in_ok-count.ensures c.segments.ensures)
