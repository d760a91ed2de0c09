-- `sheet_segment::profile` meets its contract.
use Rattle.kinds.specs.Kinds.{n_iter}
use Rattle.format.specs.Format.{field}
use Rattle.grammar.specs.segment.Segment.{entries}
use Rattle.format.proofs.Ways.{over_on, over_off, value_on, value_off}
use Rattle.verdict.proofs.Exits.{exit}
use Rattle.sheet_segment.proofs.profile.Goals as goal

pub returns-in_err-next : goal.returns-in_err-next
returns-in_err-next c = rw (exit c.from_residual.ensures.1) (over_off c.in_err-next.ensures)

pub returns-in_err-next-2 : goal.returns-in_err-next-2
returns-in_err-next-2 c = rw (exit c.from_residual-in_err-next-2.ensures.1) (over_on c.in_ok-next.ensures (value_off (λ v f. field (n_iter 31) (λ m. entries m f)) c.in_err-next-2.ensures))

pub returns-in_err-count : goal.returns-in_err-count
returns-in_err-count c = rw (exit c.from_residual-in_err-count.ensures.1) (over_on c.in_ok-next.ensures (value_on (λ v f. field (n_iter 31) (λ m. entries m f)) c.in_ok-next-2.ensures (value_off entries c.in_err-count.ensures)))

pub returns : goal.returns
returns c = over_on c.in_ok-next.ensures (value_on (λ v f. field (n_iter 31) (λ m. entries m f)) c.in_ok-next-2.ensures (value_on entries c.in_ok-count.ensures c.entries.ensures))
