-- `sheet_fields::read` meets its contract.
use Rattle.std.proofs.Common.{arith}
use Rattle.sheet_fields.proofs.Steps.{reads_none, reads_some}
use Rattle.sheet_fields.proofs.read.Goals as goal

pub returns-then-found-eq0 : goal.returns-then-found-eq0
returns-then-found-eq0 c = λ k. reads_none c.args.s.now c.requires c.found_at-found.ensures k (omega arith)

pub returns : goal.returns
returns c = λ k e. reads_some c.args.s.now c.requires c.found_at-found.ensures k (λ z. omega arith) (rw e c.wrapping_add_u32.ensures.value)
