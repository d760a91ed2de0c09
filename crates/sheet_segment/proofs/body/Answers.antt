-- `sheet_segment::body` meets its contract.
use Rattle.grammar.specs.internal.segment.Parts.{offset_rows}
use Rattle.format.proofs.Ways.{over_on, value_on, value_off}
use Rattle.verdict.proofs.Exits.{exit}
use Rattle.sheet_segment.proofs.body.Goals as goal

pub returns-in_err-lsp : goal.returns-in_err-lsp
returns-in_err-lsp c = rw (exit c.from_residual-in_err-lsp.ensures.1) (over_on c.in_ok-next.ensures (value_off offset_rows c.in_err-lsp.ensures))

pub returns : goal.returns
returns c = over_on c.in_ok-next.ensures (value_on offset_rows c.in_ok-lsp.ensures c.after_length.ensures)
