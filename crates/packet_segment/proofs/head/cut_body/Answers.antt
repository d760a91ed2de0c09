-- `packet_segment::head::cut_body` meets its contract.
use Rattle.format.proofs.Ways.{gave_on, gave_off, gave_took, gave_then, gave_stop, gave_none}
use Rattle.verdict.proofs.Exits.{exit}
use Rattle.grammar.specs.internal.rows.Rows.{row}
use Rattle.grammar.specs.internal.segment.Parts.{offset_widths, offset_most}
use Rattle.packet_segment.proofs.head.cut_body.Goals as goal

pub returns-in_err-length : goal.returns-in_err-length
returns-in_err-length c = rw (exit c.from_residual.ensures.1) (gave_off (rw (c.identity_widths-widths.ensures, c.identity_most-most.ensures) at c.in_err-length.ensures))

pub returns-in_err-lsp : goal.returns-in_err-lsp
returns-in_err-lsp c =
    rw (exit c.from_residual-in_err-lsp.ensures.1)
    (gave_on (rw (c.identity_widths-widths.ensures, c.identity_most-most.ensures) at c.in_ok-length.ensures)
    (gave_none (row offset_widths offset_most) (gave_took (rw c.rule.ensures.kind at c.in_err-lsp.ensures))))

pub returns-in_err-profile : goal.returns-in_err-profile
returns-in_err-profile c =
    rw (exit c.from_residual-in_err-profile.ensures.1)
    (gave_on (rw (c.identity_widths-widths.ensures, c.identity_most-most.ensures) at c.in_ok-length.ensures)
    (gave_stop (gave_took (rw c.rule.ensures.kind at c.in_ok-lsp.ensures)) c.in_err-profile.ensures))

pub returns : goal.returns
returns c =
    gave_on (rw (c.identity_widths-widths.ensures, c.identity_most-most.ensures) at c.in_ok-length.ensures)
    (gave_then (gave_took (rw c.rule.ensures.kind at c.in_ok-lsp.ensures)) c.in_ok-profile.ensures)
