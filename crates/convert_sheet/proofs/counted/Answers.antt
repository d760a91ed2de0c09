-- `convert_sheet::counted` meets its contract.
use Rattle.bits.proofs.Padding.{bytes_of}
use Rattle.verdict.proofs.Exits.{exit}
use Rattle.convert_sheet.proofs.ToPacket.{counted_refused, counted_12, counted_accepted}
use Rattle.convert_sheet.proofs.counted.Goals as goal

pub returns-in_err-n : goal.returns-in_err-n
returns-in_err-n c =
    let a = c.args in
    let ok = bytes_of a.sheet.now (λ i. (c.type_inv.sheet i).fits) in
    rw (exit c.from_residual.ensures.1) (counted_refused a.tree a.sheet.now ok _ _ c.in_err-n.ensures)

pub returns-then-n : goal.returns-then-n
returns-then-n c =
    let a = c.args in
    let ok = bytes_of a.sheet.now (λ i. (c.type_inv.sheet i).fits) in
    counted_12 a.tree a.sheet.now ok _ c.in_ok-n.ensures c.if-n.true

pub returns : goal.returns
returns c =
    let a = c.args in
    let ok = bytes_of a.sheet.now (λ i. (c.type_inv.sheet i).fits) in
    counted_accepted a.tree a.sheet.now ok _ c.in_ok-n.ensures c.if-n.false
