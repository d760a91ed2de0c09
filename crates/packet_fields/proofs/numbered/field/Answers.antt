-- `packet_fields::numbered::field` meets its contract.
use native.Mathlib.Omega.{arith}
use mathlib.Core.Path.{sym}
use Rattle.kinds.specs.internal.numbered.Rules.{meaning}
use Rattle.packet_fields.proofs.Steps.{took_none, took_some}
use Rattle.packet_fields.proofs.numbered.field.Goals as goal

pub returns-then-bytes-eq0 : goal.returns-then-bytes-eq0
returns-then-bytes-eq0 c =
    let a = c.args in
    let w = c.width-width.ensures in
    rw c.refusal.ensures
    (took_none a.s.now a.stop (meaning a.rule) _ (sym w) c.requires.0 (omega (arith, w, c.requires.1.some)) (omega arith) c.read_window-v.ensures c.by-bytes.ensures c.if-bytes-eq0.true)

pub returns : goal.returns
returns c =
    let a = c.args in
    let w = c.width-width.ensures in
    took_some a.s.now a.stop (meaning a.rule) _ (sym w) c.requires.0 (omega (arith, w, c.requires.1.some)) (omega arith) c.read_window-v.ensures c.by-bytes.ensures c.if-bytes-eq0.false
