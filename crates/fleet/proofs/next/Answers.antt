-- `fleet::next` meets its contract, by the tests that led to each answer.
use mathlib.Core.Path.{sym, ap, ◌∙◌}
use native.Mathlib.Omega.{arith}
use Rattle.fleet.specs.internal.Turns.{turned}
use Rattle.fleet.proofs.After.{turned_stays, turned_to, after_first, after_refused, after_keeps, after_takes}
use Rattle.fleet.proofs.Facts.{answer_is}
use Rattle.fleet.proofs.next.Goals as goal

pub returns-then-best-ne0 : goal.returns-then-best-ne0
returns-then-best-ne0 c = let a = c.args in sym (turned_stays a.best a.i _ c.if-best-ne0.true)

pub of_packet-s-requires : goal.of_packet-s-requires
of_packet-s-requires c = c.requires.1 c.if-best-ne0.false

pub returns-then-i-eq0 : goal.returns-then-i-eq0
returns-then-i-eq0 c =
    let a = c.args in
    let s = c.of_packet-s in
    let p = c.if-best-ne0.false in
    c.alone.ensures ∙ turned_to a.best a.i s.result p (after_first a.best a.i s.result c.if-i-eq0.true)
    ∙ ap (turned a.best a.i) (s.ensures ∙ answer_is a.packet.now a.card)

pub returns-then-s-ne0 : goal.returns-then-s-ne0
returns-then-s-ne0 c =
    let a = c.args in
    let s = c.of_packet-s in
    let p = c.if-best-ne0.false in
    c.alone-then-s-ne0.ensures ∙ turned_to a.best a.i s.result p (after_refused a.best a.i s.result c.if-i-eq0.false p c.if-s-ne0.true)
    ∙ ap (turned a.best a.i) (s.ensures ∙ answer_is a.packet.now a.card)

pub returns-then-best-s : goal.returns-then-best-s
returns-then-best-s c =
    let a = c.args in
    let s = c.of_packet-s in
    let p = c.if-best-ne0.false in
    turned_to a.best a.i s.result p (after_keeps a.best a.i s.result c.if-i-eq0.false p c.if-s-ne0.false c.if-best-s.true)
    ∙ ap (turned a.best a.i) (s.ensures ∙ answer_is a.packet.now a.card)

pub returns : goal.returns
returns c =
    let a = c.args in
    let s = c.of_packet-s in
    let p = c.if-best-ne0.false in
    c.alone-2.ensures
    ∙ turned_to a.best a.i s.result p (after_takes a.best a.i s.result c.if-i-eq0.false p c.if-s-ne0.false (omega (arith, c.if-best-s.false)))
    ∙ ap (turned a.best a.i) (s.ensures ∙ answer_is a.packet.now a.card)
