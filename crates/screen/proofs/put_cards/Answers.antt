use mathlib.Core.Path.{◌≡◌, refl, ◌∙◌, subst}
use Prim.Native.Nat.{ℕ}
use native.Mathlib.Omega.{arith}
use lib.ListN.{length}
use Rattle.text.specs.words.Words.{Laid}
use Rattle.fleet.proofs.Facts.{answer_is}
use Rattle.screen.specs.Screen.{lines_after}
use Rattle.screen.proofs.Lines.{lines_short, lines_first, lines_laid}
use Rattle.screen.proofs.put_cards.Goals as goal

pub loop-i-init : goal.loop-i-init
loop-i-init c = let a = c.args in (lines_first a.packet.now a.cards.now a.room.now, refl)

pub of_packet-s-requires : goal.of_packet-s-requires
of_packet-s-requires c = c.requires.1

pub put_card-next-requires : goal.put_card-next-requires
put_card-next-requires c =
    let a = c.args in
    let p = c.requires in
    let l = c.loop-i in
    let t = c.loop-i-test.true in
    (omega (arith, t, p.0), omega (arith, t, p.0, p.2, l.invariant.0.place, l.invariant.1, lines_short a.packet.now a.cards.now l.i))

pub loop-i-preserved : goal.loop-i-preserved
loop-i-preserved c =
    let a = c.args in
    let l = c.loop-i in
    let e = c.of_packet-s.ensures ∙ answer_is a.packet.now _ in
    (lines_laid a.packet.now a.cards.now l.i _ c.of_packet-s.result refl e l.invariant.0 c.put_card-next.ensures, c.put_card-next.auto.room ∙ l.invariant.1)

pub returns : goal.returns
returns c =
    let a = c.args in
    let l = c.loop-i in
    let z : l.i ≡ length a.cards.now = omega (arith, l.auto.i-end, c.loop-i-test.false) in
    subst (λ (i : ℕ). Laid a.room.now 0 (lines_after a.packet.now a.cards.now i) l.next l.room) z l.invariant.0

pub shape_of-room : goal.shape_of-room
shape_of-room c = c.loop-i.invariant.1
