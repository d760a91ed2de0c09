-- `fleet::fleet_lowest` meets its contract: at most 64 cards are asked, the loop's state is a function of i alone, and at the count it is the board.
use mathlib.Core.Path.{◌≡◌, sym, ap, ◌∙◌}
use Prim.Native.Nat.{◌≤◌}
use lib.ListN.{length, take, get_or}
use lib.Seq.{length-take-le, get_or-take}
use native.Mathlib.Omega.{arith}
use Rattle.fleet.specs.Fleet.{no_card, answer_of, board_after}
use Rattle.fleet.specs.declared.Board.{Board}
use Rattle.fleet.specs.declared.Card.{Card}
use Rattle.fleet.specs.internal.Turns.{came_to, turned}
use Rattle.fleet.proofs.Facts.{asked_most, came_first, came_next, came_accepted, came_last}
use Rattle.fleet.proofs.fleet_lowest.Goals.{After-started-best}
use Rattle.fleet.proofs.fleet_lowest.Goals as goal

few : (c : After-started-best) → (c.asked-n.result ≤ length c.args.cards.now) × (c.asked-n.result ≤ 64)
few c = let m = asked_most (length c.args.cards.now) in (omega (arith, m.0, c.asked-n.ensures), omega (arith, m.1, c.asked-n.ensures))

taken : (c : After-started-best) → length (take c.asked-n.result c.args.cards.now) ≡ c.asked-n.result
taken c = length-take-le c.asked-n.result c.args.cards.now (few c).0

pub slice_bounds-card-items-end : goal.slice_bounds-card-items-end
slice_bounds-card-items-end c = sym (taken c)

pub loop-i-init : goal.loop-i-init
loop-i-init c = let a = c.args in c.started-best.ensures ∙ came_first c.asked-n.result a.packet.now a.cards.now

pub next-best-requires : goal.next-best-requires
next-best-requires c =
    let a = c.args in
    let l = c.loop-i in
    let d = (goal.at.next-best-requires c).After-started-best in (
      omega (arith, few d, taken d, c.loop-i-test.true),
      λ e. came_accepted c.asked-n.result a.packet.now a.cards.now l.i (sym (ap (λ (b : Board). b.refusal) l.invariant) ∙ e),
    )

pub loop-i-preserved : goal.loop-i-preserved
loop-i-preserved c =
    let a = c.args in
    let l = c.loop-i in
    let n = c.asked-n.result in
    let d = (goal.at.loop-i-preserved c).After-started-best in
    c.next-best.ensures
    ∙ ap (λ (k : Card). turned l.best l.i (answer_of a.packet.now k)) (get_or-take n a.cards.now l.i no_card (omega (arith, taken d, c.loop-i-test.true)))
    ∙ ap (λ (b : Board). turned b l.i (answer_of a.packet.now (get_or a.cards.now l.i no_card))) l.invariant
    ∙ came_next n a.packet.now a.cards.now l.i

pub returns : goal.returns
returns c =
    let a = c.args in
    let l = c.loop-i in
    let n = c.asked-n.result in
    let e : l.i ≡ n = omega (arith, l.auto.i-end, c.loop-i-test.false, taken (goal.at.returns c).After-started-best) in
    l.invariant ∙ ap (came_to n a.packet.now a.cards.now) e ∙ came_last a.packet.now a.cards.now n ∙ ap (board_after a.packet.now a.cards.now) c.asked-n.ensures
