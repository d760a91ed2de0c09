-- `screen::put_text` meets its contract.
use mathlib.Core.Path.{subst}
use mathlib.Core.List.{List}
use Prim.Native.Nat.{ℕ}
use Rattle.text.specs.words.Words.{Laid}
use Rattle.screen.proofs.Whole.{refused_text, accepted_packet, accepted_text}
use Rattle.screen.proofs.put_text.Goals as goal

pub returns-then-board-ne0 : goal.returns-then-board-ne0
returns-then-board-ne0 c =
    let a = c.args in
    let r = c.put_refusal in
    subst (λ (t : List ℕ). Laid a.room.now 0 t r.result r.new.room) (refused_text a.packet.now a.cards.now c.fleet_lowest-board.ensures c.if-board-ne0.true) r.ensures

pub put_cards-requires : goal.put_cards-requires
put_cards-requires c =
    let a = c.args in
    let p = c.requires in
    (p.0, accepted_packet a.packet.now a.cards.now c.fleet_lowest-board.ensures c.if-board-ne0.false, p.1)

pub returns : goal.returns
returns c =
    let a = c.args in
    let r = c.put_cards in
    subst (λ (t : List ℕ). Laid a.room.now 0 t r.result r.new.room) (accepted_text a.packet.now a.cards.now c.fleet_lowest-board.ensures c.if-board-ne0.false) r.ensures
