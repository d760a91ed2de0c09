-- `screen::screen` meets its contract.
use mathlib.Core.Path.{ap, ◌∙◌}
use Prim.Native.Nat.{ℕ}
use native.Mathlib.Omega.{arith}
use lib.ListN.{take}
use Rattle.text.specs.Listing.{refused_line}
use Rattle.screen.specs.Screen.{text_of}
use Rattle.screen.proofs.Whole.{file_refused, file_cards, screen_laid}
use Rattle.screen.proofs.screen.Goals as goal

pub returns-in-Err : goal.returns-in-Err
returns-in-Err c =
    let a = c.args in
    screen_laid a.cards.now a.packet.now a.room.now (refused_line _ _) (omega arith) c.put_refusal.ensures
    (ap (λ (n : ℕ). refused_line n c.in-Err.field-0.1) c.from.ensures ∙ file_refused a.cards.now a.packet.now c.in-Err.ensures)

pub returns-in-Ok : goal.returns-in-Ok
returns-in-Ok c =
    let a = c.args in
    screen_laid a.cards.now a.packet.now a.room.now (text_of a.packet.now (take c.in-Ok.n c.cards_in-all.result)) (omega arith) c.put_text.ensures
    (ap (text_of a.packet.now) c.cards_in-all.ensures ∙ file_cards a.cards.now a.packet.now c.read_cards.auto.values c.in-Ok.ensures)
