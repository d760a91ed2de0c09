-- `fleet::started` meets its contract.
use mathlib.Core.Path.{sym, ap, ap₂, ◌∙◌}
use mathlib.Core.List.{List}
use Prim.Native.Nat.{ℕ}
use Rattle.std.proofs.Common.{Bor}
use Rattle.speed_question.specs.declared.medium.Medium.{Medium}
use Rattle.speed_question.specs.internal.Run.{brought_as, segments_of, all_accepted}
use Rattle.fleet.specs.Fleet.{no_board}
use Rattle.fleet.proofs.Facts.{started_none, started_refused, started_accepted}
use Rattle.fleet.proofs.started.Goals as goal

pub returns-then-n-eq0 : goal.returns-then-n-eq0
returns-then-n-eq0 c = let a = c.args in c.refused.ensures ∙ ap (λ (r : ℕ). no_board r 0) c.from.ensures ∙ started_none a.n a.packet.now c.if-n-eq0.true

pub returns-in-Err : goal.returns-in-Err
returns-in-Err c =
    c.refused-in-Err.ensures ∙ ap (λ (n : ℕ). no_board n c.in-Err.field-0.1) c.from-in-Err.ensures
    ∙ started_refused c.args.n c.if-n-eq0.false c.args.packet.now c.in-Err.ensures

pub returns-in-Ok : goal.returns-in-Ok
returns-in-Ok c =
    let r = c.in-Ok.field-0 in
    let h = c.in-Ok.ensures {u = tt} in
    c.refused-in-Ok.ensures
    ∙ started_accepted c.args.n c.if-n-eq0.false c.args.packet.now
    (ap₂ (λ (m : Medium) (l : List (Bor (List ℕ))). all_accepted (brought_as m) (segments_of l)) (sym h.0) (sym h.1) ∙ r.accepted)
