-- `intake::sheet` meets its contract.
use mathlib.Core.Path.{sym, ◌∙◌}
use native.Mathlib.Omega.{arith}
use Rattle.intake.proofs.Outcomes.{early_asked, unjudged_asked, refused_asked, sheet_asked}
use Rattle.intake.proofs.sheet.Goals as goal

pub returns-then-intake-ne-JUDGED : goal.returns-then-intake-ne-JUDGED
returns-then-intake-ne-JUDGED c =
    let a = c.args in
    early_asked a.intake a.taken.now a.room.now c.if-intake-ne-JUDGED.true c.refused.ensures

pub returns-then-intake-eq0 : goal.returns-then-intake-eq0
returns-then-intake-eq0 c =
    let a = c.args in
    sheet_asked a.intake a.taken.now a.room.now (omega arith) (sym c.is_verdict.ensures ∙ c.if-is_verdict.true) (omega arith)
    c.judged_sheet.ensures

pub returns-then-is_verdict : goal.returns-then-is_verdict
returns-then-is_verdict c =
    let a = c.args in
    refused_asked a.intake a.taken.now a.room.now (omega arith) (sym c.is_verdict.ensures ∙ c.if-is_verdict.true) c.if-intake-eq0.false
    c.refused-then-is_verdict.ensures

pub returns : goal.returns
returns c =
    let a = c.args in
    unjudged_asked a.intake a.taken.now a.room.now (omega arith) (sym c.is_verdict.ensures ∙ c.if-is_verdict.false) c.refused-2.ensures
