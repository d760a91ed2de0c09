-- `steps::stepped` meets its contract.
use mathlib.Core.Path.{◌∙◌}
use native.Mathlib.Omega.{arith}
use Rattle.steps.proofs.Starts.{steps_none, steps_many, steps_unequal, steps_late, steps_rising}
use Rattle.steps.proofs.stepped.Goals as goal

pub returns-then-n-lt1 : goal.returns-then-n-lt1
returns-then-n-lt1 c = let a = c.args in steps_none a.lsp a.starts.now a.speeds.now c.if-n-lt1.true

pub returns-then-n-gt-MOST : goal.returns-then-n-gt-MOST
returns-then-n-gt-MOST c = let a = c.args in steps_many a.lsp a.starts.now a.speeds.now (omega (arith, c.if-n-lt1.false)) c.if-n-gt-MOST.true

pub returns-then-n-speeds : goal.returns-then-n-speeds
returns-then-n-speeds c = let a = c.args in steps_unequal a.lsp a.starts.now a.speeds.now (omega (arith, c.if-n-lt1.false)) (omega (arith, c.if-n-gt-MOST.false)) c.if-n-speeds.true

pub returns-then-starts-ne0 : goal.returns-then-starts-ne0
returns-then-starts-ne0 c =
    let a = c.args in
    steps_late a.lsp a.starts.now a.speeds.now (omega (arith, c.if-n-lt1.false)) (omega (arith, c.if-n-gt-MOST.false)) c.if-n-speeds.false c.if-starts-ne0.true

pub returns : goal.returns
returns c =
    let a = c.args in
    c.rising.ensures ∙ steps_rising a.lsp a.starts.now a.speeds.now (omega (arith, c.if-n-lt1.false)) (omega (arith, c.if-n-gt-MOST.false)) c.if-n-speeds.false c.if-starts-ne0.false
