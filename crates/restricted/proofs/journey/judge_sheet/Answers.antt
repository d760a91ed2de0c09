-- `restricted::journey::judge_sheet` meets its contract.
use Rattle.verdict.proofs.Exits.{exit}
use Rattle.restricted.proofs.Journeys.{sheet_refused, sheet_accepted}
use Rattle.restricted.proofs.journey.judge_sheet.Goals as goal

pub returns-in_err-counted : goal.returns-in_err-counted
returns-in_err-counted c = rw (exit c.from_residual.ensures.1) (sheet_refused _ _ _ c.in_err-counted.ensures)

pub returns : goal.returns
returns c = sheet_accepted _ _ c.in_ok-counted.ensures
