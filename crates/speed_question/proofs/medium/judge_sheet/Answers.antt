-- `speed_question::medium::judge_sheet` meets its contract.
use Rattle.verdict.proofs.Exits.{exit}
use Rattle.speed_question.proofs.Answering.{sheet_refused, sheet_accepted}
use Rattle.speed_question.proofs.medium.judge_sheet.Goals as goal

pub returns-in_err-judge_sheet : goal.returns-in_err-judge_sheet
returns-in_err-judge_sheet c = rw (exit c.from_residual.ensures.1) (sheet_refused _ _ _ c.in_err-judge_sheet.ensures)

pub returns : goal.returns
returns c = sheet_accepted _ _ c.in_ok-judge_sheet.ensures
