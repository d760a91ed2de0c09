-- `numbers::number_at` meets its contract.
use lib.ListN.{drop}
use Rattle.numbers.proofs.Reading.{found_number}
use Rattle.numbers.proofs.number_at.Goals as goal

pub returns : goal.returns
returns c = let a = c.args in found_number (drop a.at a.s.now) _ c.found_at.ensures _ c.number.ensures
