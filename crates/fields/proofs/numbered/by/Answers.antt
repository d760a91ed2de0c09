-- `fields::numbered::by` meets its contract.
use Rattle.fields.proofs.numbered.by.Goals as goal

pub returns-in-Range : goal.returns-in-Range
returns-in-Range c = rw c.in-Range.is (c.within.ensures 0 _)
