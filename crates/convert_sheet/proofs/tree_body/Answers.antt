-- `convert_sheet::tree_body` meets its contract.
use Rattle.convert_sheet.proofs.tree_body.Goals as goal

pub body-requires : goal.body-requires
body-requires c = rw c.in-Segment.is at c.requires

pub body-requires-in-Journey : goal.body-requires-in-Journey
body-requires-in-Journey c = rw c.in-Journey.is at c.requires

pub returns-in-Segment : goal.returns-in-Segment
returns-in-Segment c = rw c.in-Segment.is c.body.ensures

pub returns-in-Journey : goal.returns-in-Journey
returns-in-Journey c = rw c.in-Journey.is c.body-in-Journey.ensures
