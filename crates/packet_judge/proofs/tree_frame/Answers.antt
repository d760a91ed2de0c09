-- `packet_judge::tree_frame` meets its contract.
use Rattle.packet_judge.proofs.tree_frame.Goals as goal

pub returns : goal.returns
returns c = rw c.number.ensures at c.judge_frame.ensures
