-- `speed_element::Lows::with` meets its contract.
use native.Mathlib.Omega.{arith}
use Rattle.speed_element.proofs.Lowest.{entry_more, low_with}
use Rattle.speed_element.proofs.Lows.with.Goals as goal

pub returns : goal.returns
returns c =
    let a = c.args in
    let t = a.train in
    let m = c.belongs_to-member.ensures in
    entry_more t a.self _ a.q_diff a.class a.v _ c.requires (omega arith) c.distance-far.ensures
    c.min.ensures
    (low_with t 1 a.q_diff a.class a.v a.self.replacing (omega arith) c.requires m c.counted.ensures c.min-2.ensures)
    (low_with t 2 a.q_diff a.class a.v a.self.lowering (omega arith) c.requires m c.counted-2.ensures c.min-3.ensures)
