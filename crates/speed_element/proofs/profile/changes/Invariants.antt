-- `speed_element::profile::changes` meets its contract.
use Rattle.speed_element.proofs.Reading.{Ending}
use Rattle.speed_element.proofs.profile.changes.Given as goal

abbrev pub invariant-loop-left : goal.invariant-loop-left
invariant-loop-left g l =
    let f = l.fn.first in
    Ending (g.P.Profile.reads l.s) l.train l.lsp l.x l.before f.«open» f.count f.next l.left l.to l.held l.«open»
