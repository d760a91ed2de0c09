-- `speed_element::profile::ended` meets its contract.
use Prim.Native.Nat.{◌-◌}
use Rattle.speed_element.proofs.Reading.{Entered}
use Rattle.speed_element.proofs.profile.ended.Given as goal

abbrev pub invariant-loop : goal.invariant-loop
invariant-loop g l = Entered (g.P.Profile.reads l.s) l.train l.open.count l.open.entries (l.open.count - l.counter) l.to l.lows
