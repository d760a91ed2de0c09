use native.Mathlib.Omega.{arith}
use Rattle.speed_element.proofs.Reading.{ending_all, ending_next}
use Rattle.speed_element.proofs.profile.changes.Goals as goal

pub loop-left-init : goal.loop-left-init
loop-left-init g c = ending_all (g.P.Profile.reads c.args.s.now) c.requires.0 c.requires.1

pub next-n-requires : goal.next-n-requires
next-n-requires g c = (c.loop-left.invariant.more c.loop-left-test.true).readable

pub ended-held-requires : goal.ended-held-requires
ended-held-requires g c = (c.loop-left.invariant.more c.loop-left-test.true).opens

pub loop-left-preserved : goal.loop-left-preserved
loop-left-preserved g c =
    ending_next (g.P.Profile.reads c.args.s.now) (c.loop-left.invariant.more c.loop-left-test.true) c.next-n.ensures c.ended-held.ensures

pub returns : goal.returns
returns g c = c.loop-left.invariant.done (omega (arith, c.loop-left-test.false))
