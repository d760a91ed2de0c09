use mathlib.Core.Path.{◌≡◌, sym, ◌∙◌}
use Prim.Native.Nat.{◌+◌, ◌-◌}
use native.Mathlib.Omega.{arith}
use Rattle.speed_element.proofs.Reading.{entered_all, entered_next, entry_readable, ended_read, ended_not}
use Rattle.speed_element.proofs.profile.ended.Goals as goal

pub returns-then-not-holds : goal.returns-then-not-holds
returns-then-not-holds g c = ended_not (g.P.Profile.reads c.args.s.now) (sym c.holds.ensures ∙ c.if-not-holds.true)

pub loop-init : goal.loop-init
loop-init g c =
    let z : c.args.«open».count - 0 ≡ c.args.«open».count = omega arith in
    rw (z, c.no_lows-lows.ensures) (entered_all (g.P.Profile.reads c.args.s.now) c.requires.readable)

pub entry-e-requires : goal.entry-e-requires
entry-e-requires g c = (c.tables-tables.ensures, entry_readable (g.P.Profile.reads c.args.s.now) (omega (arith, c.loop-test.true)) c.loop.invariant.readable)

pub loop-preserved : goal.loop-preserved
loop-preserved g c =
    let n = c.args.«open».count in
    let i = c.loop.counter in
    let z : n - (i + 1) ≡ n - i - 1 = omega arith in
    rw z (entered_next (g.P.Profile.reads c.args.s.now) (omega (arith, c.loop-test.true)) c.loop.invariant c.entry-e.ensures)

pub returns : goal.returns
returns g c =
    let l = c.loop in
    ended_read (g.P.Profile.reads c.args.s.now) (sym c.holds.ensures ∙ c.if-not-holds.false) l.invariant (omega (arith, c.loop-test.false)) c.lowered.ensures (omega arith)
