use mathlib.Core.Path.{refl, sym}
use native.Mathlib.Omega.{arith}
use Rattle.shelf.proofs.Entries.{left_start, left_stands, left_moves}
use Rattle.shelf.proofs.Searching.{Asked, asked_here, asked_next, asked_over}
use Rattle.shelf.proofs.run.keeps.Goals as goal

pub loop-at-init : goal.loop-at-init
loop-at-init c = let a = c.args in left_start a.run.now (Asked a.run.now a.key) c.requires refl

pub entry_at-e-requires : goal.entry_at-e-requires
entry_at-e-requires c = let a = c.args in left_stands a.run.now (Asked a.run.now a.key) c.loop-at.invariant c.requires.short c.loop-at-test.true

pub returns-then-eq : goal.returns-then-eq
returns-then-eq c =
    let a = c.args in
    asked_here a.run.now a.key c.loop-at.invariant c.requires.short c.loop-at-test.true c.entry_at-e.ensures (sym c.if-eq.ensures)

pub loop-at-smaller : goal.loop-at-smaller
loop-at-smaller c =
    let a = c.args in
    left_moves a.run.now (Asked a.run.now a.key) c.loop-at.invariant c.requires.short c.loop-at-test.true c.entry_at-e.ensures

pub loop-at-preserved : goal.loop-at-preserved
loop-at-preserved c =
    let a = c.args in
    asked_next a.run.now a.key c.loop-at.invariant c.requires.short c.loop-at-test.true c.entry_at-e.ensures (sym c.if-eq.ensures)

pub returns : goal.returns
returns c = let a = c.args in asked_over a.run.now a.key c.loop-at.invariant (omega (arith, c.loop-at-test.false))
