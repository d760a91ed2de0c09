use mathlib.Core.Path.{refl}
use native.Mathlib.Omega.{arith}
use Rattle.bits.proofs.Padding.{bytes_of}
use Rattle.shelf.proofs.Entries.{left_start, left_stands, left_range, left_moves}
use Rattle.shelf.proofs.Searching.{Gapped, gapped_here, gapped_next, gapped_over}
use Rattle.shelf.proofs.run.gap.Goals as goal

pub loop-at-init : goal.loop-at-init
loop-at-init c = let a = c.args in left_start a.run.now (Gapped a.run.now a.mine) c.requires refl

pub entry_at-e-requires : goal.entry_at-e-requires
entry_at-e-requires c = let a = c.args in left_stands a.run.now (Gapped a.run.now a.mine) c.loop-at.invariant c.requires.short c.loop-at-test.true

pub number_of-requires : goal.number_of-requires
number_of-requires c =
    let a = c.args in
    left_range a.run.now (Gapped a.run.now a.mine) c.loop-at.invariant c.requires.short c.loop-at-test.true c.entry_at-e.ensures (bytes_of a.run.now (λ i. (c.type_inv.run i).fits))

pub returns-then-mine-number_of : goal.returns-then-mine-number_of
returns-then-mine-number_of c =
    let a = c.args in
    gapped_here a.run.now a.mine c.loop-at.invariant c.requires.short c.loop-at-test.true c.entry_at-e.ensures (omega (arith, c.if-mine-number_of.true, c.number_of.ensures))

pub loop-at-smaller : goal.loop-at-smaller
loop-at-smaller c =
    let a = c.args in
    left_moves a.run.now (Gapped a.run.now a.mine) c.loop-at.invariant c.requires.short c.loop-at-test.true c.entry_at-e.ensures

pub loop-at-preserved : goal.loop-at-preserved
loop-at-preserved c =
    let a = c.args in
    gapped_next a.run.now a.mine c.loop-at.invariant c.requires.short c.loop-at-test.true c.entry_at-e.ensures (omega (arith, c.if-mine-number_of.false, c.number_of.ensures))

pub returns : goal.returns
returns c = let a = c.args in gapped_over a.run.now a.mine c.loop-at.invariant (omega (arith, c.loop-at-test.false))
