use mathlib.Core.Path.{◌≡◌, refl}
use Prim.Native.Nat.{◌+◌, ◌-◌}
use Rattle.grammar.specs.segment.Segment.{entries}
use Rattle.grammar.specs.internal.segment.Parts.{entry}
use Rattle.grammar.proofs.segment.Parts.{entries_more, entries_none}
use Rattle.packet_write_segment.proofs.elements.Writing.{along_as, along_next, along_on, along_none}
use native.Mathlib.Omega.{arith}
use Rattle.packet_write_segment.proofs.elements.entries.Goals as goal

pub entry-p-requires : goal.entry-p-requires
entry-p-requires c =
    let n = c.args.count - c.loop.counter in
    let more = along_as (λ f. entry (entries (n - 1) f)) (entries_more n (omega (arith, c.loop-test.true))) c.loop.invariant in
    (along_next entry (entries (n - 1)) more c.requires, refl)

pub loop-preserved : goal.loop-preserved
loop-preserved c =
    let n = c.args.count - c.loop.counter in
    let e : c.args.count - (c.loop.counter + 1) ≡ n - 1 = omega arith in
    let more = along_as (λ f. entry (entries (n - 1) f)) (entries_more n (omega (arith, c.loop-test.true))) c.loop.invariant in
    rw e (along_on entry (entries (n - 1)) more c.entry-p.ensures)

pub returns : goal.returns
returns c = along_none (along_as (λ f. f) (entries_none _ (omega (arith, c.loop-test.false))) c.loop.invariant)
