use mathlib.Core.Path.{◌≡◌}
use Prim.Native.Nat.{◌+◌, ◌-◌}
use Rattle.grammar.specs.internal.segment.Parts.{start_of}
use Rattle.grammar.proofs.segment.Parts.{changes_none}
use Rattle.packet_write_segment.proofs.elements.Writing.{along_as, along_none, next_fits}
use Rattle.packet_write_segment.proofs.Steps.{location_next, change_ready, change_on}
use native.Mathlib.Omega.{arith}
use Rattle.packet_write_segment.proofs.changes.Goals as goal

pub copy_number-x-requires : goal.copy_number-x-requires
copy_number-x-requires c =
    let l = c.loop in
    next_fits (location_next c.args.part c.args.lsp c.args.count l.last (c.args.count - l.counter) c.requires.0 c.requires.1 l.invariant (omega (arith, c.loop-test.true)))

pub element-p-requires : goal.element-p-requires
element-p-requires c =
    let l = c.loop in
    change_ready c.args.part c.args.lsp c.args.count l.last (c.args.count - l.counter) c.requires.0 c.requires.1 l.invariant (omega (arith, c.loop-test.true)) c.copy_number-x.ensures

pub loop-preserved : goal.loop-preserved
loop-preserved c =
    let l = c.loop in
    let e : c.args.count - (l.counter + 1) ≡ c.args.count - l.counter - 1 = omega arith in
    rw e (change_on c.args.part c.args.lsp c.args.count l.last (c.args.count - l.counter) c.requires.0 c.requires.1 l.invariant (omega (arith, c.loop-test.true)) c.copy_number-x.ensures c.element-p.ensures)

pub returns : goal.returns
returns c =
    let l = c.loop in
    along_none (along_as (λ f. f) (changes_none (start_of c.args.part) c.args.lsp l.last _ (omega (arith, c.loop-test.false))) l.invariant)
