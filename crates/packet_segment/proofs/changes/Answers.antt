use Prim.Native.Nat.{◌+◌, ◌-◌}
use mathlib.Core.Path.{◌≡◌}
use native.Mathlib.Omega.{arith}
use Rattle.grammar.specs.internal.segment.Parts.{start_of}
use Rattle.grammar.proofs.segment.Parts.{changes_none}
use Rattle.format.proofs.Ways.{left_none, left_as}
use Rattle.grammar.proofs.segment.Changes.{location_off, element_off, element_on}
use Rattle.packet_segment.proofs.changes.Goals as goal

pub returns-in-Err : goal.returns-in-Err
returns-in-Err c =
    let a = c.args in
    location_off (start_of a.part) a.lsp c.loop.last (a.count - c.loop.counter) (omega arith) c.loop.invariant (rw c.in-Err.is at c.location.ensures)

pub returns-in-Err-element : goal.returns-in-Err-element
returns-in-Err-element c =
    let a = c.args in
    element_off (start_of a.part) a.lsp c.loop.last (a.count - c.loop.counter) (omega arith) c.loop.invariant (rw c.in-Ok.is at c.location.ensures) (rw c.in-Err-element.is at c.element.ensures)

pub loop-preserved : goal.loop-preserved
loop-preserved c =
    let a = c.args in
    let e : a.count - c.loop.counter - 1 ≡ a.count - (c.loop.counter + 1) = omega arith in
    rw (← e) (element_on (start_of a.part) a.lsp c.loop.last (a.count - c.loop.counter) (omega arith) c.loop.invariant (rw c.in-Ok.is at c.location.ensures) (rw c.in-Ok-element.is at c.element.ensures))

pub returns : goal.returns
returns c =
    let a = c.args in
    left_none (left_as (λ f. f) (changes_none (start_of a.part) a.lsp c.loop.last (a.count - c.loop.counter) (omega arith)) c.loop.invariant)
