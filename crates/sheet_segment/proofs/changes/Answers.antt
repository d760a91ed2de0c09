use Rattle.std.proofs.Common.{◌≡◌, ◌+◌, ◌-◌, arith}
use Rattle.grammar.specs.internal.segment.Parts.{start_of}
use Rattle.format.proofs.Ways.{left_none, left_as}
use Rattle.grammar.proofs.segment.Parts.{changes_none}
use Rattle.grammar.proofs.segment.Changes.{location_off, element_off, element_on}
use Rattle.verdict.proofs.Exits.{exit}
use Rattle.sheet_segment.proofs.changes.Goals as goal

pub returns-in_err-x : goal.returns-in_err-x
returns-in_err-x c =
    let a = c.args in
    let l = c.loop in
    rw (exit c.from_residual.ensures.1) (location_off (start_of a.part) a.lsp l.last (a.count - l.counter) (omega arith) l.invariant c.in_err-x.ensures)

pub returns-in_err-spot : goal.returns-in_err-spot
returns-in_err-spot c =
    let a = c.args in
    let l = c.loop in
    rw (exit c.from_residual-in_err-spot.ensures.1) (element_off (start_of a.part) a.lsp l.last (a.count - l.counter) (omega arith) l.invariant c.in_ok-x.ensures c.in_err-spot.ensures)

pub loop-preserved : goal.loop-preserved
loop-preserved c =
    let a = c.args in
    let l = c.loop in
    let e : a.count - l.counter - 1 ≡ a.count - (l.counter + 1) = omega arith in
    rw e at (element_on (start_of a.part) a.lsp l.last (a.count - l.counter) (omega arith) l.invariant c.in_ok-x.ensures c.in_ok-spot.ensures)

pub returns : goal.returns
returns c =
    let a = c.args in
    let l = c.loop in
    left_none (left_as (λ f. f) (changes_none (start_of a.part) a.lsp l.last (a.count - l.counter) (omega arith)) l.invariant)
