use mathlib.Core.Path.{◌≡◌, ap, ◌∙◌}
use Prim.Native.Nat.{◌+◌, ◌-◌, ◌<◌}
use native.Mathlib.Omega.{arith}
use Rattle.speed_element.proofs.Reading.{entries_end, entries_pass, entries_end_next, entries_next, entry_readable}
use Rattle.speed_sheet.specs.internal.Asking.{short_end, entry_end, Reads}
use Rattle.speed_sheet.proofs.Parts.{entry_pass, class_inside, speed_inside}
use Rattle.speed_sheet.proofs.entries_end.Goals as goal

pub short_end-requires : goal.short_end-requires
short_end-requires c =
    let s = c.args.s.now in
    class_inside s (entry_readable (Reads s) (omega (arith, c.loop-test.true)) c.loop.invariant.0)

pub short_end-to-requires : goal.short_end-to-requires
short_end-to-requires c =
    let s = c.args.s.now in
    rw c.short_end.ensures (speed_inside s (entry_readable (Reads s) (omega (arith, c.loop-test.true)) c.loop.invariant.0))

pub loop-preserved : goal.loop-preserved
loop-preserved c =
    let s = c.args.s.now in
    let l = c.loop in
    let n = c.args.count in
    let i = l.counter in
    let h : 0 < n - i = omega (arith, c.loop-test.true) in
    let z : n - (i + 1) ≡ n - i - 1 = omega arith in
    let e = c.short_end-to.ensures ∙ ap (short_end s) c.short_end.ensures in
    rw (z, e) (entries_next (Reads s) h l.invariant.0 (entry_pass s l.to), entries_end_next (Reads s) (entry_end s) (entry_pass s) h l.to ∙ l.invariant.1)

pub returns : goal.returns
returns c =
    let a = c.args in
    let s = a.s.now in
    let l = c.loop in
    let z : a.count - l.counter ≡ 0 = omega (arith, c.loop-test.false) in
    let e : l.to ≡ entries_end (entry_end s) a.count a.at = rw z at l.invariant.1 in
    rw e (entries_pass (Reads s) (entry_end s) (entry_pass s) a.count a.at)
