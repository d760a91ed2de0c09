-- `speed_sheet::entries_end` meets its contract.
use mathlib.Core.Path.{◌≡◌}
use Prim.Native.Nat.{◌-◌}
use Rattle.grammar.specs.segment.Segment.{entries}
use Rattle.speed_element.specs.internal.Reading.{Readable}
use Rattle.speed_element.proofs.Reading.{entries_end}
use Rattle.speed_sheet.specs.internal.Asking.{entry_end, Reads}
use Rattle.speed_sheet.proofs.entries_end.Given as goal

abbrev pub invariant-loop : goal.invariant-loop
invariant-loop l =
    let left = l.count - l.counter in
    Readable (Reads l.s) (entries left) l.to × (entries_end (entry_end l.s) left l.to ≡ entries_end (entry_end l.s) l.count l.at)
