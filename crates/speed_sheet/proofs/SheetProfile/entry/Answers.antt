-- `speed_sheet::Sheet::entry` meets its contract.
use mathlib.Core.Path.{refl}
use Rattle.kinds.specs.Kinds.{q_diff}
use Rattle.speed_sheet.proofs.Parts.{same_read, class_read, speed_read, entry_kept}
use Rattle.speed_element.proofs.Reading.{entry_read}
use Rattle.speed_sheet.specs.internal.Asking.{Reads}
use Rattle.speed_sheet.proofs.SheetProfile.entry.Goals as goal

pub with-requires : goal.with-requires
with-requires c =
    entry_kept c.args.s.now c.number-q_diff.ensures c.number-class.ensures c.number-v.ensures c.requires.1

pub returns : goal.returns
returns c =
    let s = c.args.s.now in
    let q = c.number-q_diff in
    entry_read (Reads s) (same_read s q.ensures q_diff (λ u. refl)) (class_read s c.number-class.ensures q.result.value) (speed_read s c.number-v.ensures) c.with.ensures
