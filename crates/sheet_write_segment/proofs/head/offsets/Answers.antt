-- `sheet_write_segment::head::offsets` meets its contract.
use mathlib.Core.Path.{refl}
use mathlib.Core.List.{[], ◌∷◌}
use lib.Dec.{lit<, lit≤}
use Rattle.sheet_write_segment.proofs.row.Rows.{row_first, row_after, row_both}
use Rattle.sheet_write_segment.proofs.head.offsets.Goals as goal

pub number-clock-requires : goal.number-clock-requires
number-clock-requires c = (row_first _ _ (24 ∷ []) _ _ c.requires, lit< tt, lit≤ tt)

pub short-altitude-requires : goal.short-altitude-requires
short-altitude-requires c =
    let r1 = row_after _ _ (24 ∷ []) _ _ 226 refl c.number-clock.ensures c.requires in
    (row_first _ _ (7 ∷ []) _ _ r1, lit< tt, lit≤ tt)

pub number-requires : goal.number-requires
number-requires c =
    let r1 = row_after _ _ (24 ∷ []) _ _ 226 refl c.number-clock.ensures c.requires in
    (row_after _ _ (7 ∷ []) _ _ 233 refl c.short-altitude.ensures r1, lit< tt, lit≤ tt)

pub returns : goal.returns
returns c = row_both _ _ (24 ∷ []) _ _ 226 refl c.number-clock.ensures (row_both _ _ (7 ∷ []) _ _ 233 refl c.short-altitude.ensures c.number.ensures)
