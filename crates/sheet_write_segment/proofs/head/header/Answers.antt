-- `sheet_write_segment::head::header` meets its contract.
use mathlib.Core.Path.{refl}
use mathlib.Core.List.{[], ◌∷◌}
use lib.Dec.{lit<, lit≤}
use Rattle.sheet_write_segment.proofs.row.Rows.{row_first, row_after, row_both}
use Rattle.sheet_write_segment.proofs.head.header.Goals as goal

pub number-engine-requires : goal.number-engine-requires
number-engine-requires c = (row_first _ _ (32 ∷ []) _ _ c.requires, lit< tt, lit≤ tt)

pub number-stamp-requires : goal.number-stamp-requires
number-stamp-requires c =
    let r1 = row_after _ _ (32 ∷ []) _ _ 56 refl c.number-engine.ensures c.requires in
    (row_first _ _ (24 ∷ []) _ _ r1, lit< tt, lit≤ tt)

pub moment-counter-requires : goal.moment-counter-requires
moment-counter-requires c =
    let r1 = row_after _ _ (32 ∷ []) _ _ 56 refl c.number-engine.ensures c.requires in
    let r2 = row_after _ _ (24 ∷ []) _ _ 80 refl c.number-stamp.ensures r1 in
    row_first _ _ (15 ∷ 17 ∷ []) _ _ r2

pub short-requires : goal.short-requires
short-requires c =
    let r1 = row_after _ _ (32 ∷ []) _ _ 56 refl c.number-engine.ensures c.requires in
    let r2 = row_after _ _ (24 ∷ []) _ _ 80 refl c.number-stamp.ensures r1 in
    (row_after _ _ (15 ∷ 17 ∷ []) _ _ 112 refl c.moment-counter.ensures r2, lit< tt, lit≤ tt)

pub returns : goal.returns
returns c = row_both _ _ (32 ∷ []) _ _ 56 refl c.number-engine.ensures (row_both _ _ (24 ∷ []) _ _ 80 refl c.number-stamp.ensures (row_both _ _ (15 ∷ 17 ∷ []) _ _ 112 refl c.moment-counter.ensures c.short.ensures))
