-- `sheet_write_segment::head::identity` meets its contract.
use mathlib.Core.Path.{refl}
use mathlib.Core.List.{[], ◌∷◌}
use lib.Dec.{lit<, lit≤}
use Rattle.sheet_write_segment.proofs.row.Rows.{row_first, row_after, row_both}
use Rattle.sheet_write_segment.proofs.head.identity.Goals as goal

pub short-segment-requires : goal.short-segment-requires
short-segment-requires c = (row_first _ _ (10 ∷ []) _ _ c.requires, lit< tt, lit≤ tt)

pub number-major-requires : goal.number-major-requires
number-major-requires c =
    let r1 = row_after _ _ (10 ∷ []) _ _ 130 refl c.short-segment.ensures c.requires in
    (row_first _ _ (32 ∷ []) _ _ r1, lit< tt, lit≤ tt)

pub short-minor-requires : goal.short-minor-requires
short-minor-requires c =
    let r1 = row_after _ _ (10 ∷ []) _ _ 130 refl c.short-segment.ensures c.requires in
    let r2 = row_after _ _ (32 ∷ []) _ _ 162 refl c.number-major.ensures r1 in
    (row_first _ _ (8 ∷ []) _ _ r2, lit< tt, lit≤ tt)

pub short-requires : goal.short-requires
short-requires c =
    let r1 = row_after _ _ (10 ∷ []) _ _ 130 refl c.short-segment.ensures c.requires in
    let r2 = row_after _ _ (32 ∷ []) _ _ 162 refl c.number-major.ensures r1 in
    (row_after _ _ (8 ∷ []) _ _ 170 refl c.short-minor.ensures r2, lit< tt, lit≤ tt)

pub returns : goal.returns
returns c = row_both _ _ (10 ∷ []) _ _ 130 refl c.short-segment.ensures (row_both _ _ (32 ∷ []) _ _ 162 refl c.number-major.ensures (row_both _ _ (8 ∷ []) _ _ 170 refl c.short-minor.ensures c.short.ensures))
