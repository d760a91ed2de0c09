-- `sheet_write_journey::rows::start` meets its contract.
use mathlib.Core.Path.{◌≡◌, refl, ◌∙◌}
use mathlib.Core.List.{[], ◌∷◌}
use Prim.Native.Nat.{◌+◌}
use lib.Dec.{lit<, lit≤}
use Rattle.sheet_write_segment.proofs.row.Rows.{row_first, row_after, row_both}
use native.Mathlib.Omega.{arith}
use Rattle.sheet_write_journey.proofs.rows.start.Goals as goal

pub short-name-requires : goal.short-name-requires
short-name-requires c = (row_first _ _ (10 ∷ []) _ _ c.requires, lit< tt, lit≤ tt)

pub number-version-requires : goal.number-version-requires
number-version-requires c =
    let r1 = row_after _ _ (10 ∷ []) _ _ (c.args.at + 10) refl c.short-name.ensures c.requires in
    (row_first _ _ (32 ∷ []) _ _ r1, lit< tt, lit≤ tt)

pub versions-requires : goal.versions-requires
versions-requires c =
    let r1 = row_after _ _ (10 ∷ []) _ _ (c.args.at + 10) refl c.short-name.ensures c.requires in
    row_after _ _ (32 ∷ []) _ _ (c.args.at + 42) (omega arith) c.number-version.ensures r1

pub returns : goal.returns
returns c =
    let b = c.args.at in
    let e : b + 42 + 17 ≡ b + 59 = omega arith in
    (row_both _ _ (10 ∷ []) _ _ (b + 10) refl c.short-name.ensures (row_both _ _ (32 ∷ []) _ _ (b + 42) (omega arith) c.number-version.ensures c.versions.ensures.0), c.versions.ensures.1 ∙ rw e)
