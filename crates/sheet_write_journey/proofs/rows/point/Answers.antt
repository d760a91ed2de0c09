-- `sheet_write_journey::rows::point` meets its contract.
use mathlib.Core.Path.{refl}
use mathlib.Core.List.{[], ◌∷◌}
use Prim.Native.Nat.{◌+◌}
use lib.Dec.{lit<, lit≤}
use Rattle.sheet_write_segment.proofs.row.Rows.{row_first, row_after, row_both}
use Rattle.sheet_write_journey.specs.internal.rows.Widths.{choice_widths}
use native.Mathlib.Omega.{arith}
use Rattle.sheet_write_journey.proofs.rows.point.Goals as goal

pub number-arrival-requires : goal.number-arrival-requires
number-arrival-requires c = (row_first _ _ (32 ∷ []) _ _ c.requires, lit< tt, lit≤ tt)

pub moment-stop-requires : goal.moment-stop-requires
moment-stop-requires c =
    let r1 = row_after _ _ (32 ∷ []) _ _ (c.args.at + 32) refl c.number-arrival.ensures c.requires in
    row_first _ _ (15 ∷ 17 ∷ []) _ _ r1

pub choices-departure-requires : goal.choices-departure-requires
choices-departure-requires c =
    let r1 = row_after _ _ (32 ∷ []) _ _ (c.args.at + 32) refl c.number-arrival.ensures c.requires in
    let r2 = row_after _ _ (15 ∷ 17 ∷ []) _ _ (c.args.at + 64) (omega arith) c.moment-stop.ensures r1 in
    row_first _ _ choice_widths _ _ r2

pub moment-dwell-requires : goal.moment-dwell-requires
moment-dwell-requires c =
    let r1 = row_after _ _ (32 ∷ []) _ _ (c.args.at + 32) refl c.number-arrival.ensures c.requires in
    let r2 = row_after _ _ (15 ∷ 17 ∷ []) _ _ (c.args.at + 64) (omega arith) c.moment-stop.ensures r1 in
    let r3 = row_after _ _ choice_widths _ _ (c.args.at + 86) (omega arith) c.choices-departure.ensures r2 in
    row_first _ _ (15 ∷ 17 ∷ []) _ _ r3

pub closing-requires : goal.closing-requires
closing-requires c =
    let r1 = row_after _ _ (32 ∷ []) _ _ (c.args.at + 32) refl c.number-arrival.ensures c.requires in
    let r2 = row_after _ _ (15 ∷ 17 ∷ []) _ _ (c.args.at + 64) (omega arith) c.moment-stop.ensures r1 in
    let r3 = row_after _ _ choice_widths _ _ (c.args.at + 86) (omega arith) c.choices-departure.ensures r2 in
    row_after _ _ (15 ∷ 17 ∷ []) _ _ (c.args.at + 118) (omega arith) c.moment-dwell.ensures r3

pub returns : goal.returns
returns c =
    let e = c.args.at in
    row_both _ _ (32 ∷ []) _ _ (e + 32) refl c.number-arrival.ensures (row_both _ _ (15 ∷ 17 ∷ []) _ _ (e + 64) (omega arith) c.moment-stop.ensures (row_both _ _ choice_widths _ _ (e + 86) (omega arith) c.choices-departure.ensures (row_both _ _ (15 ∷ 17 ∷ []) _ _ (e + 118) (omega arith) c.moment-dwell.ensures c.closing.ensures)))
