-- `sheet_write_journey::rows::choices` meets its contract.
use Rattle.bits.proofs.Fields.{window_small}
use Rattle.sheet_write_segment.proofs.row.Rows.{all_both, all_more, fit_after, fit_first, more_fit, one_fits, window_copied, window_fits}
use Rattle.sheet_write_journey.specs.internal.rows.Widths.{choice_widths}
use native.Mathlib.Omega.{arith}
use Rattle.sheet_write_journey.proofs.rows.choices.Goals as goal

pub put_short-stop-requires : goal.put_short-stop-requires
put_short-stop-requires c = (omega (arith, window_small _ _ 22 c.read_window-t.ensures), one_fits (window_fits _ _ choice_widths _ c.requires c.read_window-t.ensures))

pub four-doors-requires : goal.four-doors-requires
four-doors-requires c =
    (omega arith, omega arith, omega arith, omega arith, fit_first _ _ _ (more_fit c.put_short-stop.ensures (window_fits _ _ choice_widths _ c.requires c.read_window-t.ensures)))

pub four-requires : goal.four-requires
four-requires c =
    (omega arith, omega arith, omega arith, omega arith, fit_after _ _ _ c.four-doors.ensures (more_fit c.put_short-stop.ensures (window_fits _ _ choice_widths _ c.requires c.read_window-t.ensures)))

pub returns : goal.returns
returns c =
    window_copied _ _ choice_widths _ c.requires c.read_window-t.ensures
    (all_more _ _ _ c.put_short-stop.ensures (all_both _ _ _ c.four-doors.ensures c.four.ensures))
