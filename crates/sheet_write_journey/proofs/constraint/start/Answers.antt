-- `sheet_write_journey::constraint::start` meets its contract.
use Rattle.bits.proofs.Fields.{window_small}
use Rattle.sheet_write_segment.proofs.row.Rows.{all_more, all_one, more_fit, one_fits, window_copied, window_fits}
use Rattle.sheet_write_journey.specs.internal.constraint.Numbers.{start_widths}
use native.Mathlib.Omega.{arith}
use Rattle.sheet_write_journey.proofs.constraint.start.Goals as goal

pub one-second-requires : goal.one-second-requires
one-second-requires c = (omega (arith, window_small _ _ 28 c.read_window-t.ensures), one_fits (window_fits _ _ start_widths _ c.requires c.read_window-t.ensures))

pub one-third-requires : goal.one-third-requires
one-third-requires c = (omega arith, one_fits (more_fit c.one-second.ensures (window_fits _ _ start_widths _ c.requires c.read_window-t.ensures)))

pub put_number-requires : goal.put_number-requires
put_number-requires c =
    one_fits (more_fit c.one-third.ensures (more_fit c.one-second.ensures (window_fits _ _ start_widths _ c.requires c.read_window-t.ensures)))

pub returns : goal.returns
returns c =
    window_copied _ _ start_widths _ c.requires c.read_window-t.ensures
    (all_more _ _ _ c.one-second.ensures (all_more _ _ _ c.one-third.ensures (all_one _ _ c.put_number.ensures)))
