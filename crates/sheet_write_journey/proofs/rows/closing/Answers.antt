-- `sheet_write_journey::rows::closing` meets its contract.
use Rattle.bits.proofs.Fields.{window_small}
use Rattle.sheet_write_segment.proofs.row.Rows.{all_more, all_one, more_fit, one_fits, window_copied, window_fits}
use Rattle.sheet_write_journey.specs.internal.rows.Widths.{closing_widths}
use native.Mathlib.Omega.{arith}
use Rattle.sheet_write_journey.proofs.rows.closing.Goals as goal

pub put_short-second-requires : goal.put_short-second-requires
put_short-second-requires c = (omega (arith, window_small _ _ 11 c.read_window-t.ensures), one_fits (window_fits _ _ closing_widths _ c.requires c.read_window-t.ensures))

pub one-requires : goal.one-requires
one-requires c = (omega arith, one_fits (more_fit c.put_short-second.ensures (window_fits _ _ closing_widths _ c.requires c.read_window-t.ensures)))

pub returns : goal.returns
returns c =
    window_copied _ _ closing_widths _ c.requires c.read_window-t.ensures
    (all_more _ _ _ c.put_short-second.ensures (all_one _ _ c.one.ensures))
