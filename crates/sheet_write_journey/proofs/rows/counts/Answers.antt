-- `sheet_write_journey::rows::counts` meets its contract.
use Rattle.bits.proofs.Fields.{window_small}
use Rattle.sheet_write_segment.proofs.row.Rows.{cut_last, all_more, all_one, more_fit, one_fits, window_copied, window_fits}
use Rattle.sheet_write_journey.specs.internal.rows.Widths.{count_widths}
use native.Mathlib.Omega.{arith}
use Rattle.sheet_write_journey.proofs.rows.counts.Goals as goal

pub one-second-requires : goal.one-second-requires
one-second-requires c = (omega (arith, window_small _ _ 11 c.read_window-t.ensures), one_fits (window_fits _ _ count_widths _ c.requires c.read_window-t.ensures))

pub put_short-last-requires : goal.put_short-last-requires
put_short-last-requires c = (omega arith, one_fits (more_fit c.one-second.ensures (window_fits _ _ count_widths _ c.requires c.read_window-t.ensures)))

pub returns : goal.returns
returns c =
    let h = c.requires in
    let e = c.read_window-t.ensures in
    (window_copied _ _ count_widths _ h e (all_more _ _ _ c.one-second.ensures (all_one _ _ c.put_short-last.ensures)), cut_last _ _ 3 8 e h.inside)
