-- `sheet_write_journey::rows::versions` meets its contract.
use Rattle.bits.proofs.Fields.{window_small}
use Rattle.sheet_write_segment.proofs.row.Rows.{cut_last, all_more, all_one, more_fit, one_fits, window_copied, window_fits}
use Rattle.sheet_write_journey.specs.internal.rows.Widths.{version_widths}
use native.Mathlib.Omega.{arith}
use Rattle.sheet_write_journey.proofs.rows.versions.Goals as goal

pub put_short-second-requires : goal.put_short-second-requires
put_short-second-requires c = (omega (arith, window_small _ _ 22 c.read_window-t.ensures), one_fits (window_fits _ _ version_widths _ c.requires c.read_window-t.ensures))

pub put_short-third-requires : goal.put_short-third-requires
put_short-third-requires c = (omega arith, one_fits (more_fit c.put_short-second.ensures (window_fits _ _ version_widths _ c.requires c.read_window-t.ensures)))

pub one-fourth-requires : goal.one-fourth-requires
one-fourth-requires c =
    (omega arith, one_fits (more_fit c.put_short-third.ensures (more_fit c.put_short-second.ensures (window_fits _ _ version_widths _ c.requires c.read_window-t.ensures))))

pub one-last-requires : goal.one-last-requires
one-last-requires c =
    (omega arith, one_fits (more_fit c.one-fourth.ensures (more_fit c.put_short-third.ensures (more_fit c.put_short-second.ensures (window_fits _ _ version_widths _ c.requires c.read_window-t.ensures)))))

pub returns : goal.returns
returns c = (
  window_copied _ _ version_widths _ c.requires c.read_window-t.ensures (all_more _ _ _ c.put_short-second.ensures (all_more _ _ _ c.put_short-third.ensures (all_more _ _ _ c.one-fourth.ensures (all_one _ _ c.one-last.ensures)))),
  cut_last _ _ 17 5 c.read_window-t.ensures c.requires.inside,
)
