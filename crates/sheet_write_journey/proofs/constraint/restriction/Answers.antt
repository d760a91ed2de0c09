-- `sheet_write_journey::constraint::restriction` meets its contract.
use mathlib.Core.Path.{◌∙◌}
use lib.Dec.{lit<}
use Rattle.bits.proofs.Fields.{window_small}
use Rattle.sheet_write_segment.proofs.row.Rows.{all_more, all_one, more_fit, one_fits}
use Rattle.sheet_write_journey.proofs.constraint.Constraints.{restriction_fits, restriction_put}
use native.Mathlib.Omega.{arith}
use Rattle.sheet_write_journey.proofs.constraint.restriction.Goals as goal

pub one-speed-requires : goal.one-speed-requires
one-speed-requires c = (omega (arith, window_small _ _ 21 c.read_window-t.ensures), one_fits (restriction_fits _ _ _ c.requires c.read_window-t.ensures))

pub put_short-adhesion-requires : goal.put_short-adhesion-requires
put_short-adhesion-requires c =
    rw c.speed.ensures (omega arith, one_fits (more_fit c.one-speed.ensures (restriction_fits _ _ _ c.requires c.read_window-t.ensures)))

pub one-current-requires : goal.one-current-requires
one-current-requires c =
    (omega arith, one_fits (more_fit (c.put_short-adhesion.ensures ∙ rw c.speed.ensures) (more_fit c.one-speed.ensures (restriction_fits _ _ _ c.requires c.read_window-t.ensures))))

pub one-requires : goal.one-requires
one-requires c =
    (lit< tt, one_fits (more_fit c.one-current.ensures (more_fit (c.put_short-adhesion.ensures ∙ rw c.speed.ensures) (more_fit c.one-speed.ensures (restriction_fits _ _ _ c.requires c.read_window-t.ensures)))))

pub returns : goal.returns
returns c =
    restriction_put _ _ _ c.requires c.read_window-t.ensures
    (all_more _ _ _ c.one-speed.ensures (all_more _ _ _ (c.put_short-adhesion.ensures ∙ rw c.speed.ensures) (all_more _ _ _ c.one-current.ensures (all_one _ _ c.one.ensures))))
