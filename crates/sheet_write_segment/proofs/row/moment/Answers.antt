-- `sheet_write_segment::row::moment` meets its contract.
use mathlib.Core.List.{[], ◌∷◌}
use Rattle.sheet_write_segment.proofs.row.Rows.{all_one, one_fits, more_fit, all_more, window_fits, window_copied}
use Rattle.sheet_write_segment.proofs.row.moment.Goals as goal

pub put_number-second-requires : goal.put_number-second-requires
put_number-second-requires c = one_fits (window_fits _ _ (15 ∷ 17 ∷ []) _ c.requires c.read_window-t.ensures)

pub put_number-requires : goal.put_number-requires
put_number-requires c = one_fits (more_fit c.put_number-second.ensures (window_fits _ _ (15 ∷ 17 ∷ []) _ c.requires c.read_window-t.ensures))

pub returns : goal.returns
returns c =
    window_copied _ _ (15 ∷ 17 ∷ []) _ c.requires c.read_window-t.ensures
    (all_more _ _ _ c.put_number-second.ensures (all_one _ _ c.put_number.ensures))
