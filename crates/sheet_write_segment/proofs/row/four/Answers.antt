-- `sheet_write_segment::row::four` meets its contract.
use Rattle.sheet_write_segment.proofs.row.Rows.{all_one, one_fits, more_fit, all_more}
use Rattle.sheet_write_segment.proofs.row.four.Goals as goal

pub one-fourth-requires : goal.one-fourth-requires
one-fourth-requires c =
    (c.requires.2, one_fits (more_fit c.one-third.ensures (more_fit c.one-second.ensures c.requires.4)))

pub one-requires : goal.one-requires
one-requires c =
    (c.requires.3, one_fits (more_fit c.one-fourth.ensures (more_fit c.one-third.ensures (more_fit c.one-second.ensures c.requires.4))))

pub returns : goal.returns
returns c =
    all_more _ _ _ c.one-second.ensures (all_more _ _ _ c.one-third.ensures (all_more _ _ _ c.one-fourth.ensures (all_one _ _ c.one.ensures)))
