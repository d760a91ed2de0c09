-- `sheet_write_segment::lists` meets its contract. Each list has at most 31 changes.
use Rattle.sheet_write_segment.proofs.lists.Given as goal

abbrev pub ghost-list : goal.ghost-list
ghost-list a = 31
