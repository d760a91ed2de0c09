-- The width is the number that falls.
use Rattle.bits.proofs.+read_field.Given as goal

abbrev pub decreases-read_field : goal.decreases-read_field
decreases-read_field l = l.width
