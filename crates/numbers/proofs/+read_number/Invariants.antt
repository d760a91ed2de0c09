-- The groups left are the number that falls.
use Rattle.numbers.proofs.+read_number.Given as goal

abbrev pub decreases-read_number : goal.decreases-read_number
decreases-read_number l = l.left
