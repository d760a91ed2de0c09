-- In the code's order: a single digit; the digits above the last; the last digit.
use native.Mathlib.Omega.{arith}
use Rattle.text.proofs.words.Putting.{laid_on, laid_long, last_long, more_long, decimal_last, decimal_more}
use Rattle.text.proofs.words.+put_decimal.Goals as goal

pub put_digit-requires : goal.put_digit-requires
put_digit-requires t c = let a = c.args in (omega (arith, last_long a.v (omega arith), c.requires), omega arith)

pub returns-then-v-lt10 : goal.returns-then-v-lt10
returns-then-v-lt10 t c = rw (← decimal_last c.args.v (omega arith)) c.put_digit.ensures

pub put_decimal-next-requires : goal.put_decimal-next-requires
put_decimal-next-requires t c = omega (arith, more_long c.args.v (omega arith) (omega arith), c.requires)

pub put_digit-requires-2 : goal.put_digit-requires-2
put_digit-requires-2 t c =
    let d = c.put_decimal-next in
    (omega (arith, more_long c.args.v (omega arith) (omega arith), c.requires, d.ensures.place, laid_long d.ensures), omega arith)

pub returns : goal.returns
returns t c =
    let a = c.args in
    rw (← decimal_more a.v (omega arith) (omega arith)) (laid_on c.put_decimal-next.ensures c.put_digit-2.ensures)
