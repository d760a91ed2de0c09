-- `screen::put_card` meets its contract.
use native.Mathlib.Omega.{arith}
use Rattle.text.proofs.words.Putting.{laid_on, laid_long, decimal_short}
use Rattle.screen.proofs.put_card.Goals as goal

pub put_labelled-next-requires : goal.put_labelled-next-requires
put_labelled-next-requires c = omega (arith, c.requires.1, decimal_short c.args.i)

pub put_labelled-next-requires-2 : goal.put_labelled-next-requires-2
put_labelled-next-requires-2 c =
    let e = c.put_labelled-next.ensures in
    omega (arith, c.requires.1, e.place, laid_long e, decimal_short c.args.i, decimal_short c.args.location)

pub put_labelled-next-requires-3 : goal.put_labelled-next-requires-3
put_labelled-next-requires-3 c =
    let e = c.put_labelled-next.ensures in
    let f = c.put_labelled-next-2.ensures in
    omega (arith, c.requires.1, e.place, laid_long e, f.place, laid_long f, decimal_short c.args.i, decimal_short c.args.location, decimal_short c.args.speed)

pub put_word-requires : goal.put_word-requires
put_word-requires c =
    let e = c.put_labelled-next.ensures in
    let f = c.put_labelled-next-2.ensures in
    let g = c.put_labelled-next-3.ensures in
    omega (arith, c.requires.1, e.place, laid_long e, f.place, laid_long f, g.place, laid_long g, decimal_short c.args.i, decimal_short c.args.location, decimal_short c.args.speed)

pub returns : goal.returns
returns c = laid_on (laid_on (laid_on c.put_labelled-next.ensures c.put_labelled-next-2.ensures) c.put_labelled-next-3.ensures) c.put_word.ensures
