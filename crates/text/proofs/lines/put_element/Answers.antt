-- `text::lines::put_element` meets its contract.
use Rattle.text.specs.internal.sheet.Numbers.{numbers_in}
use Rattle.text.proofs.words.Putting.{laid_long, decimal_short}
use Rattle.text.proofs.lines.Laying.{value_at, element_laid}
use lib.ListN.{drop}
use native.Mathlib.Omega.{arith}
use Rattle.text.proofs.lines.put_element.Goals as goal

pub put_labelled-next-requires : goal.put_labelled-next-requires
put_labelled-next-requires c = omega (arith, c.requires.1, decimal_short c.args.start)

pub put_labelled-next-requires-2 : goal.put_labelled-next-requires-2
put_labelled-next-requires-2 c =
    let e = c.put_labelled-next.ensures in
    omega (arith, c.requires.1, e.place, laid_long e, decimal_short c.args.start, decimal_short c.number-speed.result)

pub put_labelled-next-requires-3 : goal.put_labelled-next-requires-3
put_labelled-next-requires-3 c =
    let e = c.put_labelled-next.ensures in
    let f = c.put_labelled-next-2.ensures in
    omega (arith, c.requires.1, e.place, laid_long e, f.place, laid_long f, decimal_short c.args.start, decimal_short c.number-speed.result, decimal_short c.number-front.result)

pub put_word-requires : goal.put_word-requires
put_word-requires c =
    let e = c.put_labelled-next.ensures in
    let f = c.put_labelled-next-2.ensures in
    let g = c.put_labelled-next-3.ensures in
    omega (arith, c.requires.1, e.place, laid_long e, f.place, laid_long f, g.place, laid_long g, decimal_short c.args.start, decimal_short c.number-speed.result, decimal_short c.number-front.result)

pub returns : goal.returns
returns c =
    let a = c.args in
    let ns = numbers_in (drop a.from a.sheet.now) in
    element_laid a.start _ _ ns c.put_labelled-next.ensures c.put_labelled-next-2.ensures c.put_labelled-next-3.ensures c.put_word.ensures
    c.number-speed.ensures (value_at 1 ns c.past.ensures c.number-front.ensures)
