-- `text::put_refusal` meets its contract.
use Rattle.text.proofs.words.Putting.{laid_on, laid_long, decimal_short}
use native.Mathlib.Omega.{arith}
use Rattle.text.proofs.put_refusal.Goals as goal

pub put_labelled-number-requires : goal.put_labelled-number-requires
put_labelled-number-requires c = omega (arith, c.requires, decimal_short c.args.refusal)

pub put_labelled-at-requires : goal.put_labelled-at-requires
put_labelled-at-requires c =
    let e = c.put_labelled-number.ensures in
    omega (arith, c.requires, e.place, laid_long e, decimal_short c.args.refusal, decimal_short c.args.place)

pub put_word-requires : goal.put_word-requires
put_word-requires c =
    let e = c.put_labelled-number.ensures in
    let f = c.put_labelled-at.ensures in
    omega (arith, c.requires, e.place, laid_long e, f.place, laid_long f, decimal_short c.args.refusal, decimal_short c.args.place)

pub returns : goal.returns
returns c = laid_on (laid_on c.put_labelled-number.ensures c.put_labelled-at.ensures) c.put_word.ensures
