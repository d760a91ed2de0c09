-- `text::words::put_labelled` meets its contract.
use Rattle.text.specs.words.Words.{decimal}
use Rattle.text.proofs.words.Putting.{laid_on, laid_long}
use lib.ListN.{length-append}
use native.Mathlib.Omega.{arith}
use Rattle.text.proofs.words.put_labelled.Goals as goal

pub put_word-next-requires : goal.put_word-next-requires
put_word-next-requires c =
    omega (arith, c.requires, length-append c.args.word.now (decimal c.args.v))

pub put_decimal-requires : goal.put_decimal-requires
put_decimal-requires c =
    let e = c.put_word-next.ensures in
    omega (arith, c.requires, length-append c.args.word.now (decimal c.args.v), e.place, laid_long e)

pub returns : goal.returns
returns c = laid_on c.put_word-next.ensures c.put_decimal.ensures
