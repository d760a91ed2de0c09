-- `text::lines::put_names` meets its contract.
use Rattle.text.specs.internal.sheet.Numbers.{numbers_in}
use Rattle.text.proofs.words.Putting.{laid_long, decimal_short}
use Rattle.text.proofs.lines.Laying.{value_at, names_laid}
use native.Mathlib.Omega.{arith}
use Rattle.text.proofs.lines.put_names.Goals as goal

pub put_labelled-at-requires : goal.put_labelled-at-requires
put_labelled-at-requires c = omega (arith, c.requires, decimal_short c.number-nid_c.result)

pub put_labelled-requires : goal.put_labelled-requires
put_labelled-requires c =
    let e = c.put_labelled-at.ensures in
    omega (arith, c.requires, e.place, laid_long e, decimal_short c.number-nid_c.result, decimal_short c.number-nid_sp.result)

pub returns : goal.returns
returns c =
    let ns = numbers_in c.args.sheet.now in
    names_laid _ _ ns c.put_labelled-at.ensures c.put_labelled.ensures
    (value_at 6 ns c.past.ensures c.number-nid_c.ensures)
    (value_at 7 ns c.past-2.ensures c.number-nid_sp.ensures)
