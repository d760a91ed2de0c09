-- `text::lines::put_measures` meets its contract.
use Rattle.text.specs.internal.sheet.Numbers.{numbers_in}
use Rattle.text.proofs.words.Putting.{laid_long, decimal_short}
use Rattle.text.proofs.lines.Laying.{value_at, signed_short, measures_laid}
use Rattle.text.proofs.words.Signs.{same}
use mir.Syntax.{w32}
use mir.Val.{to_z, of_z}
use native.Mathlib.Omega.{arith}
use Rattle.text.proofs.lines.put_measures.Goals as goal

pub put_labelled-next-requires : goal.put_labelled-next-requires
put_labelled-next-requires c = omega (arith, c.requires, decimal_short c.number-l_sp.result)

pub put_word-next-requires : goal.put_word-next-requires
put_word-next-requires c =
    let e = c.put_labelled-next.ensures in
    omega (arith, c.requires, e.place, laid_long e, decimal_short c.number-l_sp.result)

pub put_signed-next-requires : goal.put_signed-next-requires
put_signed-next-requires c =
    let e = c.put_labelled-next.ensures in
    let f = c.put_word-next.ensures in
    omega (arith, c.requires, e.place, laid_long e, f.place, laid_long f, decimal_short c.number-l_sp.result, signed_short (to_z w32 (of_z w32 c.args.altitude)))

pub put_word-requires : goal.put_word-requires
put_word-requires c =
    let e = c.put_labelled-next.ensures in
    let f = c.put_word-next.ensures in
    let g = c.put_signed-next.ensures in
    omega (arith, c.requires, e.place, laid_long e, f.place, laid_long f, g.place, laid_long g, decimal_short c.number-l_sp.result, signed_short (to_z w32 (of_z w32 c.args.altitude)))

pub returns : goal.returns
returns c =
    let ns = numbers_in c.args.sheet.now in
    let z = c.args.altitude in
    measures_laid _ (to_z w32 (of_z w32 z)) z ns c.put_labelled-next.ensures c.put_word-next.ensures c.put_signed-next.ensures c.put_word.ensures
    (value_at 10 ns c.past.ensures c.number-l_sp.ensures) (same z c.ranges.altitude)
