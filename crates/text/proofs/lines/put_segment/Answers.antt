-- `text::lines::put_segment` meets its contract.
use Rattle.text.specs.internal.sheet.Numbers.{numbers_in}
use Rattle.text.proofs.words.Putting.{laid_long}
use Rattle.text.proofs.lines.Laying.{names_short, segment_laid}
use Rattle.text.proofs.words.Signs.{same}
use mir.Syntax.{w32}
use mir.Val.{to_z, of_z}
use native.Mathlib.Omega.{arith}
use Rattle.text.proofs.lines.put_segment.Goals as goal

pub put_measures-requires : goal.put_measures-requires
put_measures-requires c =
    let e = c.put_names-at.ensures in
    omega (arith, c.requires, e.place, laid_long e, names_short (numbers_in c.args.sheet.now))

pub returns : goal.returns
returns c =
    let z = c.args.altitude in
    segment_laid (to_z w32 (of_z w32 z)) z (numbers_in c.args.sheet.now) c.put_names-at.ensures c.put_measures.ensures (same z c.ranges.altitude)
