-- `text::lines::put_lines` meets its contract.
use Rattle.text.specs.internal.sheet.Numbers.{numbers_in}
use Rattle.text.proofs.words.Putting.{laid_long}
use Rattle.text.proofs.lines.Laying.{segment_short, changes_fit, lines_laid}
use Rattle.text.proofs.words.Signs.{same}
use mir.Syntax.{w32}
use mir.Val.{to_z, of_z}
use native.Mathlib.Omega.{arith}
use Rattle.text.proofs.lines.put_lines.Goals as goal

pub put_element-at-requires : goal.put_element-at-requires
put_element-at-requires c =
    let e = c.put_segment-at.ensures in
    (c.past-profile.ensures.inside, omega (arith, c.requires.1, e.place, laid_long e, segment_short (to_z w32 (of_z w32 c.args.altitude)) (numbers_in c.args.sheet.now)))

pub put_changes-requires : goal.put_changes-requires
put_changes-requires c = (
  c.past-first.ensures.inside,
  changes_fit (to_z w32 (of_z w32 c.args.altitude)) c.put_segment-at.ensures c.past-profile.ensures c.put_element-at.ensures c.after_element-changes.ensures c.number-left.ensures c.requires.0 c.requires.1,
)

pub returns : goal.returns
returns c =
    lines_laid (to_z w32 (of_z w32 c.args.altitude)) c.put_segment-at.ensures c.past-profile.ensures c.put_element-at.ensures c.after_element-changes.ensures c.number-left.ensures
    (same c.args.altitude c.ranges.altitude) c.past-first.ensures c.put_changes.ensures
