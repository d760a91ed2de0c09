-- `sheet_write_segment::elements::entry` meets its contract.
use mathlib.Core.Path.{◌∙◌}
use Prim.Native.Nat.{◌/◌, ◌%◌}
use native.Mathlib.Omega.{arith}
use Rattle.fields.proofs.raise.Raised.{class_short}
use Rattle.sheet_write_segment.proofs.elements.Writing.{along_none}
use Rattle.sheet_write_segment.proofs.elements.Fields.{entry_puts}
use Rattle.sheet_write_segment.proofs.elements.entry.Goals as goal

pub put_short-second-requires : goal.put_short-second-requires
put_short-second-requires c =
    let e = entry_puts c.args.packet.now c.args.stop c.requires.1 c.read_window-t.ensures in
    (omega (arith, e.small), e.first.fits)

pub class-requires : goal.class-requires
class-requires c =
    let e = entry_puts c.args.packet.now c.args.stop c.requires.1 c.read_window-t.ensures in
    (c.requires.0, (e.second c.put_short-second.ensures).allowed)

pub put_short-third-requires : goal.put_short-third-requires
put_short-third-requires c =
    let w = c.read_window-t in
    let f = (entry_puts c.args.packet.now c.args.stop c.requires.1 w.ensures).second c.put_short-second.ensures in
    rw c.class.ensures (class_short (w.result / 2048) (w.result / 128 % 16) f.allowed, f.fits)

pub put_short-requires : goal.put_short-requires
put_short-requires c =
    let e = entry_puts c.args.packet.now c.args.stop c.requires.1 c.read_window-t.ensures in
    rw c.speed.ensures (omega arith, (e.third c.put_short-second.ensures (c.put_short-third.ensures ∙ rw c.class.ensures)).fits)

pub returns : goal.returns
returns c =
    let e = entry_puts c.args.packet.now c.args.stop c.requires.1 c.read_window-t.ensures in
    along_none c.args.packet.now c.args.stop
    (e.put c.put_short-second.ensures (c.put_short-third.ensures ∙ rw c.class.ensures) (c.put_short.ensures ∙ rw c.speed.ensures))
