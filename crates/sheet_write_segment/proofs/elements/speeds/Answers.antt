-- `sheet_write_segment::elements::speeds` meets its contract.
use mathlib.Core.Path.{◌∙◌}
use Prim.Native.Nat.{◌%◌}
use native.Mathlib.Omega.{arith}
use Rattle.grammar.specs.segment.Segment.{entries}
use Rattle.sheet_write_segment.proofs.elements.Writing.{along_here, along_on, along_none}
use Rattle.sheet_write_segment.proofs.elements.Fields.{profile_puts}
use Rattle.sheet_write_segment.proofs.elements.speeds.Goals as goal

pub speed-requires : goal.speed-requires
speed-requires c =
    omega (arith, (profile_puts c.args.packet.now c.args.stop c.requires c.read_window-t.ensures).small)

pub put_short-second-requires : goal.put_short-second-requires
put_short-second-requires c =
    let e = profile_puts c.args.packet.now c.args.stop c.requires c.read_window-t.ensures in
    rw c.speed.ensures (omega (arith, e.small), e.first.fits)

pub put_short-third-requires : goal.put_short-third-requires
put_short-third-requires c =
    let e = profile_puts c.args.packet.now c.args.stop c.requires c.read_window-t.ensures in
    (omega arith, (e.second (c.put_short-second.ensures ∙ rw c.speed.ensures)).fits)

pub put_short-first-requires : goal.put_short-first-requires
put_short-first-requires c =
    let e = profile_puts c.args.packet.now c.args.stop c.requires c.read_window-t.ensures in
    (omega arith, (e.third (c.put_short-second.ensures ∙ rw c.speed.ensures) c.put_short-third.ensures).fits)

pub specific-requires : goal.specific-requires
specific-requires c =
    let s = c.args.packet.now in
    let e = profile_puts s c.args.stop c.requires c.read_window-t.ensures in
    along_here s c.args.stop (e.put (c.put_short-second.ensures ∙ rw c.speed.ensures) c.put_short-third.ensures c.put_short-first.ensures) c.requires

pub returns : goal.returns
returns c =
    let s = c.args.packet.now in
    let w = c.read_window-t in
    let e = profile_puts s c.args.stop c.requires w.ensures in
    let l = e.put (c.put_short-second.ensures ∙ rw c.speed.ensures) c.put_short-third.ensures c.put_short-first.ensures in
    along_none s c.args.stop (along_on s c.args.stop (entries (w.result % 32)) (λ f. f) l c.specific.ensures)
