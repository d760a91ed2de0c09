-- `sheet_write_segment::elements::amperes` meets its contract.
use mathlib.Core.Path.{refl, ◌∙◌}
use Prim.Native.Nat.{◌+◌}
use Rattle.kinds.specs.Kinds.{m_current}
use Rattle.fields.proofs.raise.Raised.{current_short}
use Rattle.sheet_write_segment.proofs.elements.Writing.{along_all, along_put, along_none, field_here}
use Rattle.sheet_write_segment.proofs.elements.amperes.Goals as goal

pub current-requires : goal.current-requires
current-requires c = (field_here c.args.packet.now c.args.stop m_current (λ v f. f) 10 refl c.requires _ c.read_window-v.ensures).allowed

pub put_short-m-requires : goal.put_short-m-requires
put_short-m-requires c =
    let f = field_here c.args.packet.now c.args.stop m_current (λ v f. f) 10 refl c.requires _ c.read_window-v.ensures in
    rw c.current.ensures (current_short c.read_window-v.result f.allowed, f.fits)

pub returns : goal.returns
returns c =
    let a = c.args in
    let s = a.packet.now in
    let h = c.requires in
    along_none s a.stop
    (along_put s a.stop m_current (λ v f. f) 10 refl (along_all s a.stop h) h _ c.read_window-v.ensures (a.at + 10) refl (c.put_short-m.ensures ∙ rw c.current.ensures))
