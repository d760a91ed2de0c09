-- `sheet_write_segment::elements::wire` meets its contract.
use mathlib.Core.Path.{refl, ◌∙◌}
use Prim.Native.Nat.{◌+◌}
use native.Mathlib.Nat.{le_refl}
use native.Mathlib.Omega.{arith}
use Rattle.bits.proofs.Fields.{field_small}
use Rattle.kinds.specs.Kinds.{m_voltage, nid_c_traction}
use Rattle.format.specs.Format.{then}
use Rattle.sheet_write_segment.proofs.elements.Writing.{along_all, along_here, along_put, along_none, field_here}
use Rattle.sheet_write_segment.proofs.elements.wire.Goals as goal

pub volts-requires : goal.volts-requires
volts-requires c = (field_here c.args.packet.now c.args.stop m_voltage (λ u f. then (nid_c_traction u) f) 4 refl c.requires _ c.read_window-u.ensures).allowed

pub put_number-second-requires : goal.put_number-second-requires
put_number-second-requires c =
    rw c.volts.ensures (field_here c.args.packet.now c.args.stop m_voltage (λ u f. then (nid_c_traction u) f) 4 refl c.requires _ c.read_window-u.ensures).fits

pub put_short-m-requires : goal.put_short-m-requires
put_short-m-requires c =
    let a = c.args in
    let s = a.packet.now in
    let h = c.requires in
    let m = along_put s a.stop m_voltage (λ u f. then (nid_c_traction u) f) 4 refl (along_all s a.stop h) h _ c.read_window-u.ensures (a.at + 4) refl (c.put_number-second.ensures ∙ rw c.volts.ensures) in
    (omega (arith, c.read_window-v.ensures, field_small s (a.at + 4) 10 10 (le_refl _)), (field_here s a.stop (nid_c_traction c.read_window-u.result) (λ v f. f) 10 refl (along_here s a.stop m h) _ c.read_window-v.ensures).fits)

pub returns : goal.returns
returns c =
    let a = c.args in
    let s = a.packet.now in
    let h = c.requires in
    let m = along_put s a.stop m_voltage (λ u f. then (nid_c_traction u) f) 4 refl (along_all s a.stop h) h _ c.read_window-u.ensures (a.at + 4) refl (c.put_number-second.ensures ∙ rw c.volts.ensures) in
    along_none s a.stop (along_put s a.stop (nid_c_traction c.read_window-u.result) (λ v f. f) 10 refl m h _ c.read_window-v.ensures (a.at + 14) (omega arith) c.put_short-m.ensures)
