-- `convert_sheet::tree_to_packet` meets its contract.
use Rattle.convert_sheet.proofs.ToPacket.{packet_refused, packet_accepts, packet_bits, packet_low, packet_high, packet_too_long, body_long, packet_done}
use Rattle.convert_sheet.proofs.Parts.{room_whole, room_rest}
use Rattle.bits.proofs.Padding.{bytes_of}
use Rattle.verdict.proofs.Exits.{exit}
use lib.Seq.{length-take-le}
use lib.ListN.{length, drop, length-drop}
use mathlib.Core.Path.{◌≡◌, sym, ◌∙◌}
use native.Mathlib.Omega.{arith}
use Rattle.convert_sheet.proofs.tree_to_packet.Goals as goal

pub overflow_sub-bits : goal.overflow_sub-bits
overflow_sub-bits c =
    let a = c.args in
    let s = a.sheet.now in
    let ok = bytes_of s (λ i. (c.type_inv.sheet i).fits) in
    let e = c.in_ok-n.ensures in
    omega (arith, packet_low a.tree s a.room.now ok _ e)

pub returns-then-room-length : goal.returns-then-room-length
returns-then-room-length c =
    let a = c.args in
    let s = a.sheet.now in
    let ok = bytes_of s (λ i. (c.type_inv.sheet i).fits) in
    let e = c.in_ok-n.ensures in
    packet_too_long a.tree s a.room.now ok _ e c.if-room-length.true

pub slice_bounds-tree_header-end : goal.slice_bounds-tree_header-end
slice_bounds-tree_header-end c =
    let a = c.args in
    let s = a.sheet.now in
    let ok = bytes_of s (λ i. (c.type_inv.sheet i).fits) in
    let e = c.in_ok-n.ensures in
    omega (arith, packet_low a.tree s a.room.now ok _ e)

pub slice_bounds-tree_header-end-2 : goal.slice_bounds-tree_header-end-2
slice_bounds-tree_header-end-2 c =
    let a = c.args in
    sym (length-take-le 15 a.room.now (omega (arith, c.if-room-length.false)))

pub overflow_cast-bits : goal.overflow_cast-bits
overflow_cast-bits c =
    let a = c.args in
    let s = a.sheet.now in
    let ok = bytes_of s (λ i. (c.type_inv.sheet i).fits) in
    let e = c.in_ok-n.ensures in
    omega (arith, packet_high a.tree s a.room.now ok _ e)

pub tree_header-at-requires : goal.tree_header-at-requires
tree_header-at-requires c =
    let a = c.args in
    let s = a.sheet.now in
    let ok = bytes_of s (λ i. (c.type_inv.sheet i).fits) in
    let e = c.in_ok-n.ensures in
    (length-take-le 15 a.room.now (omega (arith, c.if-room-length.false)), omega (arith, packet_bits a.tree s a.room.now ok _ e), packet_accepts a.tree s a.room.now ok _ e)

pub slice_bounds-write_body-count : goal.slice_bounds-write_body-count
slice_bounds-write_body-count c =
    let a = c.args in
    let s = a.sheet.now in
    let ok = bytes_of s (λ i. (c.type_inv.sheet i).fits) in
    let e = c.in_ok-n.ensures in
    omega (arith, packet_low a.tree s a.room.now ok _ e)

pub slice_bounds-write_body-start : goal.slice_bounds-write_body-start
slice_bounds-write_body-start c =
    let a = c.args in
    let s = a.sheet.now in
    let ok = bytes_of s (λ i. (c.type_inv.sheet i).fits) in
    let e = c.in_ok-n.ensures in
    omega (arith, packet_low a.tree s a.room.now ok _ e)

pub write_body-requires : goal.write_body-requires
write_body-requires c =
    let a = c.args in
    let s = a.sheet.now in
    let ok = bytes_of s (λ i. (c.type_inv.sheet i).fits) in
    let e = c.in_ok-n.ensures in
    let h = c.tree_header-at in
    let k : length h.new.header ≡ 15 = h.auto.header ∙ length-take-le 15 a.room.now (omega (arith, c.if-room-length.false)) in
    let l = body_long a.tree s a.room.now ok _ e h.new.header h.result h.ensures in
    (h.ensures.place, omega (arith, l), rw (room_rest 15 h.new.header (drop 15 a.room.now) k) (omega (arith, l, length-drop 15 a.room.now, c.if-room-length.false)), omega (arith, l, packet_high a.tree s a.room.now ok _ e))

pub overflow_cast-result : goal.overflow_cast-result
overflow_cast-result c =
    let a = c.args in
    let s = a.sheet.now in
    let ok = bytes_of s (λ i. (c.type_inv.sheet i).fits) in
    let e = c.in_ok-n.ensures in
    omega (arith, packet_high a.tree s a.room.now ok _ e)

pub returns-in_err-n : goal.returns-in_err-n
returns-in_err-n c = let a = c.args in rw (exit c.from_residual.ensures.1) (packet_refused a.tree a.sheet.now a.room.now _ _ c.in_err-n.ensures)

pub returns : goal.returns
returns c =
    let a = c.args in
    let s = a.sheet.now in
    let ok = bytes_of s (λ i. (c.type_inv.sheet i).fits) in
    let e = c.in_ok-n.ensures in
    let h = c.tree_header-at in
    let b = c.write_body in
    let t = drop 15 a.room.now in
    let k : length h.new.header ≡ 15 = h.auto.header ∙ length-take-le 15 a.room.now (omega (arith, c.if-room-length.false)) in
    let w = room_whole 15 h.new.header t b.new.body k in
    let q = rw (room_rest 15 h.new.header t k) at b.ensures in
    rw w (packet_done a.tree s a.room.now ok _ e h.new.header h.result h.ensures c.if-room-length.false b.new.body q)
