-- `packet_segment::head::whole_head` meets its contract.
use native.Mathlib.Omega.{arith}
use Rattle.packet_segment.proofs.head.Places.{head_on}
use Rattle.packet_segment.proofs.head.whole_head.Goals as goal

pub returns : goal.returns
returns c =
    head_on c.args.s.now c.requires.0 c.requires.2 (rw c.read_window.ensures at c.operational-operational.ensures) c.if-operational-eq0.false c.header_bytes-header.ensures c.if-header-eq0.false
    c.identity_bytes-identity.ensures c.read_window-lsp.ensures (λ z. omega (arith, z)) c.groups-length.ensures c.offset_bytes-offsets.ensures c.if-offsets-eq0.false

pub overflow_add-bytes : goal.overflow_add-bytes
overflow_add-bytes c = omega (arith, (returns c).stands.counted)

pub overflow_add-bytes-2 : goal.overflow_add-bytes-2
overflow_add-bytes-2 c = omega (arith, (returns c).stands.counted)

pub overflow_add-bytes-3 : goal.overflow_add-bytes-3
overflow_add-bytes-3 c = omega (arith, (returns c).stands.counted)

pub overflow_add-bytes-4 : goal.overflow_add-bytes-4
overflow_add-bytes-4 c = omega (arith, (returns c).stands.counted)

pub overflow_add-bytes-5 : goal.overflow_add-bytes-5
overflow_add-bytes-5 c = omega (arith, (returns c).stands.counted)
