-- The head's fields at their places: the bytes of each row, and the step over all of them from those bytes.
use mathlib.Core.Path.{◌≡◌, refl}
use mathlib.Core.List.{List, [], ◌∷◌}
use Prim.Native.Nat.{ℕ, ◌+◌, ◌^◌, ◌≤◌, ◌<◌}
use native.Mathlib.Nat.{le_refl}
use native.Mathlib.Omega.{arith}
use lib.Dec.{lit≤}
use lib.ListN.{length}
use Rattle.bits.specs.Bits.{field_at}
use Rattle.bits.specs.internal.Windows.{fields_at}
use Rattle.bits.proofs.Fields.{field_small}
use Rattle.numbers.specs.Numbers.{groups_in}
use Rattle.numbers.proofs.Counting.{count_some}
use Rattle.kinds.specs.Kind.{up_to}
use Rattle.kinds.specs.Kinds.{nid_operational, l_sp}
use Rattle.kinds.specs.Judged.{value_in_packet}
use Rattle.fields.specs.internal.size.Counts.{bytes_of}
use Rattle.fields.proofs.size.Bytes.{bytes_some, both_in}
use Rattle.format.proofs.Ways.{gave_on, gave_then, gave_took}
use Rattle.grammar.specs.internal.segment.Parts.{header_widths, header_most, identity_widths, identity_most, offset_widths, offset_most}
use Rattle.grammar.proofs.segment.Parts.{header_fits, identity_fits, offset_fits}
use Rattle.format.specs.internal.Ways.{Got, Took, Gave}
use Rattle.packet_fields.specs.internal.Judging.{judge, Standing}
use Rattle.packet_fields.specs.internal.row.Values.{groups_all, row_bytes}
use Rattle.packet_fields.proofs.Steps.{took_some, past}
use Rattle.packet_fields.proofs.row.Held.{Held, all_bytes, no_bytes, held_within, any_held, bytes_held, bytes_over}
use Rattle.packet_fields.proofs.row.Whole as whole
use Rattle.packet_segment.specs.internal.head.Head.{head_part}

-- a number of few bits
pub few_bits : (s : List ℕ) (at w : ℕ) {v : ℕ} → w ≤ 14 → v ≡ field_at s at w → v < 16384
few_bits s at w l e = rw e (field_small s at w 14 l)

module _ (s : List ℕ) where
  -- ---- the bytes of a row in which one field can be refused

  module _ {c : ℕ} (ec : c ≡ bytes_of (value_in_packet (up_to 17 86399) (field_at s 95 17))) where
    pub header_none : c ≡ 0 → 0 ≡ row_bytes header_most (fields_at s 56 header_widths)
    header_none z = no_bytes header_most (fields_at s 56 header_widths) (λ h. omega (arith, h.1.1.0, bytes_over 17 86399 (field_at s 95 17) ec z))

    pub header_some : {a b d : ℕ} → (c ≡ 0 → ⊥) → a ≡ length (groups_in (field_at s 56 24)) → b ≡ length (groups_in (field_at s 80 15)) → d ≡ length (groups_in (field_at s 112 8))
        → a + b + c + d ≡ row_bytes header_most (fields_at s 56 header_widths)
    header_some z ea eb ed =
        let i = bytes_held 17 86399 (field_at s 95 17) ec z in
        all_bytes header_most (fields_at s 56 header_widths)
        (any_held s 56 24 16777215 refl, (any_held s 80 15 32767 refl, (i.0, (any_held s 112 8 255 refl, tt))))
        (omega (arith, ea, eb, i.1, ed))

  module _ {b : ℕ} (eb : b ≡ bytes_of (value_in_packet (up_to 7 112) (field_at s 226 7))) where
    pub offset_none : b ≡ 0 → 0 ≡ row_bytes offset_most (fields_at s 202 offset_widths)
    offset_none z = no_bytes offset_most (fields_at s 202 offset_widths) (λ h. omega (arith, h.1.0, bytes_over 7 112 (field_at s 226 7) eb z))

    pub offset_some : {a c : ℕ} → (b ≡ 0 → ⊥) → a ≡ length (groups_in (field_at s 202 24)) → c ≡ length (groups_in (field_at s 233 20))
        → a + b + c ≡ row_bytes offset_most (fields_at s 202 offset_widths)
    offset_some z ea ec =
        let i = bytes_held 7 112 (field_at s 226 7) eb z in
        all_bytes offset_most (fields_at s 202 offset_widths)
        (any_held s 202 24 16777215 refl, (i.0, (any_held s 233 20 1048575 refl, tt)))
        (omega (arith, ea, i.1, ec))

  -- ---- the whole

  -- the bytes of NID_OPERATIONAL, of the three rows, and of L_SP, whose value is v
  module _ {stop : ℕ} (h : Standing s stop 24 1) (room : 253 ≤ stop) {o a b r d v : ℕ} (eo : o ≡ bytes_of (value_in_packet nid_operational (field_at s 24 32))) (zo : o ≡ 0 → ⊥)
      (ea : a ≡ row_bytes header_most (fields_at s 56 header_widths)) (za : a ≡ 0 → ⊥) (eb : b ≡ groups_all (fields_at s 120 identity_widths))
      (ev : v ≡ field_at s 178 24) (zv : v ≡ 0 → ⊥) (er : r ≡ length (groups_in v)) (ed : d ≡ row_bytes offset_most (fields_at s 202 offset_widths)) (zd : d ≡ 0 → ⊥) where
    any_identity : Held identity_most (fields_at s 120 identity_widths)
    any_identity = (any_held s 120 10 1023 refl, (any_held s 130 32 4294967295 refl, (any_held s 162 8 255 refl, (any_held s 170 8 255 refl, tt))))

    pub head_on : Gave (judge s stop) head_part 24 1 (Got.is v 253 (1 + o + a + b + r + d))
    head_on =
        let operational = past s stop (took_some s stop nid_operational 32 refl h (lit≤ tt) (omega arith) refl eo zo) in
        let header = whole.bytes_some s stop 24 16777215 (15 ∷ 17 ∷ 8 ∷ []) (32767 ∷ 86399 ∷ 255 ∷ []) header_fits operational.stands (omega arith) ea za in
        let identity = rw (← eb) at (whole.row_in s stop identity_widths identity_most identity_fits header.stands (omega arith) (held_within identity_most (fields_at s 120 identity_widths) any_identity)) in
        let l : field_at s 178 24 < 2 ^ 24 = field_small s 178 24 24 (le_refl 24) in
        let t : Took (judge s stop) l_sp 178 (1 + o + a + b) (Got.is v 202 (1 + o + a + b + r)) =
        took_some s stop l_sp 24 refl identity.stands (lit≤ tt) (omega arith) ev
        (bytes_some l_sp v (both_in 1 16777215 v (omega (arith, zv)) (omega (arith, ev, l))) er) (λ y. omega (arith, er, y, count_some v)) in
        let offsets = whole.bytes_some s stop 24 16777215 (7 ∷ 20 ∷ []) (112 ∷ 1048575 ∷ []) offset_fits t.stands (omega arith) ed zd in
        let g = gave_on operational (gave_on header (gave_on identity (gave_then (gave_took t) offsets))) in
        record { goes = g.goes; stands = g.stands }
