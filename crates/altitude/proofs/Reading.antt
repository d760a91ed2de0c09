-- M_SP_Altitude in an accepted packet is the twenty bits from the bit 233 on.
use mathlib.Core.Path.{◌≡◌, refl, sym, ap, ◌∙◌}
use mathlib.Core.Bool.{Bool}
use mathlib.Core.List.{List}
use Prim.Native.Nat.{ℕ, ◌*◌, ◌-◌, ◌^◌, ◌<◌, ◌≤◌}
use native.Mathlib.Omega.{arith}
use lib.Dec.{lit<, lit≤}
use lib.IntN.{ℤ}
use lib.ListN.{length, take, drop}
use lib.Seq.{take-take, drop-drop}
use mir.Facts.{to_z-of_z}
use mir.Syntax.{w32}
use mir.Val.{to_z, of_z}
use Rattle.bits.specs.Bits.{number, bits_of_bytes, field_at}
use Rattle.bits.proofs.Fields.{drop_take, field_small}
use Rattle.kinds.specs.declared.Item.{Item}
use Rattle.format.specs.Format.{accepted, refused, values_of}
use Rattle.format.proofs.Media.{packet_only}
use Rattle.grammar.specs.segment.Segment.{body, fields, sheet_fields, wire_changes}
use Rattle.grammar.specs.segment.Judgement.{from_packet}
use Rattle.format.specs.internal.Places.{bits_between}
use Rattle.format.proofs.Places.{rest_length}
use Rattle.format.specs.Media.{sheet}
use Rattle.verdict.specs.internal.Verdict.{Verdict, size_from, packet_verdict}
use Rattle.grammar.specs.declared.link.Tree.TheVariants.{Segment}
use Rattle.grammar.specs.internal.link.Trees.{tree_sheet_fields}
use Rattle.verdict.specs.internal.frame.Framed.{frame_of}
use Rattle.verdict.proofs.frame.Framing.{whole}
use Rattle.verdict.proofs.Sizes.{verdict_sorts}
use Rattle.verdict.proofs.Accepted.{verdict_accepted, verdict_refused, parts, accepted_frame}
use Rattle.altitude.specs.declared.Altitude.{Altitude}
use Rattle.altitude.specs.Altitude.{centimetres, altitude_field, altitude_of_read, altitude_of}
use Rattle.altitude.proofs.Signs.{centimetres_fit}
use Rattle.altitude.proofs.Standing.{Written, Stands, here, past}

-- twelve fields stand between L_PACKET_ATO and M_SP_Altitude
twelfth : (b : List Bool) (l : List Item) → Written b (fields wire_changes) 0 l → Stands b 12 209 20 l
unfolding fields body
twelfth b l h =
    past b (λ v1 l1. past b λ v2 l2. past b λ v3 l3. past b λ v4 l4. past b λ v5 l5. past b λ v6 l6.
    past b λ v7 l7. past b λ v8 l8. past b λ v9 l9. past b λ v10 l10. past b λ v11 l11. past b λ v12 l12. here b (lit< tt)) h

module _ (s : List ℕ) where
  -- M_SP_Altitude of an accepted packet is inside the packet and gives the altitude
  pub record Field : Type 0 where
    pub value : altitude_of s ≡ record { refusal = 0; place = 0; altitude = centimetres (field_at s 233 20) }
    pub inside : 253 ≤ 8 * length s
    pub present : 13 < length (values_of (from_packet wire_changes s))

  field_bits_lem : (stop : ℕ) → 253 ≤ stop → number (take 20 (drop 209 (bits_between s 24 stop))) ≡ field_at s 233 20
  unfolding field_at
  field_bits_lem stop h =
      rw (drop_take 209 (stop - 24) (drop 24 (bits_of_bytes s)), take-take 20 (stop - 24 - 209) (drop 209 (drop 24 (bits_of_bytes s))) (omega arith), drop-drop)

  module _ (a : from_packet wire_changes s ≡ accepted (values_of (from_packet wire_changes s))) where
    in_frame : (stop : ℕ) → Verdict.sized stop ≡ frame_of 6 s → Field
    unfolding altitude_of from_packet fields
    in_frame stop e =
        let l = values_of (from_packet wire_changes s) in
        let w = whole 6 s stop e in
        let o = parts Segment s stop l e a in
        let c = packet_only (fields wire_changes) 24 (bits_between s 24 stop) o.values o.reads in
        let d = twelfth (bits_between s 24 stop) o.values (record { good = c.0; bits = c.1 }) in
        let long : length (bits_between s 24 stop) ≡ stop - 24 = rest_length s stop 24 w.placed in
        let far : 253 ≤ stop = omega (arith, d.inside) in
        let v : altitude_field l ≡ field_at s 233 20 = ap altitude_field o.all ∙ d.value ∙ field_bits_lem stop far in
        record {
          value = ap altitude_of_read a ∙ λ j. record { refusal = 0; place = 0; altitude = centimetres (v j) };
          inside = omega (arith, w.inside);
          present = omega (arith, d.present, ap length o.all);
        }

    pub accepted_field : Field
    unfolding from_packet fields
    accepted_field = go (frame_of 6 s) refl
      where
        go : (f : Verdict) → f ≡ frame_of 6 s → Field
        go (Verdict.refused r place) d = accepted_frame Segment s r a d
        go (Verdict.sized stop) d = in_frame stop d

  -- ---- the altitude from the verdict

  pub altitude_accepted : (n : ℕ) → Verdict.sized n ≡ packet_verdict Segment s → Field
  unfolding packet_verdict from_packet fields sheet_fields
  altitude_accepted n e = verdict_accepted verdict_sorts (size_from sheet (tree_sheet_fields Segment) 0) (from_packet wire_changes s) n e λ p q. accepted_field p

  pub altitude_refused : (r place : ℕ) → Verdict.refused r place ≡ packet_verdict Segment s → altitude_of_read (refused r place) ≡ altitude_of s
  unfolding packet_verdict altitude_of from_packet fields sheet_fields
  altitude_refused r place e = rw (verdict_refused verdict_sorts (size_from sheet (tree_sheet_fields Segment) 0) (from_packet wire_changes s) r place e)

  -- the signed number of 32 bits that is made of the field is the altitude
  pub altitude_done : (n : ℕ) → Verdict.sized n ≡ packet_verdict Segment s → (v : ℕ) (z : ℤ) → v ≡ field_at s 233 20 → z ≡ centimetres v
      → ◌≡◌ {A = Altitude} (record { refusal = 0; place = 0; altitude = to_z w32 (of_z w32 z) }) (altitude_of s)
  altitude_done n e v z p q =
      let f : v < 2 ^ 20 = rw p (field_small s 233 20 20 (lit≤ tt)) in
      let k : to_z w32 (of_z w32 z) ≡ centimetres (field_at s 233 20) = rw q (to_z-of_z (centimetres_fit v f)) ∙ ap centimetres p in
      (λ j. record { refusal = 0; place = 0; altitude = k j }) ∙ sym (altitude_accepted n e).value
