-- The whole listing: it follows from the altitude's answer, and has at most 1,669 bytes.
use mathlib.Core.Path.{◌≡◌, refl, sym, ap, ◌∙◌}
use mathlib.Core.List.{List, ◌++◌}
use Prim.Native.Nat.{ℕ, zero, suc, ◌+◌, ◌*◌, ◌≤◌}
use native.Mathlib.Omega.{arith}
use lib.ListN.{length, take, drop, get_or, length-append}
use lib.IntN.{ℤ}
use lib.Seq.{sets, sets-eq, take-append_seam}
use Rattle.bits.specs.Bits.{Bytes}
use Rattle.format.specs.Format.{Read, accepted, refused, values_of, sheet_numbers}
use Rattle.grammar.specs.segment.Segment.{wire_changes}
use Rattle.grammar.specs.segment.Judgement.{from_packet}
use Rattle.grammar.proofs.segment.Refusals.{packet_refusal}
use Rattle.speed.specs.Speed.{after_element, element_of, changes_from, profile_of}
use Rattle.altitude.specs.declared.Altitude.{Altitude}
use Rattle.altitude.specs.Altitude.{centimetres, altitude_field, altitude_of_read, altitude_of}
use Rattle.text.specs.words.Words.{Laid}
use Rattle.text.specs.lines.Lines.{segment_line, element_line, element_lines, lines}
use Rattle.text.specs.internal.lines.Changes.{changes_of}
use Rattle.text.specs.Listing.{refused_line, listed, listing_of, Listed, listing_in}
use Rattle.text.specs.internal.Writers.{PacketAccepted}
use Rattle.text.proofs.words.Putting.{decimal_short}
use Rattle.text.proofs.lines.Laying.{element_short, segment_short}
use Rattle.text.proofs.Accepted.{few_changes}

-- ---- the listing from the altitude's answer

module _ (s : List ℕ) (a : Altitude) (e : a ≡ altitude_of s) where
  by_read : (r : Read) → from_packet wire_changes s ≡ r → a ≡ altitude_of_read r
  unfolding altitude_of
  by_read r d = e ∙ ap altitude_of_read d

  pub refused_text : (a.refusal ≡ 0 → ⊥) → refused_line a.refusal a.place ≡ listing_of s
  unfolding listing_of
  refused_text n = go (from_packet wire_changes s) refl
    where
      go : (r : Read) → from_packet wire_changes s ≡ r → refused_line a.refusal a.place ≡ listed (from_packet wire_changes s)
      go (refused q place) d = ap (λ (x : Altitude). refused_line x.refusal x.place) (by_read (refused q place) d) ∙ rw d
      go (accepted l) d = absurd (n (ap (λ (x : Altitude). x.refusal) (by_read (accepted l) d)))

  module _ (z : a.refusal ≡ 0) where
    pub accepted_packet : PacketAccepted s
    accepted_packet = go (from_packet wire_changes s) refl
      where
        go : (r : Read) → from_packet wire_changes s ≡ r → PacketAccepted s
        go (refused q place) d = absurd (omega (arith, packet_refusal wire_changes s q place d, ap (λ (x : Altitude). x.refusal) (by_read (refused q place) d)))
        go (accepted l) d = rw d

    pub accepted_text : lines a.altitude (sheet_numbers (values_of (from_packet wire_changes s))) ≡ listing_of s
    unfolding listing_of
    accepted_text =
        let l = values_of (from_packet wire_changes s) in
        ap (λ (x : Altitude). lines x.altitude (sheet_numbers l)) (by_read (accepted l) accepted_packet) ∙ sym (ap listed accepted_packet)

-- ---- the room

changes_short : (n : ℕ) (ns : List ℕ) → length (element_lines (changes_from 0 n ns)) ≤ 50 * n
changes_short zero ns = omega arith
changes_short (suc n) ns =
    let e = element_of (0 + get_or ns 0 0) (drop 1 ns) in
    let rest = changes_from 0 n (after_element (drop 1 ns)) in
    rw (length-append (element_line e) (element_lines rest)) (omega (arith, element_short e, changes_short n (after_element (drop 1 ns))))

refused_short : (r place : ℕ) → length (refused_line r place) ≤ 33
refused_short r place = simp length-append (omega (arith, decimal_short r, decimal_short place))

lines_short : (z : ℤ) (ns : List ℕ) → changes_of ns ≤ 31 → length (lines z ns) ≤ 1669
lines_short z ns h =
    let first = element_of 0 (profile_of ns) in
    let others = changes_from 0 (changes_of ns) (drop 1 (after_element (profile_of ns))) in
    rw (length-append (segment_line z ns) (element_line first ++ element_lines others), length-append (element_line first) (element_lines others))
    (omega (arith, segment_short z ns, element_short first, changes_short (changes_of ns) (drop 1 (after_element (profile_of ns)))))

-- a listing has at most 1,669 bytes: a segment's line of at most 69, and at most 32 elements' lines of at most 50
pub listing_short : (s : List ℕ) → Bytes s → length (listing_of s) ≤ 1669
unfolding listing_of
listing_short s ok = go (from_packet wire_changes s) refl
  where
    go : (r : Read) → from_packet wire_changes s ≡ r → length (listed (from_packet wire_changes s)) ≤ 1669
    go (refused q place) d = rw d (omega (arith, refused_short q place))
    go (accepted l) d = rw d (lines_short (centimetres (altitude_field l)) (sheet_numbers l) (few_changes s l ok d))

pub listing_laid : (s room t : List ℕ) {r : ℕ} {cells : List ℕ} → Bytes s → 1669 ≤ length room → Laid room 0 t r cells → t ≡ listing_of s
    → record { length = r; room = cells } ≡ listing_in s room
unfolding listing_in
listing_laid s room t {r} {cells} ok h e d =
    let n : r ≡ length (listing_of s) = omega (arith, e.place, ap length d) in
    let z : 0 + length (listing_of s) ≡ length (listing_of s) = omega arith in
    let b : cells ≡ listing_of s ++ drop (length (listing_of s)) room = e.bytes ∙ ap (sets room 0) d ∙ sets-eq (listing_of s) room 0 (omega (arith, listing_short s ok)) ∙ rw z in
    λ j. record { length = n j; room = b j }

-- the length that is returned is at most the room's
pub listing_inside : (s room : List ℕ) {r : ℕ} {cells : List ℕ} → record { length = r; room = cells } ≡ listing_in s room → r ≤ length cells
unfolding listing_in
listing_inside s room e =
    let t = listing_of s in
    omega (arith, ap (λ (x : Listed). x.length) e, ap (λ (x : Listed). length x.room) e ∙ length-append t (drop (length t) room))

-- the bytes of the room up to the length that is returned are the listing
pub listing_written : (s room : List ℕ) {r : ℕ} {cells : List ℕ} → record { length = r; room = cells } ≡ listing_in s room → take r cells ≡ listing_of s
unfolding listing_in
listing_written s room e =
    let t = listing_of s in
    rw (ap (λ (x : Listed). x.length) e, ap (λ (x : Listed). x.room) e) (take-append_seam t (drop (length t) room))
