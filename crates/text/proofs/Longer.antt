-- "no longer input can pass rule 3": the bytes after the first 8,208 change nothing.
use mathlib.Core.Path.{◌≡◌, refl, ap, ◌∙◌}
use mathlib.Core.Bool.{cond}
use mathlib.Core.List.{List, [], ◌∷◌}
use Prim.Native.Nat.{ℕ, suc, ◌+◌, ◌/◌, ◌≤◌}
use native.Mathlib.Omega.{arith}
use borrow.Author.Tests.{le-ltb, ne_eqb}
use lib.Dec.{eqb, lit≤}
use lib.ListN.{length, take}
use lib.Seq.{length-take-le}
use Rattle.bits.specs.Bits.{bits_of, number, field_at}
use Rattle.bits.proofs.Fields.{field_small}
use Rattle.bits.proofs.Tests.{by_cases}
use Rattle.format.specs.Format.{refused}
use Rattle.grammar.specs.segment.Segment.{wire_changes}
use Rattle.grammar.specs.segment.Frame.{packet_number, body_bits}
use Rattle.grammar.specs.segment.Judgement.{from_packet}
use Rattle.text.specs.Listing.{listed, listing_of}

-- "bytes are not 15 + L_PACKET_ATO / 8, rounded up", whatever L_PACKET_ATO is: a packet of 8,208 bytes or more is refused with 2 or 3
long_refused : (s : List ℕ) → 8208 ≤ length s → from_packet wire_changes s ≡ cond (eqb (packet_number s) 6) (refused 3 0) (refused 2 0)
unfolding from_packet
long_refused s h =
    by_cases (eqb (packet_number s) 6)
    (λ e. rw (le-ltb (length s) 15 (omega arith), e, ne_eqb (length s) (15 + (body_bits s + 7) / 8) (λ d. omega (arith, field_small s 8 16 16 (lit≤ tt)))))
    (λ e. rw (le-ltb (length s) 15 (omega arith), e))

-- the packet number is the first byte
number_first : (b : ℕ) (s : List ℕ) → packet_number (b ∷ s) ≡ number (bits_of 8 b)
unfolding field_at
number_first b s = refl

same_number : (n : ℕ) (s : List ℕ) → packet_number (take (suc n) s) ≡ packet_number s
same_number n [] = refl
same_number n (b ∷ s) = rw (number_first b (take n s), number_first b s)

-- a packet is judged by its first 8,208 bytes
pub packet_front : (s : List ℕ) → 8208 ≤ length s → from_packet wire_changes (take 8208 s) ≡ from_packet wire_changes s
packet_front s h =
    let long : 8208 ≤ length (take 8208 s) = omega (arith, length-take-le 8208 s h) in
    long_refused (take 8208 s) long ∙ rw (same_number 8207 s, long_refused s h)

pub listing_front : (s : List ℕ) → 8208 ≤ length s → listing_of (take 8208 s) ≡ listing_of s
unfolding listing_of
listing_front s h = ap listed (packet_front s h)
