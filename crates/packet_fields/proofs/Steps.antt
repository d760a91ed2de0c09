-- A field judged at its place: it does not fit, it is refused, or it has a value.
use mathlib.Core.Path.{◌≡◌, ◌∙◌}
use mathlib.Core.List.{List}
use Prim.Native.Nat.{ℕ, ◌+◌, ◌-◌, ◌≤◌, ◌<◌}
use native.Mathlib.Omega.{arith}
use lib.ListN.{length}
use Rattle.bits.specs.Bits.{field_at}
use Rattle.bits.proofs.Tests.{by_cases}
use Rattle.numbers.specs.Numbers.{groups_in}
use Rattle.numbers.proofs.Counting.{count_some, count_five}
use Rattle.kinds.specs.Kind.{Kind}
use Rattle.kinds.specs.Judged.{value_in_packet}
use Rattle.fields.specs.internal.size.Counts.{bytes_of}
use Rattle.format.specs.Format.{then}
use Rattle.format.specs.internal.Places.{Taken, Placed, taken_at, bits_taken}
use Rattle.format.proofs.Places.{bits_short, bits_whole}
use Rattle.format.proofs.Passing.{packet_seen}
use Rattle.format.proofs.Ways.{value_on, value_off, over_none, took_is, took_off}
use Rattle.format.specs.internal.Ways.{Went, Got, Over, Took}
use Rattle.packet_fields.specs.internal.Judging.{judging, judge, Standing}

module _ (s : List ℕ) (stop : ℕ) where
  placed : {at n : ℕ} → Standing s stop at n → Placed s at stop
  placed h = record { before = h.before; inside = h.inside; few = h.few }

  -- ---- a field of w bits: they are not all present, or its value is v, of r bytes in the sheet, where 0 bytes stand for a refusal

  module _ (k : Kind) (w : ℕ) (e : k.width ≡ w) {at n : ℕ} (h : Standing s stop at n) where
    refused : {r : ℕ} → Taken.Refused r ≡ bits_taken k s at stop → Took (judge s stop) k at n (Got.off r at)
    refused q = took_off (packet_seen s stop) judging (Standing s stop) k (placed h) q

    pub took_short : stop - at < w → Took (judge s stop) k at n (Got.off 6 at)
    took_short l = refused (bits_short k s at stop (rw e l))

    module _ (some : 1 ≤ w) (room : w ≤ stop - at) {v r : ℕ} (ev : v ≡ field_at s at w) (er : r ≡ bytes_of (value_in_packet k v)) where
      there : taken_at (value_in_packet k v) (at + w) ≡ bits_taken k s at stop
      there = rw (ev, ← e) (bits_whole k s at stop (rw e room))

      pub took_none : r ≡ 0 → Took (judge s stop) k at n (Got.off (k.refusal v) at)
      took_none z =
          by_cases (k.allowed v)
          (λ a. absurd (let f : bytes_of (value_in_packet k v) ≡ length (groups_in (k.raise v)) = rw a in omega (arith, count_some (k.raise v))))
          (λ a. refused (rw a at there))

      pub took_some : (r ≡ 0 → ⊥) → Took (judge s stop) k at n (Got.is v (at + w) (n + r))
      took_some z =
          by_cases (k.allowed v)
          (λ a. let f : r ≡ length (groups_in (k.raise v)) = er ∙ rw a in
          rw f (took_is (packet_seen s stop) judging (Standing s stop) k (placed h) (rw a at there) record {
            before = omega (arith, room, h.before);
            inside = h.inside;
            few = h.few;
            long = h.long;
            counted = omega (arith, h.counted, some, count_five (k.raise v));
          }))
          (λ a. absurd (z (er ∙ rw a)))

  -- a field on whose value nothing depends

  pub past : {k : Kind} {at n v to m : ℕ} → Took (judge s stop) k at n (Got.is v to m) → Over (judge s stop) (then k) at n (Went.on to m)
  past t = value_on (λ v f. f) t (over_none t.stands)

  pub past_off : {k : Kind} {at n r place : ℕ} → Took (judge s stop) k at n (Got.off r place) → Over (judge s stop) (then k) at n (Went.off r place)
  past_off t = value_off (λ v f. f) t
