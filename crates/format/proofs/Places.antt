-- A field taken at a place, by cases; and what is left of a packet at a place.
use mathlib.Core.Path.{◌≡◌}
use mathlib.Core.List.{List, []}
use Prim.Native.Nat.{ℕ, ◌+◌, ◌-◌, ◌≤◌, ◌<◌}
use native.Mathlib.Nat.{sub_self}
use native.Mathlib.Omega.{arith}
use borrow.Author.Tests.{lt-ltb, le-ltb}
use lib.ListN.{length, drop, length-drop}
use lib.Seq.{length-take-le}
use Rattle.bits.specs.Bits.{bits_of_bytes, field_at}
use Rattle.bits.proofs.Padding.{length_bytes_lem}
use Rattle.std.specs.Prelude.{Some, None}
use Rattle.numbers.specs.Numbers.{number_in, groups_in}
use Rattle.kinds.specs.Kind.{Kind}
use Rattle.kinds.specs.Judged.{value_in_packet, number_in_sheet}
use Rattle.format.specs.internal.Places.{Taken, bits_between, Placed, taken_at, bits_taken, number_taken}

module _ (k : Kind) (s : List ℕ) (at : ℕ) where
  pub bits_short : (stop : ℕ) → stop - at < k.width → Taken.Refused 6 ≡ bits_taken k s at stop
  bits_short stop h = rw (lt-ltb (stop - at) k.width h)

  pub bits_whole : (stop : ℕ) → k.width ≤ stop - at → taken_at (value_in_packet k (field_at s at k.width)) (at + k.width) ≡ bits_taken k s at stop
  bits_whole stop h = rw (le-ltb (stop - at) k.width h)

  pub number_found : {a : ℕ} → number_in (drop at s) ≡ Some a → taken_at (number_in_sheet k a) (at + length (groups_in a)) ≡ number_taken k s at
  number_found e = rw e

  pub number_none : number_in (drop at s) ≡ None → Taken.Refused 9 ≡ number_taken k s at
  number_none e = rw e

-- ---- a packet's bits

module _ (s : List ℕ) (end : ℕ) where
  pub rest_length : (at : ℕ) → Placed s at end → length (bits_between s at end) ≡ end - at
  rest_length at h = length-take-le (end - at) (drop at (bits_of_bytes s)) (rw (length-drop, length_bytes_lem) (omega arith))

  pub rest_none : (at : ℕ) → at ≡ end → bits_between s at end ≡ []
  rest_none at e = rw (e, sub_self)

  pub rest_some : (at : ℕ) → Placed s at end → (at ≡ end → ⊥) → 0 < length (bits_between s at end)
  rest_some at h n = rw (rest_length at h) (omega arith)
