-- A room whose first bytes and whose rest are lent one after the other.
use mathlib.Core.Path.{◌≡◌}
use mathlib.Core.List.{List, [], ◌++◌, append-nil}
use Prim.Native.Nat.{ℕ, ◌-◌}
use native.Mathlib.Nat.{le_of_eq}
use native.Mathlib.Omega.{arith}
use lib.ListN.{length, length-append, length-drop, drop, drop_of_length-le}
use lib.Seq.{take_at, drop_at, take_all}
use borrow.Rule.Slice.PartMut.{put_mid, mid_of}

-- the room after the rest was lent: its first bytes, and the new rest
pub room_whole : (n : ℕ) (front old new : List ℕ) → length front ≡ n → put_mid n (length (front ++ old) - n) (front ++ old) new ≡ front ++ new
room_whole n front old new e =
    let d : drop (length (front ++ old) - n) (drop n (front ++ old)) ≡ [] = drop_of_length-le (drop n (front ++ old)) (le_of_eq (length-drop n (front ++ old))) in
    rw (d, take_at front old n e, append-nil new)

-- the part of the room that is lent from the byte n on
pub room_rest : (n : ℕ) (front old : List ℕ) → length front ≡ n → mid_of n (length (front ++ old) - n) (front ++ old) ≡ old
room_rest n front old e = rw (drop_at front old n e) (take_all (length (front ++ old) - n) old (omega (arith, length-append front old)))
