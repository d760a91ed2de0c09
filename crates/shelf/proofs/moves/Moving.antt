-- One turn of each move, and the entry that is written.
use mathlib.Core.Path.{◌≡◌, sym, ap, ap₂, ◌∙◌}
use mathlib.Core.List.{List, [], ◌∷◌, ◌++◌, append_assoc, append-nil}
use Prim.Native.Nat.{ℕ, suc, ◌+◌, ◌-◌, ◌/◌, ◌%◌, ◌≤◌, ◌<◌}
use native.Mathlib.Nat.{le_refl, le_of_eq}
use native.Mathlib.Omega.{arith}
use lib.ListN.{length, get_or, set, take, drop, length-append, length-drop, take-append-drop, get_or-append, drop_of_length-le}
use lib.Seq.{paste, get_or-take, length-take-le, take-suc, drop-cons, set_at, append_snoc, take_at, drop_at, drop-drop, take_all}
use borrow.Rule.Slice.PartMut.{put_mid, mid_of}
use Rattle.shelf.specs.Shelf.{length_bytes}
use Rattle.shelf.specs.internal.Changing.{written, moved}

-- ---- bytes moved

module _ (s : List ℕ) (to from : ℕ) where
  -- what `copy_within` leaves
  pub copied : (n m : ℕ) → n ≡ m → paste s to (drop from s) n ≡ moved to from m s
  copied n m e = ap (paste s to (drop from s)) e ∙ append_assoc (take to s) (take m (drop from s)) (drop (to + m) s)

  -- bytes that are moved to their own place
  pub down_same : (n : ℕ) → to ≡ from → s ≡ moved to from n s
  down_same n e =
      sym (take-append-drop to s) ∙ ap (λ (x : List ℕ). take to s ++ x) (sym (take-append-drop n (drop to s)))
      ∙ ap₂ (λ (x y : List ℕ). take to s ++ (x ++ y)) (ap (λ (k : ℕ). take n (drop k s)) e) (drop-drop n to s)

-- ---- up

module _ (s : List ℕ) (to from : ℕ) where
  -- m bytes are moved, and l are left
  abbrev pub up : ℕ → ℕ → List ℕ
  up l m = moved (to + l) (from + l) m s

  module _ (l m : ℕ) (h : from ≤ to) (inside : to + suc l + m ≤ length s) where
    head_long : length (take (to + suc l) s) ≡ to + suc l
    head_long = length-take-le (to + suc l) s (omega arith)

    kept_there : get_or (up (suc l) m) (from + l) 0 ≡ get_or s (from + l) 0
    kept_there =
        get_or-append (take (to + suc l) s) (take m (drop (from + suc l) s) ++ drop (to + suc l + m) s) 0 (from + l) (omega (arith, head_long))
        ∙ get_or-take (to + suc l) s (from + l) 0 (omega arith)

    pub up_step : set (up (suc l) m) (to + l) (get_or (up (suc l) m) (from + l) 0) ≡ up l (suc m)
    up_step =
        let v = get_or s (from + l) 0 in
        let more = take m (drop (from + suc l) s) ++ drop (to + suc l + m) s in
        let p : to + suc l ≡ suc (to + l) = omega arith in
        let q : from + suc l ≡ suc (from + l) = omega arith in
        let r : to + suc l + m ≡ to + l + suc m = omega arith in
        let front : take (to + suc l) s ++ more ≡ take (to + l) s ++ (get_or s (to + l) 0 ∷ more) =
        ap (λ (k : ℕ). take k s ++ more) p ∙ ap (λ (x : List ℕ). x ++ more) (take-suc s (to + l) 0 (omega arith)) ∙ append_snoc (take (to + l) s) (get_or s (to + l) 0) more in
        ap (set (up (suc l) m) (to + l)) kept_there ∙ ap (λ (x : List ℕ). set x (to + l) v) front
        ∙ set_at (take (to + l) s) (get_or s (to + l) 0) more v (to + l) (length-take-le (to + l) s (omega arith))
        ∙ ap₂ (λ (x : List ℕ) (k : ℕ). take (to + l) s ++ (x ++ drop k s))
        (ap (λ (k : ℕ). v ∷ take m (drop k s)) q ∙ ap (take (suc m)) (sym (drop-cons s (from + l) 0 (omega arith)))) r

  module _ (count : ℕ) where
    -- a turn that counts down
    pub up_turn : (l : ℕ) → 0 < l → l ≤ count → from ≤ to → to + count ≤ length s
        → set (up l (count - l)) (to + (l - 1)) (get_or (up l (count - l)) (from + (l - 1)) 0) ≡ up (l - 1) (count - (l - 1))
    up_turn l some h f i =
        let p : suc (l - 1) ≡ l = omega arith in
        let q : suc (count - l) ≡ count - (l - 1) = omega arith in
        sym (λ j. set (up (p j) (count - l)) (to + (l - 1)) (get_or (up (p j) (count - l)) (from + (l - 1)) 0))
        ∙ up_step (l - 1) (count - l) f (omega arith) ∙ ap (up (l - 1)) q

-- ---- an entry

-- bytes copied into the rest of a room, from the byte n on
pub part_copied : (n : ℕ) (d room end : List ℕ) → n + length d ≤ length room → end ≡ take (length d) d ++ drop (length d) (mid_of n (length room - n) room)
    → put_mid n (length room - n) room end ≡ written n d room
part_copied n d room end h e =
    let gone : drop (length room - n) (drop n room) ≡ [] = drop_of_length-le (drop n room) (le_of_eq (length-drop n room)) in
    let rest : mid_of n (length room - n) room ≡ drop n room = take_all (length room - n) (drop n room) (le_of_eq (length-drop n room)) in
    let all : take (length d) d ≡ d = take_all (length d) d (le_refl _) in
    rw (e, gone, rest, all, drop-drop (length d) n room, append-nil (d ++ drop (n + length d) room))

-- bytes copied over m bytes of a room, from the byte n on
pub part_filled : (n m : ℕ) (d room end : List ℕ) → m ≡ length d → end ≡ d → put_mid n m room end ≡ written n d room
part_filled n m d room end p e =
    ap₂ (λ (x : List ℕ) (k : ℕ). take n room ++ (x ++ drop k (drop n room))) e p ∙ ap (λ (x : List ℕ). take n room ++ (d ++ x)) (drop-drop (length d) n room)

pub be_bytes : (n : ℕ) → n / 16777216 % 256 ∷ n / 65536 % 256 ∷ n / 256 % 256 ∷ n % 256 ∷ [] ≡ length_bytes n
be_bytes n =
    let a : n / 16777216 ≡ n / 256 / 256 / 256 = omega arith in
    let b : n / 65536 ≡ n / 256 / 256 = omega arith in
    λ i. a i % 256 ∷ b i % 256 ∷ n / 256 % 256 ∷ n % 256 ∷ []

pub written_length : (at : ℕ) (x s : List ℕ) → at + length x ≤ length s → length (written at x s) ≡ length s
written_length at x s h =
    omega (arith, length-append (take at s) (x ++ drop (at + length x) s), length-append x (drop (at + length x) s), length-take-le at s (omega arith), length-drop (at + length x) s)

-- a list written after another
pub written_after : (at : ℕ) (x y s : List ℕ) {from : ℕ} → at ≤ length s → from ≡ at + length x → written from y (written at x s) ≡ written at (x ++ y) s
written_after at x y s {from} h e =
    let w : written at x s ≡ (take at s ++ x) ++ drop (at + length x) s = sym (append_assoc (take at s) x (drop (at + length x) s)) in
    let long : length (take at s ++ x) ≡ from = omega (arith, length-append (take at s) x, length-take-le at s h, e) in
    let n : at + length x + length y ≡ at + length (x ++ y) = omega (arith, length-append x y) in
    let front : take from (written at x s) ≡ take at s ++ x = ap (take from) w ∙ take_at (take at s ++ x) (drop (at + length x) s) from long in
    let back : drop (from + length y) (written at x s) ≡ drop (at + length (x ++ y)) s =
    sym (drop-drop (length y) from (written at x s)) ∙ ap (drop (length y)) (ap (drop from) w ∙ drop_at (take at s ++ x) (drop (at + length x) s) from long)
    ∙ drop-drop (length y) (at + length x) s ∙ ap (λ (k : ℕ). drop k s) n in
    ap₂ (λ (p q : List ℕ). p ++ (y ++ q)) front back ∙ append_assoc (take at s) x (y ++ drop (at + length (x ++ y)) s)
    ∙ ap (λ (z : List ℕ). take at s ++ z) (sym (append_assoc x y (drop (at + length (x ++ y)) s)))
