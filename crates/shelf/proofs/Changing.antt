-- What is moved: a sheet is cut out of the used part, or put between two parts of it; and a store written twice.
use mathlib.Core.Path.{◌≡◌, refl, sym, ap, ap₂, ◌∙◌, subst}
use mathlib.Core.Bool.{true}
use mathlib.Core.List.{List, [], ◌∷◌, ◌++◌, append_assoc}
use mathlib.Core.Option.{Option, none, some}
use Prim.Native.Nat.{ℕ, ◌+◌, ◌-◌, ◌≤◌}
use native.Mathlib.Omega.{arith}
use lib.ListN.{length, take, drop, length-append, length-drop, take-append-drop}
use lib.Seq.{take-append_seam, drop-append_seam, take-append-le, take-take, drop_at, drop-append-add, length-take-le}
use Rattle.std.specs.Prelude.{Option as Perhaps, Some, None}
use Rattle.bits.proofs.Tests.{by_cases}
use Rattle.shelf.specs.declared.Key.{Key}
use Rattle.shelf.specs.declared.run.Place.{Place}
use Rattle.shelf.specs.Book.{same_key, key_number, below, Kept, lookup, without, placed_in, different, weight}
use Rattle.shelf.specs.Shelf.{length_bytes, kept_bytes}
use Rattle.shelf.specs.Keeps.{Keeps}
use Rattle.shelf.specs.internal.Scanning.{kept_in, place_from, size_of, gap_from, gap_in}
use Rattle.shelf.specs.internal.Changing.{written, moved, entry_put, Insertable, inserted}
use Rattle.shelf.proofs.Book.{same_is, not_first, not_later, first_absent, rest_different}
use Rattle.shelf.proofs.Reading.{kept_length, kept_append, used_weight}
use Rattle.shelf.proofs.Scanning.{weight_append}

-- ---- bytes moved

module _ (a m c t : List ℕ) where
  abbrev held : List ℕ
  held = a ++ (m ++ (c ++ t))

  -- c moved down over m
  moved_down : moved (length a) (length a + length m) (length c) held ≡ a ++ (c ++ drop (length a + length c) held)
  moved_down =
      ap₂ (λ (x y : List ℕ). x ++ (y ++ drop (length a + length c) held)) (take-append_seam a (m ++ (c ++ t)))
      (ap (take (length c)) (drop-append-add a (m ++ (c ++ t)) (length m) ∙ drop-append_seam m (c ++ t)) ∙ take-append_seam c t)

module _ (a c t x : List ℕ) (h : length a + length x ≤ length (a ++ (c ++ t))) where
  abbrev kept : List ℕ
  kept = a ++ (c ++ t)

  abbrev opened : List ℕ
  opened = moved (length a + length x) (length a) (length c) kept

  long : length (take (length a + length x) kept) ≡ length a + length x
  long = length-take-le (length a + length x) kept h

  -- c moved up, and x written into the gap
  moved_up : written (length a) x opened ≡ a ++ (x ++ (c ++ drop (length a + length x + length c) kept))
  moved_up =
      let more = take (length c) (drop (length a) kept) ++ drop (length a + length x + length c) kept in
      ap₂ (λ (p q : List ℕ). p ++ (x ++ q))
      (take-append-le (length a) (take (length a + length x) kept) more (omega (arith, long)) ∙ take-take (length a) (length a + length x) kept (omega arith) ∙ take-append_seam a (c ++ t))
      (drop_at (take (length a + length x) kept) more (length a + length x) long
      ∙ ap (λ (p : List ℕ). p ++ drop (length a + length x + length c) kept) (ap (take (length c)) (drop-append_seam a (c ++ t)) ∙ take-append_seam c t))

pub moved_length : (to from n : ℕ) (s : List ℕ) → to + n ≤ length s → from + n ≤ length s → length (moved to from n s) ≡ length s
moved_length to from n s h i =
    let rest = take n (drop from s) in
    omega (arith, length-append (take to s) (rest ++ drop (to + n) s), length-append rest (drop (to + n) s), length-take-le to s (omega arith), length-take-le n (drop from s) (omega (arith, length-drop from s)), length-drop (to + n) s)

-- ---- a sheet cut out

pub without_absent : (k : Key) (b : List Kept) → lookup k b ≡ none → without k b ≡ b
without_absent k [] z = refl
without_absent k (e ∷ b) z = rw (not_first k e b z) (ap (λ (c : List Kept). e ∷ c) (without_absent k b (not_later k e b z)))

pub place_absent : (k : Key) (n : ℕ) (b : List Kept) → lookup k b ≡ none → place_from n k b ≡ None
place_absent k n [] z = refl
place_absent k n (e ∷ b) z = rw (not_first k e b z) (place_absent k (n + (4 + length e.sheet)) b (not_later k e b z))

-- where the entry starts: at 0 if there is none
abbrev pub start_of : Perhaps Place → ℕ
start_of None = 0
start_of (Some p) = p.start

-- what is in front of the entry of a key and what is after it; where there is none, an entry of no bytes in front of all
record CutAt (n : ℕ) (k : Key) (b : List Kept) (start size : ℕ) : Type 0 where
  pub front : List Kept
  pub mid : List ℕ
  pub back : List Kept
  pub whole : kept_bytes b ≡ kept_bytes front ++ (mid ++ kept_bytes back)
  pub left : without k b ≡ front ++ back
  pub begins : start ≡ n + weight front
  pub takes : size ≡ length mid

module _ (k : Key) {o : Perhaps Place} where
  cut_found : (n : ℕ) (b : List Kept) (sheet : List ℕ) → different b ≡ true → lookup k b ≡ some sheet → place_from n k b ≡ o → CutAt n k b (start_of o) (size_of o)
  cut_found n [] sheet d l e = absurd (let z : ◌≡◌ {A = ℕ} 0 1 = cc in omega arith)
  cut_found n (f ∷ b) sheet d l e =
      by_cases (same_key f.key k)
      (λ q. let i = same_is f.key k q in
      let p : Some (record { start = n; size = 4 + length f.sheet }) ≡ o = rw q at e in
      let z : lookup k b ≡ none = subst (λ (h : Key). lookup h b ≡ none) i (first_absent f b d) in
      record {
        front = [];
        mid = length_bytes (length f.sheet) ++ f.sheet;
        back = b;
        whole = refl;
        left = rw q (without_absent k b z);
        begins = let y : n ≡ start_of o = ap start_of p in omega arith;
        takes = let y : 4 + length f.sheet ≡ size_of o = ap size_of p in omega arith;
      })
      (λ q. let c = cut_found (n + (4 + length f.sheet)) b sheet (rest_different f b d) (rw q at l) (rw q at e) in
      record {
        front = f ∷ c.front;
        mid = c.mid;
        back = c.back;
        whole = ap (λ (s : List ℕ). length_bytes (length f.sheet) ++ (f.sheet ++ s)) c.whole
            ∙ ap (λ (s : List ℕ). length_bytes (length f.sheet) ++ s) (sym (append_assoc f.sheet (kept_bytes c.front) (c.mid ++ kept_bytes c.back)));
        left = rw q (ap (λ (m : List Kept). f ∷ m) c.left);
        begins = omega (arith, c.begins);
        takes = c.takes;
      })

  cut_out : (b : List Kept) → different b ≡ true → place_from 0 k b ≡ o → CutAt 0 k b (start_of o) (size_of o)
  cut_out b d e = go (lookup k b) refl
    where
      go : (l : Option (List ℕ)) → lookup k b ≡ l → CutAt 0 k b (start_of o) (size_of o)
      go (some sheet) l = cut_found 0 b sheet d l e
      go none l =
          let p : None ≡ o = sym (place_absent k 0 b l) ∙ e in
          record { front = []; mid = []; back = b; whole = refl; left = without_absent k b l; begins = let y : 0 ≡ start_of o = ap start_of p in omega arith; takes = let y : 0 ≡ size_of o = ap size_of p in omega arith }

-- a store that keeps a book, and the entry of a key in it
module _ {s : List ℕ} {used : ℕ} {b : List Kept} (w : Keeps s used b) (k : Key) {o : Perhaps Place} (e : place_from 0 k b ≡ o) where
  abbrev start : ℕ
  start = start_of o

  abbrev size : ℕ
  size = size_of o

  abbrev cut : CutAt 0 k b start size
  cut = cut_out k b w.apart e

  cut_split : s ≡ kept_bytes cut.front ++ (cut.mid ++ (kept_bytes cut.back ++ drop used s))
  cut_split =
      sym (take-append-drop used s) ∙ ap (λ (x : List ℕ). x ++ drop used s) (w.front ∙ cut.whole)
      ∙ append_assoc (kept_bytes cut.front) (cut.mid ++ kept_bytes cut.back) (drop used s)
      ∙ ap (λ (x : List ℕ). kept_bytes cut.front ++ x) (append_assoc cut.mid (kept_bytes cut.back) (drop used s))

  cut_weight : used ≡ weight cut.front + (length cut.mid + weight cut.back)
  cut_weight =
      used_weight w ∙ sym (kept_length b) ∙ ap length cut.whole ∙ length-append (kept_bytes cut.front) (cut.mid ++ kept_bytes cut.back)
      ∙ ap₂ ◌+◌ (kept_length cut.front) (length-append cut.mid (kept_bytes cut.back) ∙ ap (λ (n : ℕ). length cut.mid + n) (kept_length cut.back))

  pub left_weight : weight (without k b) ≡ used - size
  left_weight =
      sym (kept_length (without k b)) ∙ ap (λ (c : List Kept). length (kept_bytes c)) cut.left ∙ ap length (kept_append cut.front cut.back)
      ∙ length-append (kept_bytes cut.front) (kept_bytes cut.back) ∙ omega (arith, kept_length cut.front, kept_length cut.back, cut_weight, cut.takes)

  -- the entry lies within the used part
  pub place_inside : start + size ≤ used
  place_inside = omega (arith, cut_weight, cut.takes, cut.begins)

  pub place_rest : start ≤ used - size
  place_rest = omega (arith, place_inside)

  -- the store after the entry is cut out
  pub cut_moved : moved start (start + size) (used - size - start) s ≡ kept_bytes (without k b) ++ drop (weight (without k b)) s
  cut_moved =
      let a = kept_bytes cut.front in
      let c = kept_bytes cut.back in
      let m = cut.mid in
      let p : start ≡ length a = omega (arith, cut.begins, kept_length cut.front) in
      let q : start + size ≡ length a + length m = ap₂ ◌+◌ p cut.takes in
      let r : used - size - start ≡ length c = omega (arith, cut_weight, cut.takes, cut.begins, kept_length cut.back) in
      let n : length a + length c ≡ weight (without k b) = omega (arith, left_weight, cut_weight, cut.takes, kept_length cut.front, kept_length cut.back) in
      (λ i. moved (p i) (q i) (r i) s)
      ∙ subst (λ (x : List ℕ). moved (length a) (length a + length m) (length c) x ≡ a ++ (c ++ drop (length a + length c) x)) (sym cut_split) (moved_down a m c (drop used s))
      ∙ sym (append_assoc a c (drop (length a + length c) s))
      ∙ ap₂ (λ (x : List ℕ) (y : ℕ). x ++ drop y s) (sym (kept_append cut.front cut.back) ∙ ap kept_bytes (sym cut.left)) n

-- ---- a sheet put between

record Between (n : Kept) (b : List Kept) : Type 0 where
  pub front : List Kept
  pub back : List Kept
  pub whole : b ≡ front ++ back
  pub placed : placed_in n b ≡ front ++ n ∷ back
  pub gap : (m : ℕ) → gap_from m (key_number n.key) b ≡ m + weight front

put_between : (n : Kept) (b : List Kept) → Between n b
put_between n [] = record { front = []; back = []; whole = refl; placed = refl; gap = λ m. omega arith }
put_between n (e ∷ b) =
    by_cases (below n.key e.key)
    (λ q. record { front = []; back = e ∷ b; whole = refl; placed = rw q; gap = λ m. rw q (omega arith) })
    (λ q. let c = put_between n b in
    record {
      front = e ∷ c.front;
      back = c.back;
      whole = ap (λ (m : List Kept). e ∷ m) c.whole;
      placed = rw q (ap (λ (m : List Kept). e ∷ m) c.placed);
      gap = λ m. rw q (c.gap (m + (4 + length e.sheet)) ∙ omega arith);
    })

module _ (s : List ℕ) (rest : ℕ) (k : Key) (sheet : List ℕ) (w : Insertable s rest k sheet) where
  abbrev run : List Kept
  run = kept_in (take rest s)

  abbrev new : Kept
  new = record { key = k; sheet = sheet }

  abbrev between : Between new run
  between = put_between new run

  rest_inside : rest ≤ length s
  rest_inside = let r = w.room in omega arith

  run_weight : weight run ≡ rest
  run_weight = sym (kept_length run) ∙ sym (ap length w.run.run.whole) ∙ length-take-le rest s rest_inside

  parts_weight : weight run ≡ weight between.front + weight between.back
  parts_weight = ap weight between.whole ∙ weight_append between.front between.back

  gap_is : gap_in (key_number k) run ≡ weight between.front
  gap_is = between.gap 0 ∙ omega arith

  pub gap_inside : gap_in (key_number k) run ≤ rest
  gap_inside = omega (arith, gap_is, run_weight, parts_weight)

  run_split : s ≡ kept_bytes between.front ++ (kept_bytes between.back ++ drop rest s)
  run_split =
      sym (take-append-drop rest s)
      ∙ ap (λ (x : List ℕ). x ++ drop rest s) (w.run.run.whole ∙ ap kept_bytes between.whole ∙ kept_append between.front between.back)
      ∙ append_assoc (kept_bytes between.front) (kept_bytes between.back) (drop rest s)

  pub put_moved : {at : ℕ} → at ≡ gap_in (key_number k) run → entry_put at sheet (moved (at + (4 + length sheet)) at (rest - at) s) ≡ inserted rest k sheet s
  put_moved {at} e =
      let a = kept_bytes between.front in
      let c = kept_bytes between.back in
      let x = length_bytes (length sheet) ++ sheet in
      let p : at ≡ length a = e ∙ gap_is ∙ sym (kept_length between.front) in
      let q : at + (4 + length sheet) ≡ length a + length x = omega (arith, p) in
      let r : rest - at ≡ length c = omega (arith, e, gap_is, run_weight, parts_weight, kept_length between.back) in
      let n : length a + length x + length c ≡ rest + (4 + length sheet) = omega (arith, run_weight, parts_weight, kept_length between.front, kept_length between.back) in
      let h : length a + length x ≤ length s = let z = w.room in omega (arith, kept_length between.front, run_weight, parts_weight) in
      (λ i. written (p i) x (moved (q i) (p i) (r i) s))
      ∙ subst
      (λ (z : List ℕ). length a + length x ≤ length z → written (length a) x (moved (length a + length x) (length a) (length c) z) ≡ a ++ (x ++ (c ++ drop (length a + length x + length c) z)))
      (sym run_split)
      (moved_up a c (drop rest s) x)
      h
      ∙ ap (λ (m : ℕ). a ++ (x ++ (c ++ drop m s))) n
      ∙ ap (λ (z : List ℕ). a ++ z) (sym (append_assoc x c (drop (rest + (4 + length sheet)) s)))
      ∙ sym (append_assoc a (x ++ c) (drop (rest + (4 + length sheet)) s))
      ∙ ap (λ (z : List ℕ). z ++ drop (rest + (4 + length sheet)) s) (sym (kept_append between.front (new ∷ between.back)) ∙ ap kept_bytes (sym between.placed))
