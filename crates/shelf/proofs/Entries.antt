-- A run of accepted sheets read entry by entry, from a place on.
use mathlib.Core.Path.{◌≡◌, refl, sym, ap, ◌∙◌}
use mathlib.Core.List.{List, [], ◌∷◌, ◌++◌}
use mathlib.Core.Option.{some}
use Prim.Native.Nat.{ℕ, ◌+◌, ◌-◌, ◌≤◌, ◌<◌}
use native.Mathlib.Omega.{arith}
use lib.ListN.{length, take, drop, length-drop}
use lib.Seq.{take-append_seam, drop-append_seam, drop-drop}
use Rattle.bits.specs.Bits.{Bytes}
use Rattle.shelf.specs.declared.Key.{Key}
use Rattle.shelf.specs.declared.run.Entry.{Entry}
use Rattle.shelf.specs.Book.{Kept, Each}
use Rattle.shelf.specs.Shelf.{kept_bytes, length_in, front_sheet, after_front}
use Rattle.shelf.specs.Keeps.{Good}
use Rattle.shelf.specs.internal.Scanning.{InRange, AcceptedSheet, accepted_key, kept_in, Runs, Stands, entry_at}
use Rattle.shelf.proofs.Reading.{kept_length, length_again}
use Rattle.shelf.proofs.Scanning.{accepted_key_lem, has_accepted, between, stands_range}

-- P holds of the place at and the book of the entries from there on
pub record Left (u : List ℕ) (P : ℕ → List Kept → Type 0) (at : ℕ) : Type 0 where
  pub book : List Kept
  pub inside : at ≤ length u
  pub good : Each Good book
  pub whole : drop at u ≡ kept_bytes book
  pub holds : P at book

-- the first of the entries that are left
record First (u : List ℕ) (at : ℕ) (e : Kept) (c : List Kept) : Type 0 where
  pub size : length_in (drop at u) ≡ length e.sheet
  pub sheet : front_sheet (drop at u) ≡ e.sheet
  pub rest : after_front (drop at u) ≡ kept_bytes c
  pub fits : at + (4 + length e.sheet) ≤ length u

good_accepted : (e : Kept) → Good e → AcceptedSheet e.sheet
good_accepted e g = has_accepted e.sheet (rw g)

good_key : (e : Kept) → Good e → accepted_key e.sheet ≡ e.key
good_key e g = let q : some (accepted_key e.sheet) ≡ some e.key = sym (accepted_key_lem e.sheet (good_accepted e g)) ∙ g in cc

module _ (u : List ℕ) (P : ℕ → List Kept → Type 0) where
  pub left_start : Runs u → P 0 (kept_in u) → Left u P 0
  left_start r h = record { book = kept_in u; inside = omega arith; good = r.run.good; whole = r.run.whole; holds = h }

  module _ {at : ℕ} (l : Left u P at) where
    pub left_over_lem : length u ≤ at → P at []
    left_over_lem h = go l.book refl
      where
        go : (b : List Kept) → l.book ≡ b → P at []
        go [] e = rw e at l.holds
        go (f ∷ c) e = absurd (let w = ap length l.whole ∙ ap (λ (b : List Kept). length (kept_bytes b)) e in omega (arith, w, length-drop at u))

    module _ (short : length u ≤ 65536) (more : at < length u) where
      left_first : {C : Type 0} → ((e : Kept) (c : List Kept) → l.book ≡ e ∷ c → First u at e c → C) → C
      left_first {C} f = go l.book refl
        where
          go : (b : List Kept) → l.book ≡ b → C
          go [] d = absurd (let w = ap length l.whole ∙ ap (λ (b : List Kept). length (kept_bytes b)) d in omega (arith, w, length-drop at u))
          go (e ∷ c) d =
              let whole : drop at u ≡ kept_bytes (e ∷ c) = l.whole ∙ ap kept_bytes d in
              let rest = e.sheet ++ kept_bytes c in
              let long = ap length whole ∙ kept_length (e ∷ c) in
              let size : length_in (drop at u) ≡ length e.sheet = ap length_in whole ∙ length_again (length e.sheet) rest (omega (arith, long, length-drop at u)) in
              let after : drop 4 (drop at u) ≡ rest = ap (drop 4) whole in
              f e c d
              (record {
                size = size;
                sheet = ap (λ (n : ℕ). take n (drop 4 (drop at u))) size ∙ ap (take (length e.sheet)) after ∙ take-append_seam e.sheet (kept_bytes c);
                rest = ap (λ (n : ℕ). drop n (drop 4 (drop at u))) size ∙ ap (drop (length e.sheet)) after ∙ drop-append_seam e.sheet (kept_bytes c);
                fits = omega (arith, long, length-drop at u, l.inside);
              })

      first_good : (e : Kept) (c : List Kept) → l.book ≡ e ∷ c → Good e × Each Good c
      first_good e c d = rw d at l.good

      pub left_stands : Stands u at
      left_stands = left_first λ e c d f. record { inside = omega (arith, f.size, f.fits); accepts = rw f.sheet (good_accepted e (first_good e c d).0) }

      -- what holds here of the first, whose key is read
      pub left_here : {C : Type 0} → ((e : Kept) (c : List Kept) → e.key ≡ accepted_key (front_sheet (drop at u)) → P at (e ∷ c) → C) → C
      left_here k = left_first λ e c d f. k e c (sym (ap accepted_key f.sheet ∙ good_key e (first_good e c d).0)) (rw d at l.holds)

      pub left_next : ((e : Kept) (c : List Kept) → e.key ≡ accepted_key (front_sheet (drop at u)) → P at (e ∷ c) → P (at + (4 + length e.sheet)) c)
          → Left u P (at + 4 + length_in (drop at u))
      left_next k =
          left_first λ e c d f.
          let n : at + (4 + length e.sheet) ≡ at + 4 + length_in (drop at u) = omega (arith, f.size) in
          let m : at + (4 + length_in (drop at u)) ≡ at + 4 + length_in (drop at u) = omega arith in
          let g = first_good e c d in
          record {
            book = c;
            inside = omega (arith, f.fits);
            good = g.1;
            whole = sym (drop-drop (length_in (drop at u)) 4 (drop at u) ∙ drop-drop (4 + length_in (drop at u)) at u ∙ ap (λ (x : ℕ). drop x u) m) ∙ f.rest;
            holds = rw n at (k e c (sym (ap accepted_key f.sheet ∙ good_key e g.0)) (rw d at l.holds));
          }

      module _ {x : Entry} (r : x ≡ entry_at u at) where
        -- the next entry starts later
        pub left_moves : length u - x.next < length u - at
        left_moves = omega (arith, ap (λ (y : Entry). y.next) r, left_stands.inside)

        pub left_range : Bytes u → InRange x.key
        left_range ok = rw r (stands_range u at ok left_stands)

-- ---- an entry that is read

module _ (u : List ℕ) (at : ℕ) (h : Stands u at) {n : ℕ} (e : n ≡ length_in (drop at u)) where
  entry_sheet : take (at + 4 + n - (at + 4)) (drop (at + 4) u) ≡ front_sheet (drop at u)
  entry_sheet = between u at refl (ap (λ (m : ℕ). at + 4 + m) e)

  pub entry_accepts : AcceptedSheet (take (at + 4 + n - (at + 4)) (drop (at + 4) u))
  entry_accepts = rw entry_sheet h.accepts

  pub entry_is : {k : Key} → k ≡ accepted_key (take (at + 4 + n - (at + 4)) (drop (at + 4) u)) → ◌≡◌ {A = Entry} (record { key = k; next = at + 4 + n }) (entry_at u at)
  entry_is q = let p = q ∙ ap accepted_key entry_sheet in λ i. record { key = p i; next = at + 4 + e i }
