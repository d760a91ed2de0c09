-- The used part and the book that it keeps: what is written is read, and only what is written.
use mathlib.Core.Path.{◌≡◌, refl, sym, ap, ap₂, ◌∙◌, subst}
use mathlib.Core.Bool.{Bool, true, cond, ◌&&◌}
use mathlib.Core.List.{List, [], ◌∷◌, ◌++◌, append_assoc}
use mathlib.Core.Option.{Option, none, some}
use mathlib.Core.Logic.{◌↔◌}
use Prim.Native.Nat.{ℕ, zero, suc, ◌+◌, ◌*◌, ◌/◌, ◌%◌, ◌≤◌, ◌<◌}
use native.Mathlib.Omega.{arith}
use borrow.Author.Tests.{leb-true, le-leb, ltb-false, le-ltb}
use lib.Dec.{ltb, leb}
use lib.ListN.{length, take, drop, length-append, length-drop, take-append-drop}
use lib.Seq.{take-append_seam, drop-append_seam, length-take-le}
use Rattle.bits.specs.Bits.{Bytes}
use Rattle.bits.proofs.Tests.{by_cases, and_left, and_right}
use Rattle.shelf.specs.declared.Key.{Key}
use Rattle.shelf.specs.Book.{Kept, different, weight, Each}
use Rattle.shelf.specs.Shelf.{length_bytes, kept_bytes, sheet_key, length_in, front_sheet, after_front, onto, sheets_in, distinct, book_of}
use Rattle.shelf.specs.Keeps.{Good, Keeps}
use Rattle.shelf.specs.internal.Scanning.{Run, book_or, kept_in}

-- ---- what is written

pub kept_length : (b : List Kept) → length (kept_bytes b) ≡ weight b
kept_length [] = refl
kept_length (e ∷ b) = omega (arith, length-append e.sheet (kept_bytes b), kept_length b)

pub kept_append : (a b : List Kept) → kept_bytes (a ++ b) ≡ kept_bytes a ++ kept_bytes b
kept_append [] b = refl
kept_append (e ∷ a) b =
    let n = length_bytes (length e.sheet) in
    ap (λ (s : List ℕ). n ++ (e.sheet ++ s)) (kept_append a b) ∙ ap (λ (s : List ℕ). n ++ s) (sym (append_assoc e.sheet (kept_bytes a) (kept_bytes b)))

pub length_again : (n : ℕ) (s : List ℕ) → n < 4294967296 → length_in (length_bytes n ++ s) ≡ n
length_again n s h = omega arith

sheets_step : (n : ℕ) (s sheet rest : List ℕ) (k : Key) (b : List Kept) → 0 < length s → 4 + length_in s ≤ length s → front_sheet s ≡ sheet → after_front s ≡ rest
    → sheet_key sheet ≡ some k → sheets_in n rest ≡ some b → sheets_in (suc n) s ≡ some (record { key = k; sheet = sheet } ∷ b)
unfolding sheets_in
sheets_step n [] sheet rest k b some_left h p q g r = absurd (omega arith)
sheets_step n (a ∷ s) sheet rest k b some_left h p q g r =
    let u = a ∷ s in
    ap (λ (t : Bool). cond t none (onto (sheet_key (front_sheet u)) (front_sheet u) (sheets_in n (after_front u)))) (le-ltb (length u) (4 + length_in u) h)
    ∙ ap₂ (λ (j : Option Key) (l : Option (List Kept)). onto j (front_sheet u) l) (ap sheet_key p ∙ g) (ap (sheets_in n) q ∙ r)
    ∙ ap (λ (z : List ℕ). some (record { key = k; sheet = z } ∷ b)) p

-- "a run of accepted sheets" is read as the book that it keeps
pub sheets_again : (n : ℕ) (b : List Kept) → Each Good b → weight b ≤ n → weight b < 4294967296 → sheets_in n (kept_bytes b) ≡ some b
unfolding sheets_in
sheets_again zero [] c h w = refl
sheets_again (suc n) [] c h w = refl
sheets_again zero (e ∷ b) c h w = absurd (omega arith)
sheets_again (suc n) (e ∷ b) c h w =
    let s = kept_bytes (e ∷ b) in
    let more = e.sheet ++ kept_bytes b in
    let size : length_in s ≡ length e.sheet = length_again (length e.sheet) more (omega arith) in
    sheets_step n s e.sheet (kept_bytes b) e.key b (omega arith) (omega (arith, size, length-append e.sheet (kept_bytes b)))
    (ap (λ (m : ℕ). take m more) size ∙ take-append_seam e.sheet (kept_bytes b))
    (ap (λ (m : ℕ). drop m more) size ∙ drop-append_seam e.sheet (kept_bytes b))
    c.0 (sheets_again n b c.1 (omega arith) (omega arith))

-- ---- and only what is written

-- four bytes are those of the length that they spell
bytes_of_length : (s : List ℕ) → Bytes s → 4 ≤ length s → s ≡ length_bytes (length_in s) ++ drop 4 s
bytes_of_length [] ok h = absurd (omega arith)
bytes_of_length (a ∷ []) ok h = absurd (omega arith)
bytes_of_length (a ∷ b ∷ []) ok h = absurd (omega arith)
bytes_of_length (a ∷ b ∷ c ∷ []) ok h = absurd (omega arith)
bytes_of_length (a ∷ b ∷ c ∷ d ∷ s) ok h =
    let n = ((a * 256 + b) * 256 + c) * 256 + d in
    let oa = ok.0 in
    let ob = ok.1.0 in
    let oc = ok.1.1.0 in
    let od = ok.1.1.1.0 in
    let ea : a ≡ n / 256 / 256 / 256 % 256 = omega arith in
    let eb : b ≡ n / 256 / 256 % 256 = omega arith in
    let ec : c ≡ n / 256 % 256 = omega arith in
    let ed : d ≡ n % 256 = omega arith in
    λ i. ea i ∷ eb i ∷ ec i ∷ ed i ∷ s

pub bytes_drop : (n : ℕ) (s : List ℕ) → Bytes s → Bytes (drop n s)
bytes_drop zero s ok = ok
bytes_drop (suc n) [] ok = tt
bytes_drop (suc n) (a ∷ s) ok = bytes_drop n s ok.1

-- the first sheet in front of the others
pub first_split : (s : List ℕ) → Bytes s → 4 + length_in s ≤ length s → s ≡ length_bytes (length (front_sheet s)) ++ (front_sheet s ++ after_front s)
first_split s ok h =
    let size : length (front_sheet s) ≡ length_in s = length-take-le (length_in s) (drop 4 s) (omega (arith, length-drop 4 s)) in
    bytes_of_length s ok (omega arith)
    ∙ ap₂ (λ (n : ℕ) (m : List ℕ). length_bytes n ++ m) (sym size) (sym (take-append-drop (length_in s) (drop 4 s)))

onto_some : {C : Type 0} (o : Option Key) (s : List ℕ) (r : Option (List Kept)) (b : List Kept) → onto o s r ≡ some b
    → ((k : Key) (c : List Kept) → o ≡ some k → r ≡ some c → b ≡ record { key = k; sheet = s } ∷ c → C) → C
onto_some none s r b e f = absurd (let z : ◌≡◌ {A = ℕ} 0 1 = cc in omega arith)
onto_some (some k) s none b e f = absurd (let z : ◌≡◌ {A = ℕ} 0 1 = cc in omega arith)
onto_some (some k) s (some c) b e f = f k c refl refl (let q : record { key = k; sheet = s } ∷ c ≡ b = cc in sym q)

sheets_only : (n : ℕ) (s : List ℕ) (b : List Kept) → Bytes s → sheets_in n s ≡ some b → Run s b
unfolding sheets_in
sheets_only zero [] b ok e = let q : [] ≡ b = cc in subst (Run []) q (record { good = tt; whole = refl })
sheets_only (suc n) [] b ok e = let q : [] ≡ b = cc in subst (Run []) q (record { good = tt; whole = refl })
sheets_only zero (a ∷ s) b ok e = absurd (let z : ◌≡◌ {A = ℕ} 0 1 = cc in omega arith)
sheets_only (suc n) (a ∷ s) b ok e =
    let u = a ∷ s in
    by_cases (ltb (length u) (4 + length_in u))
    (λ q. absurd (let y : none ≡ some b = rw q at e in let z : ◌≡◌ {A = ℕ} 0 1 = cc in omega arith))
    (λ q. onto_some (sheet_key (front_sheet u)) (front_sheet u) (sheets_in n (after_front u)) b (rw q at e) λ k c g r i.
    let rest = sheets_only n (after_front u) c (bytes_drop (length_in u) (drop 4 u) (bytes_drop 4 u ok)) r in
    subst (Run u) (sym i)
    (record {
      good = (g, rest.good);
      whole = first_split u ok (ltb-false (length u) (4 + length_in u) q) ∙ ap (λ (m : List ℕ). length_bytes (length (front_sheet u)) ++ (front_sheet u ++ m)) rest.whole;
    }))

-- ---- a store

pub used_weight : {store : List ℕ} {used : ℕ} {b : List Kept} → Keeps store used b → used ≡ weight b
used_weight {store} {used} {b} k = sym (length-take-le used store k.within) ∙ ap length k.front ∙ kept_length b

pub keeps_read : {store : List ℕ} {used : ℕ} {b : List Kept} → Keeps store used b → book_of store used ≡ some b
keeps_read {store} {used} {b} k =
    let w = used_weight k in
    let i = k.within in
    let j = k.small in
    ap₂ (λ (p q : Bool). cond (p && q) (distinct (sheets_in used (take used store))) none) (le-leb (length store) 65536 j) (le-leb used (length store) i)
    ∙ ap distinct (ap (sheets_in used) k.front ∙ sheets_again used b k.good (omega arith) (omega arith))
    ∙ ap (λ (p : Bool). cond p (some b) none) k.apart

pub bytes_take : (n : ℕ) (s : List ℕ) → Bytes s → Bytes (take n s)
bytes_take zero s ok = tt
bytes_take (suc n) [] ok = tt
bytes_take (suc n) (a ∷ s) ok = (ok.0, bytes_take n s ok.1)

-- "21, .. for a store over 65,536 bytes or whose used part is not a run of accepted sheets with different keys": a book is read exactly of what keeps one
pub book_exactly : (store : List ℕ) (used : ℕ) (b : List Kept) → Bytes store → (book_of store used ≡ some b) ↔ Keeps store used b
book_exactly store used b ok = (only, keeps_read)
  where
    distinct_some : (o : Option (List Kept)) → distinct o ≡ some b → (o ≡ some b) × (different b ≡ true)
    distinct_some none e = absurd (let z : ◌≡◌ {A = ℕ} 0 1 = cc in omega arith)
    distinct_some (some c) e =
        by_cases (different c)
        (λ d. let q : some c ≡ some b = rw d at e in let r : c ≡ b = cc in (q, rw r at d))
        (λ d. absurd (let y : none ≡ some b = rw d at e in let z : ◌≡◌ {A = ℕ} 0 1 = cc in omega arith))

    only : book_of store used ≡ some b → Keeps store used b
    only e =
        by_cases (leb (length store) 65536 && leb used (length store))
        (λ q. let d = distinct_some (sheets_in used (take used store)) (rw q at e) in
        let r = sheets_only used (take used store) b (bytes_take used store ok) d.0 in
        record {
          small = leb-true (length store) 65536 (and_left (leb (length store) 65536) (leb used (length store)) q);
          within = leb-true used (length store) (and_right (leb (length store) 65536) (leb used (length store)) q);
          good = r.good;
          apart = d.1;
          front = r.whole;
        })
        (λ q. absurd (let y : none ≡ some b = rw q at e in let z : ◌≡◌ {A = ℕ} 0 1 = cc in omega arith))

-- the book that a short run of bytes keeps
pub run_kept : (s : List ℕ) (b : List Kept) → Run s b → length s ≤ 65536 → kept_in s ≡ b
run_kept s b r h =
    let w : weight b ≡ length s = sym (ap length r.whole ∙ kept_length b) in
    ap book_or (ap (sheets_in (length s)) r.whole ∙ sheets_again (length s) b r.good (omega arith) (omega arith))

pub kept_run : (s : List ℕ) (b : List Kept) → Run s b → length s ≤ 65536 → Run s (kept_in s)
kept_run s b r h = rw (run_kept s b r h) r
