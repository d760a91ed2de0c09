-- A run read entry by entry: what one more entry changes, and what each end of the reading says.
use mathlib.Core.Path.{◌≡◌, refl, sym, ap, ap₂, ◌∙◌, subst}
use mathlib.Core.Bool.{Bool, true, false, cond, ◌&&◌, not}
use mathlib.Core.List.{List, [], ◌∷◌, ◌++◌, append_assoc, append-nil}
use mathlib.Core.Option.{Option, none, some}
use Prim.Native.Nat.{ℕ, zero, suc, ◌+◌, ◌-◌, ◌≤◌, ◌<◌}
use native.Mathlib.Omega.{arith}
use borrow.Author.Tests.{ltb-false, le-ltb, leb-true, leb-false}
use lib.Dec.{ltb, leb}
use lib.ListN.{length, take, drop, length-drop, drop_of_length-le}
use lib.Seq.{take-add, take-append_seam, drop-drop, length-take-le}
use Rattle.std.specs.Prelude.{Option as Perhaps, Some, None, Result, Ok, Err}
use Rattle.bits.specs.Bits.{Bytes}
use Rattle.bits.proofs.Tests.{by_cases}
use Rattle.kinds.specs.declared.refusals.Refusal.{Refusal}
use Rattle.kinds.specs.declared.refusals.Refusal.TheVariants.{NoShelf}
use Rattle.format.specs.Format.{Read, accepted, refused, values_of}
use Rattle.grammar.specs.segment.Segment.{wire_changes}
use Rattle.grammar.specs.segment.Judgement.{from_sheet}
use Rattle.shelf.specs.declared.Key.{Key}
use Rattle.shelf.specs.declared.run.Place.{Place}
use Rattle.shelf.specs.Book.{same_key, key_number, Kept, lookup, found, different, weight, Each}
use Rattle.shelf.specs.Shelf.{length_bytes, kept_bytes, key_read, sheet_key, length_in, front_sheet, after_front, onto, sheets_in, distinct}
use Rattle.shelf.specs.Keeps.{Good}
use Rattle.shelf.specs.internal.Scanning.{InRange, AcceptedSheet, accepted_key, Run, Stands, has_key, sheet_end, above_with, place_from, scanned}
use Rattle.shelf.proofs.Book.{same_is, same_sym, front_different, not_first, not_later, first_absent, rest_different, contrary}
use Rattle.shelf.proofs.Reading.{kept_length, kept_append, first_split, bytes_drop, bytes_take}
use Rattle.shelf.proofs.Order.{accepted_in_range}

-- ---- a sheet after the others

-- the book of one sheet
abbrev one : Kept → List Kept
one e = e ∷ []

pub lookup_after : (k : Key) (b c : List Kept) → lookup k b ≡ none → lookup k (b ++ c) ≡ lookup k c
lookup_after k [] c z = refl
lookup_after k (e ∷ b) c z = rw (not_first k e b z) (lookup_after k b c (not_later k e b z))

pub weight_append : (b c : List Kept) → weight (b ++ c) ≡ weight b + weight c
weight_append [] c = omega arith
weight_append (e ∷ b) c = omega (arith, weight_append b c)

each_append : (P : Kept → Type 0) (b : List Kept) (e : Kept) → Each P b → P e → Each P (b ++ one e)
each_append P [] e c h = (h, tt)
each_append P (f ∷ b) e c h = (c.0, each_append P b e c.1 h)

each_map : (P Q : Kept → Type 0) → ((e : Kept) → P e → Q e) → (b : List Kept) → Each P b → Each Q b
each_map P Q f [] c = tt
each_map P Q f (e ∷ b) c = (f e c.0, each_map P Q f b c.1)

-- a new key after different ones
different_after : (b : List Kept) (e : Kept) → lookup e.key b ≡ none → different b ≡ true → different (b ++ one e) ≡ true
different_after [] e z d = refl
different_after (f ∷ b) e z d =
    let o : same_key e.key f.key ≡ false = same_sym e.key f.key ∙ not_first e.key f b z in
    front_different f (b ++ one e) (lookup_after f.key b (one e) (first_absent f b d) ∙ rw o) (different_after b e (not_later e.key f b z) (rest_different f b d))

-- a key that is there already
found_later : (k : Key) (b : List Kept) (e : Kept) (c : List Kept) → same_key e.key k ≡ true → found (lookup k (b ++ e ∷ c)) ≡ true
found_later k [] e c q = rw q
found_later k (f ∷ b) e c q = by_cases (same_key f.key k) (λ p. rw p) (λ p. rw p (found_later k b e c q))

and_no : (b : Bool) → (b && false) ≡ false
and_no true = refl
and_no false = refl

repeated : (b : List Kept) (e : Kept) (c : List Kept) → found (lookup e.key b) ≡ true → different (b ++ e ∷ c) ≡ false
repeated [] e c h = contrary h refl
repeated (f ∷ b) e c h =
    by_cases (same_key f.key e.key)
    (λ p. let q : same_key e.key f.key ≡ true = same_sym e.key f.key ∙ p in
    ap (λ (t : Bool). not t && different (b ++ e ∷ c)) (found_later f.key b e c q))
    (λ p. ap (λ (t : Bool). not (found (lookup f.key (b ++ e ∷ c))) && t) (repeated b e c (rw p at h)) ∙ and_no (not (found (lookup f.key (b ++ e ∷ c)))))

-- ---- the entry of a key

module _ (k : Key) where
  place_after : (n : ℕ) (b c : List Kept) → lookup k b ≡ none → place_from n k (b ++ c) ≡ place_from (n + weight b) k c
  place_after n [] c z = let q : n + 0 ≡ n = omega arith in rw q
  place_after n (e ∷ b) c z =
      let q : n + (4 + length e.sheet) + weight b ≡ n + (4 + length e.sheet + weight b) = omega arith in
      rw (not_first k e b z) (place_after (n + (4 + length e.sheet)) b c (not_later k e b z) ∙ ap (λ (m : ℕ). place_from m k c) q)

  place_other : (n : ℕ) (b : List Kept) (e : Kept) → same_key e.key k ≡ false → place_from n k (b ++ one e) ≡ place_from n k b
  place_other n [] e q = rw q
  place_other n (f ∷ b) e q = by_cases (same_key f.key k) (λ p. rw p) (λ p. rw p (place_other (n + (4 + length f.sheet)) b e q))

-- ---- a key above all before it

-- all keys lie below a number
abbrev pub Below : ℕ → List Kept → Type 0
Below above b = Each (λ e. key_number e.key < above) b

below_new : (above : ℕ) (k : Key) (b : List Kept) → Below above b → above ≤ key_number k → lookup k b ≡ none
below_new above k [] c h = refl
below_new above k (e ∷ b) c h =
    let l = c.0 in
    by_cases (same_key e.key k)
    (λ q. absurd (let i : key_number e.key ≡ key_number k = ap key_number (same_is e.key k q) in omega arith))
    (λ q. rw q (below_new above k b c.1 h))

-- an answer is no refusal, and another answer only if it is equal
pub no_answer : {A C : Type 0} {a : A} {r : Refusal} → ◌≡◌ {A = Result A Refusal} (Ok a) (Err r) → C
no_answer e = absurd (let z : ◌≡◌ {A = ℕ} 0 1 = cc in omega arith)

pub same_answer : {A : Type 0} {a b : A} → ◌≡◌ {A = Result A Refusal} (Ok a) (Ok b) → a ≡ b
same_answer e = cc

pub same_refusal : {A : Type 0} {q r : Refusal} → ◌≡◌ {A = Result A Refusal} (Err q) (Err r) → q ≡ r
same_refusal e = cc

not_found : (o : Option (List ℕ)) → found o ≡ false → o ≡ none
not_found none e = refl
not_found (some s) e = contrary refl e

module _ (above : ℕ) (k : Key) (sheet : List ℕ) (b : List Kept) (c : Below above b) where
  abbrev raised : Result ℕ Refusal
  raised = above_with above (key_number k) (lookup k b)

  abbrev new : Kept
  new = record { key = k; sheet = sheet }

  above_repeats : raised ≡ Err NoShelf → found (lookup k b) ≡ true
  above_repeats z =
      by_cases (leb above (key_number k))
      (λ q. no_answer (let y : Ok (key_number k + 1) ≡ Err NoShelf = rw q at z in y))
      (λ q. by_cases (found (lookup k b)) (λ p. p)
      (λ p. no_answer (let y : Ok above ≡ Err NoShelf = rw (q, p) at z in y)))

  above_new : {m : ℕ} → Ok m ≡ raised → (lookup k b ≡ none) × Below m (b ++ one new)
  above_new {m} z =
      by_cases (leb above (key_number k))
      (λ q. let h = leb-true above (key_number k) q in
      let i = same_answer (let y : Ok m ≡ Ok (key_number k + 1) = z ∙ rw q in y) in
      (below_new above k b c h, each_append (λ e. key_number e.key < m) b new (each_map (λ e. key_number e.key < above) (λ e. key_number e.key < m) (λ e l. omega arith) b c) (omega arith)))
      (λ q. by_cases (found (lookup k b))
      (λ p. no_answer (let y : Ok m ≡ Err NoShelf = z ∙ rw (q, p) in y))
      (λ p. let i = same_answer (let y : Ok m ≡ Ok above = z ∙ rw (q, p) in y) in
      (not_found (lookup k b) p, rw i (each_append (λ e. key_number e.key < above) b new c (omega (arith, leb-false above (key_number k) q))))))

pub above_refusal : (above n : ℕ) (o : Option (List ℕ)) {r : Refusal} → Err r ≡ above_with above n o → r ≡ NoShelf
above_refusal above n o {r} e =
    by_cases (leb above n)
    (λ q. no_answer (let y : Ok (n + 1) ≡ Err r = sym (e ∙ rw q) in y))
    (λ q. by_cases (found o)
    (λ p. same_refusal (let y : ◌≡◌ {A = Result ℕ Refusal} (Err r) (Err NoShelf) = e ∙ rw (q, p) in y))
    (λ p. no_answer (let y : Ok above ≡ Err r = sym (e ∙ rw (q, p)) in y)))

-- ---- the entry at a place

-- an accepted sheet has a key
has_read : (r : Read) → has_key (key_read r) ≡ true → r ≡ accepted (values_of r)
has_read (accepted l) e = refl
has_read (refused q p) e = contrary e refl

pub has_accepted : (s : List ℕ) → has_key (sheet_key s) ≡ true → AcceptedSheet s
unfolding sheet_key
has_accepted s e = has_read (from_sheet wire_changes s) e

pub accepted_key_lem : (s : List ℕ) → AcceptedSheet s → sheet_key s ≡ some (accepted_key s)
unfolding sheet_key
accepted_key_lem s e = ap key_read e

module _ (u : List ℕ) (at : ℕ) where
  abbrev s : List ℕ
  s = drop at u

  -- what the end of an entry says
  end_none : sheet_end u at ≡ Err NoShelf → 4 + length_in s ≤ length s → sheet_key (front_sheet s) ≡ none
  end_none z h = go (sheet_key (front_sheet s)) refl
    where
      go : (o : Option Key) → sheet_key (front_sheet s) ≡ o → sheet_key (front_sheet s) ≡ none
      go none e = e
      go (some k) e = no_answer (let y : Ok (at + 4 + length_in s) ≡ Err NoShelf = rw (le-ltb (length s) (4 + length_in s) h, e) at z in y)

  pub end_some : at ≤ length u → {next : ℕ} → Ok next ≡ sheet_end u at → Stands u at × (next ≡ at + 4 + length_in s)
  end_some i {next} e =
      by_cases (ltb (length s) (4 + length_in s))
      (λ q. no_answer (let y : Ok next ≡ Err NoShelf = e ∙ rw q in y))
      (λ q. by_cases (has_key (sheet_key (front_sheet s)))
      (λ p. (
        record { inside = omega (arith, ltb-false (length s) (4 + length_in s) q, length-drop at u); accepts = has_accepted (front_sheet s) p },
        same_answer (let y : Ok next ≡ Ok (at + 4 + length_in s) = e ∙ rw (q, p) in y),
      ))
      (λ p. no_answer (let y : Ok next ≡ Err NoShelf = e ∙ rw (q, p) in y)))

  end_refusal : {r : Refusal} → Err r ≡ sheet_end u at → r ≡ NoShelf
  end_refusal {r} e =
      by_cases (ltb (length s) (4 + length_in s))
      (λ q. same_refusal (let y : ◌≡◌ {A = Result ℕ Refusal} (Err r) (Err NoShelf) = e ∙ rw q in y))
      (λ q. by_cases (has_key (sheet_key (front_sheet s)))
      (λ p. no_answer (let y : Ok (at + 4 + length_in s) ≡ Err r = sym (e ∙ rw (q, p)) in y))
      (λ p. same_refusal (let y : ◌≡◌ {A = Result ℕ Refusal} (Err r) (Err NoShelf) = e ∙ rw (q, p) in y)))

  -- the sheet's bytes are those between
  pub between : {from next : ℕ} → from ≡ at + 4 → next ≡ at + 4 + length_in s → take (next - from) (drop from u) ≡ front_sheet s
  between {from} {next} p q =
      let n : next - from ≡ length_in s = omega arith in
      let d : drop from u ≡ drop 4 s = ap (λ (m : ℕ). drop m u) p ∙ sym (drop-drop 4 at u) in
      ap₂ (λ (m : ℕ) (l : List ℕ). take m l) n d

  pub stands_range : Bytes u → Stands u at → InRange (accepted_key (front_sheet s))
  stands_range ok h = accepted_in_range (front_sheet s) (accepted_key (front_sheet s)) (bytes_take (length_in s) (drop 4 s) (bytes_drop 4 s (bytes_drop at u ok))) (accepted_key_lem (front_sheet s) h.accepts)

-- ---- the reading of a run

-- others in front of the rest
abbrev before : List Kept → Option (List Kept) → Option (List Kept)
before b none = none
before b (some c) = some (b ++ c)

before_onto : (b : List Kept) (k : Key) (sheet : List ℕ) (o : Option (List Kept)) → before b (onto (some k) sheet o) ≡ before (b ++ one (record { key = k; sheet = sheet })) o
before_onto b k sheet none = refl
before_onto b k sheet (some c) = ap some (sym (append_assoc b (one (record { key = k; sheet = sheet })) c))

-- the entry in front, if there are bytes
sheets_front : (n : ℕ) (s : List ℕ) → 0 < length s → length s ≤ n
    → sheets_in n s ≡ cond (ltb (length s) (4 + length_in s)) none (onto (sheet_key (front_sheet s)) (front_sheet s) (sheets_in (n - 1) (after_front s)))
unfolding sheets_in
sheets_front zero s h l = absurd (omega arith)
sheets_front (suc n) [] h l = absurd (omega arith)
sheets_front (suc n) (a ∷ s) h l =
    let e : suc n - 1 ≡ n = omega arith in
    ap (λ (m : ℕ). cond (ltb (length (a ∷ s)) (4 + length_in (a ∷ s))) none (onto (sheet_key (front_sheet (a ∷ s))) (front_sheet (a ∷ s)) (sheets_in m (after_front (a ∷ s))))) (sym e)

sheets_over : (n : ℕ) → sheets_in n [] ≡ some []
unfolding sheets_in
sheets_over zero = refl
sheets_over (suc n) = refl

-- the entries before the byte at were read: their book, and what is left to read
pub record Passing (u : List ℕ) (k : Key) (at above : ℕ) (old : Perhaps Place) : Type 0 where
  pub book : List Kept
  pub left : ℕ
  pub inside : at ≤ length u
  pub enough : length u ≤ at + left
  pub split : sheets_in (length u) u ≡ before book (sheets_in left (drop at u))
  pub front : take at u ≡ kept_bytes book
  pub good : Each Good book
  pub apart : different book ≡ true
  pub under : Below above book
  pub place : place_from 0 k book ≡ old

before_none : (o : Option (List Kept)) → before [] o ≡ o
before_none none = refl
before_none (some c) = refl

module _ (u : List ℕ) (k : Key) where
  pub passing_start : Passing u k 0 0 None
  passing_start =
      record {
        book = [];
        left = length u;
        inside = omega arith;
        enough = omega arith;
        split = sym (before_none (sheets_in (length u) u));
        front = refl;
        good = tt;
        apart = refl;
        under = tt;
        place = refl;
      }

  module _ {at above : ℕ} {old : Perhaps Place} (p : Passing u k at above old) where
    pub passing_run : Run (take at u) p.book
    passing_run = record { good = p.good; whole = p.front }

    at_weight : at ≡ weight p.book
    at_weight = sym (length-take-le at u p.inside) ∙ ap length p.front ∙ kept_length p.book

    -- the end
    pub passing_over : length u ≤ at → Ok old ≡ scanned k (distinct (sheets_in (length u) u))
    passing_over h =
        let e : sheets_in (length u) u ≡ some p.book =
        p.split ∙ ap (λ (s : List ℕ). before p.book (sheets_in p.left s)) (drop_of_length-le u h) ∙ ap (before p.book) (sheets_over p.left) ∙ ap some (append-nil p.book) in
        sym (ap (λ (o : Option (List Kept)). scanned k (distinct o)) e ∙ ap (λ (t : Bool). scanned k (cond t (some p.book) none)) p.apart ∙ ap Ok p.place)

    module _ (more : at < length u) where
      abbrev rest : List ℕ
      rest = drop at u

      rest_front : sheets_in p.left rest ≡ cond (ltb (length rest) (4 + length_in rest)) none (onto (sheet_key (front_sheet rest)) (front_sheet rest) (sheets_in (p.left - 1) (after_front rest)))
      rest_front = sheets_front p.left rest (omega (arith, length-drop at u)) (let e = p.enough in omega (arith, length-drop at u))

      none_left : sheets_in p.left rest ≡ none → Err NoShelf ≡ scanned k (distinct (sheets_in (length u) u))
      none_left e = sym (ap (λ (o : Option (List Kept)). scanned k (distinct o)) (p.split ∙ ap (before p.book) e))

      -- no entry stands here
      pub passing_none : sheet_end u at ≡ Err NoShelf → Err NoShelf ≡ scanned k (distinct (sheets_in (length u) u))
      passing_none z =
          none_left (rest_front ∙ by_cases (ltb (length rest) (4 + length_in rest)) (λ q. rw q)
          (λ q. rw q (ap (λ (o : Option Key). onto o (front_sheet rest) (sheets_in (p.left - 1) (after_front rest))) (end_none u at z (ltb-false (length rest) (4 + length_in rest) q)))))

      pub passing_refused : {r : Refusal} → Err r ≡ sheet_end u at → Err r ≡ scanned k (distinct (sheets_in (length u) u))
      passing_refused e = let n = end_refusal u at e in ap Err n ∙ passing_none (sym e ∙ ap Err n)

      module _ (h : Stands u at) where
        abbrev its : Key
        its = accepted_key (front_sheet rest)

        abbrev entry : Kept
        entry = record { key = its; sheet = front_sheet rest }

        long : 4 + length_in rest ≤ length rest
        long = let i = h.inside in omega (arith, length-drop at u)

        split_here : sheets_in (length u) u ≡ before p.book (onto (some its) (front_sheet rest) (sheets_in (p.left - 1) (after_front rest)))
        split_here =
            p.split
            ∙ ap (before p.book)
            (rest_front ∙ ap (λ (t : Bool). cond t none (onto (sheet_key (front_sheet rest)) (front_sheet rest) (sheets_in (p.left - 1) (after_front rest)))) (le-ltb (length rest) (4 + length_in rest) long)
            ∙ ap (λ (o : Option Key). onto o (front_sheet rest) (sheets_in (p.left - 1) (after_front rest))) (accepted_key_lem (front_sheet rest) h.accepts))

        -- its key is there already
        pub passing_repeated : above_with above (key_number its) (lookup its p.book) ≡ Err NoShelf → Err NoShelf ≡ scanned k (distinct (sheets_in (length u) u))
        passing_repeated z = sym (ap (λ (o : Option (List Kept)). scanned k (distinct o)) split_here ∙ go (sheets_in (p.left - 1) (after_front rest)))
          where
            go : (o : Option (List Kept)) → scanned k (distinct (before p.book (onto (some its) (front_sheet rest) o))) ≡ Err NoShelf
            go none = refl
            go (some c) =
                ap (λ (t : Bool). scanned k (cond t (some (p.book ++ entry ∷ c)) none)) (repeated p.book entry c (above_repeats above its (front_sheet rest) p.book p.under z))

        abbrev next : ℕ
        next = at + 4 + length_in rest

        front_here : Bytes u → take next u ≡ kept_bytes (p.book ++ one entry)
        front_here ok =
            let size : length (front_sheet rest) ≡ length_in rest = length-take-le (length_in rest) (drop 4 rest) (omega (arith, length-drop 4 rest, long)) in
            let n : at + (4 + length_in rest) ≡ next = omega arith in
            let m : 4 + length_in rest ≡ length (kept_bytes (one entry)) = sym (kept_length (one entry) ∙ omega (arith, size)) in
            let whole : rest ≡ kept_bytes (one entry) ++ after_front rest =
            first_split rest (bytes_drop at u ok) long
            ∙ ap (λ (x : List ℕ). length_bytes (length (front_sheet rest)) ++ (x ++ after_front rest)) (sym (append-nil (front_sheet rest))) in
            ap (λ (x : ℕ). take x u) (sym n) ∙ take-add at (4 + length_in rest) u
            ∙ ap₂ (λ (x y : List ℕ). x ++ y) p.front (ap₂ take m whole ∙ take-append_seam (kept_bytes (one entry)) (after_front rest))
            ∙ sym (kept_append p.book (one entry))

        -- one more entry; mine and other are what is known of the key that is looked for
        pub passing_next : Bytes u → {above' : ℕ} → Ok above' ≡ above_with above (key_number its) (lookup its p.book) → (old' : Perhaps Place)
            → (same_key its k ≡ true → old' ≡ Some (record { start = at; size = 4 + length_in rest })) → (same_key its k ≡ false → old' ≡ old)
            → Passing u k next above' old'
        passing_next ok {above'} e old' mine other =
            let size_is : length (front_sheet rest) ≡ length_in rest = length-take-le (length_in rest) (drop 4 rest) (omega (arith, length-drop 4 rest, long)) in
            let n = above_new above its (front_sheet rest) p.book p.under e in
            let m : at + (4 + length_in rest) ≡ next = omega arith in
            record {
              book = p.book ++ one entry;
              left = p.left - 1;
              inside = let i = h.inside in omega arith;
              enough = let i = p.enough in omega arith;
              split =
                  split_here ∙ before_onto p.book its (front_sheet rest) (sheets_in (p.left - 1) (after_front rest))
                  ∙ ap (λ (s : List ℕ). before (p.book ++ one entry) (sheets_in (p.left - 1) s)) (drop-drop (length_in rest) 4 rest ∙ drop-drop (4 + length_in rest) at u ∙ ap (λ (x : ℕ). drop x u) m);
              front = front_here ok;
              good = each_append Good p.book entry p.good (accepted_key_lem (front_sheet rest) h.accepts);
              apart = different_after p.book entry n.0 p.apart;
              under = n.1;
              place =
                  by_cases (same_key its k)
                  (λ q. let i = same_is its k q in
                  let y : lookup k p.book ≡ none = subst (λ (j : Key). lookup j p.book ≡ none) i n.0 in
                  place_after k 0 p.book (one entry) y ∙ rw q (let w : 0 + weight p.book ≡ at = omega (arith, at_weight) in λ j. Some (record { start = w j; size = 4 + size_is j })) ∙ sym (mine q))
                  (λ q. place_other k 0 p.book entry q ∙ p.place ∙ sym (other q));
            }
