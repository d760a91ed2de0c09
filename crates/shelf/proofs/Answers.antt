-- The answers of the operations, from what the judgement of a store has found.
use mathlib.Core.Path.{◌≡◌, refl, sym, ap, ap₂, ◌∙◌}
use mathlib.Core.Bool.{Bool, true, false, cond, ◌&&◌, and-false}
use mathlib.Core.List.{List, [], ◌∷◌, ◌++◌}
use mathlib.Core.Option.{Option, none, some}
use Prim.Native.Nat.{ℕ, ◌+◌, ◌-◌, ◌≤◌, ◌<◌}
use native.Mathlib.Omega.{arith}
use borrow.Author.Tests.{le-leb, lt-leb, lt-ltb, le-ltb}
use lib.Dec.{leb}
use lib.ListN.{length, take, drop, length-append, length-drop}
use lib.Seq.{length-take-le, take_at, drop-append-add, drop-drop}
use Rattle.std.specs.Prelude.{Option as Perhaps, Some, None, Result, Ok, Err, is_ok}
use Rattle.bits.specs.Bits.{Bytes}
use Rattle.bits.proofs.Tests.{by_cases}
use Rattle.kinds.specs.declared.refusals.Refusal.{Refusal}
use Rattle.kinds.specs.declared.refusals.Refusal.TheVariants.{NoShelf, NotKept, ShortRoom}
use Rattle.kinds.specs.Refusals.{refusal_number}
use Rattle.format.specs.Format.{refused}
use Rattle.grammar.specs.segment.Segment.{wire_changes}
use Rattle.grammar.specs.segment.Judgement.{from_sheet}
use Rattle.shelf.specs.declared.Key.{Key}
use Rattle.shelf.specs.declared.Shelved.{Shelved}
use Rattle.shelf.specs.declared.Found.{Found}
use Rattle.shelf.specs.declared.run.Place.{Place}
use Rattle.shelf.specs.Book.{same_key, Kept, lookup, without, placed_in, put, found, weight}
use Rattle.shelf.specs.Shelf.{kept_bytes, sheets_in, distinct, book_of, Stored, unmoved, keeping, fitted, add_read, add_in, shelf_add, remove_in, shelf_remove, Seen, part_of, offset_of, Looked, no_part, handed, look_in, shelf_lookup}
use Rattle.shelf.specs.Keeps.{Good, Keeps}
use Rattle.shelf.specs.internal.Scanning.{accepted_key, Run, Runs, kept_in, place_from, size_of, scanned, is_shelf, EntryIn, found_at, either_of, found_in, found_of}
use Rattle.shelf.specs.internal.Changing.{moved, answer_of, Insertable, inserted, Placed}
use Rattle.shelf.proofs.Book.{contrary, weight_put, each_without}
use Rattle.shelf.proofs.Reading.{kept_length, run_kept, kept_run, book_exactly}
use Rattle.shelf.proofs.Order.{accepted_in_range}
use Rattle.shelf.proofs.Scanning.{no_answer, same_answer, accepted_key_lem}
use Rattle.shelf.proofs.moves.Moving.{down_same}
use Rattle.shelf.proofs.Changing.{start_of, place_absent, left_weight, place_inside, cut_moved}

-- ---- a store judged

module _ (s : List ℕ) (used : ℕ) (k : Key) where
  pub long_judged : 65536 < length s → Err NoShelf ≡ scanned k (book_of s used)
  long_judged h = rw (lt-leb (length s) 65536 h)

  pub past_judged : length s < used → Err NoShelf ≡ scanned k (book_of s used)
  past_judged h = rw (lt-leb used (length s) h, and-false (leb (length s) 65536))

  pub run_judged_lem : length s ≤ 65536 → used ≤ length s → {r : Result (Perhaps Place) Refusal} → r ≡ scanned k (distinct (sheets_in (length (take used s)) (take used s))) → r ≡ scanned k (book_of s used)
  run_judged_lem h i e =
      e ∙ ap (λ (n : ℕ). scanned k (distinct (sheets_in n (take used s)))) (length-take-le used s i)
      ∙ sym (ap₂ (λ (p q : Bool). scanned k (cond (p && q) (distinct (sheets_in used (take used s))) none)) (le-leb (length s) 65536 h) (le-leb used (length s) i))

-- a store is refused if it keeps no book, with 21
pub none_judged : (k : Key) (o : Option (List Kept)) {r : Refusal} → Err r ≡ scanned k o → (o ≡ none) × (r ≡ NoShelf)
none_judged k none e = (refl, cc)
none_judged k (some b) e = no_answer (sym e)

-- an entry lies in the used part of a store
abbrev pub Within : List ℕ → ℕ → ℕ → ℕ → Type 0
Within s used start size = (start + size ≤ used) × (used ≤ length s) × (length s ≤ 65536)

-- an entry has the four bytes of its length
place_long : (n : ℕ) (k : Key) (b : List Kept) {p : Place} → place_from n k b ≡ Some p → 4 ≤ p.size
place_long n k [] e = absurd (let z : ◌≡◌ {A = ℕ} 0 1 = cc in omega arith)
place_long n k (f ∷ b) {p} e =
    by_cases (same_key f.key k)
    (λ q. let y : Some (record { start = n; size = 4 + length f.sheet }) ≡ Some p = rw q at e in let z : 4 + length f.sheet ≡ p.size = ap size_of y in omega arith)
    (λ q. place_long (n + (4 + length f.sheet)) k b (rw q at e))

module _ (k : Key) {old : Perhaps Place} where
  pub some_judged : {C : Type 0} (o : Option (List Kept)) → Ok old ≡ scanned k o → ((b : List Kept) → o ≡ some b → place_from 0 k b ≡ old → C) → C
  some_judged none e f = no_answer e
  some_judged (some b) e f = f b refl (sym (same_answer e))

  -- a store in which an entry was looked for keeps a book
  pub kept_judged : {C : Type 0} (s : List ℕ) (used : ℕ) → Bytes s → Ok old ≡ scanned k (book_of s used)
      → ((b : List Kept) → book_of s used ≡ some b → Keeps s used b → place_from 0 k b ≡ old → C) → C
  kept_judged s used ok e f = some_judged (book_of s used) e λ b q p. f b q ((book_exactly s used b ok).0 q) p

  pub judged_inside : (s : List ℕ) (used : ℕ) → Bytes s → Ok old ≡ scanned k (book_of s used) → Within s used (start_of old) (size_of old)
  judged_inside s used ok e = kept_judged s used ok e λ b q w p. (place_inside w k p, w.within, w.small)

-- what was found of a key is an entry of the store, if anything
pub entry_in : (k : Key) (s : List ℕ) (used : ℕ) → Bytes s → (old : Perhaps Place) → Ok old ≡ scanned k (book_of s used) → EntryIn old
entry_in k s used ok None e = tt
entry_in k s used ok (Some p) e =
    let i = judged_inside k s used ok e in
    (some_judged k (book_of s used) e λ b q d. place_long 0 k b d, omega (arith, i))

pub shelf_judged : (k : Key) (o : Option (List Kept)) → is_ok (scanned k o) ≡ is_shelf o
shelf_judged k none = refl
shelf_judged k (some b) = refl

-- ---- whether an entry was found tells whether a sheet is kept

-- the place of a sheet that is kept: its entry starts four bytes before it
place_kept : {C : Type 0} (n : ℕ) (k : Key) (b : List Kept) (sheet : List ℕ) → lookup k b ≡ some sheet
    → ((a : ℕ) → place_from n k b ≡ Some (record { start = a; size = 4 + length sheet }) → a + 4 ≡ n + offset_of k b → C) → C
place_kept n k [] sheet e f = absurd (let z : ◌≡◌ {A = ℕ} 0 1 = cc in omega arith)
place_kept n k (g ∷ b) sheet e f =
    by_cases (same_key g.key k)
    (λ q. let y : some g.sheet ≡ some sheet = rw q at e in
    let i : g.sheet ≡ sheet = cc in
    f n (rw q (ap (λ (l : List ℕ). Some (record { start = n; size = 4 + length l })) i)) (rw q))
    (λ q. place_kept (n + (4 + length g.sheet)) k b sheet (rw q at e) λ a p r. f a (rw q p) (r ∙ rw q (omega arith)))

module _ (k : Key) (b : List Kept) where
  pub none_found : place_from 0 k b ≡ None → found (lookup k b) ≡ false
  none_found p = go (lookup k b) refl
    where
      go : (o : Option (List ℕ)) → lookup k b ≡ o → found o ≡ false
      go none e = refl
      go (some sheet) e =
          place_kept 0 k b sheet e λ a q r.
          absurd (let y : Some (record { start = a; size = 4 + length sheet }) ≡ None = sym q ∙ p in let z : 4 + length sheet ≡ 0 = ap size_of y in omega arith)

  pub some_found : {p : Place} → place_from 0 k b ≡ Some p → found (lookup k b) ≡ true
  some_found {p} d = go (lookup k b) refl
    where
      go : (o : Option (List ℕ)) → lookup k b ≡ o → found o ≡ true
      go none e = absurd (let y : None ≡ Some p = sym (place_absent k 0 b e) ∙ d in let z : 0 ≡ p.size = ap size_of y in omega (arith, place_long 0 k b d))
      go (some sheet) e = refl

-- ---- a removal

abbrev said : ℕ → ℕ → ℕ → Shelved
said r place used = record { refusal = r; place = place; used = used }

-- the answer to a change, and the store after it
abbrev pub ended : Result ℕ Refusal → ℕ → List ℕ → Stored
ended x used t = record { answer = answer_of x used; store = t }

module _ (s : List ℕ) (used : ℕ) (k : Key) where
  pub remove_none : {r : Refusal} → Err r ≡ scanned k (book_of s used) → ended (Err r) used s ≡ shelf_remove s used k
  unfolding shelf_remove
  remove_none e = let n = none_judged k (book_of s used) e in rw n.1 (sym (ap (remove_in used s k) n.0))

  module _ (ok : Bytes s) where
    pub remove_absent : Ok None ≡ scanned k (book_of s used) → ended (Err NotKept) used s ≡ shelf_remove s used k
    unfolding shelf_remove
    remove_absent e =
        kept_judged k s used ok e λ b r w p.
        sym (ap (remove_in used s k) r ∙ ap (λ (t : Bool). cond t (keeping (without k b) s) (unmoved 17 0 used s)) (none_found k b p))

    pub remove_kept : {p : Place} → Ok (Some p) ≡ scanned k (book_of s used) → {t : List ℕ} → t ≡ moved p.start (p.start + p.size) (used - p.size - p.start) s
        → ended (Ok (used - p.size)) used t ≡ shelf_remove s used k
    unfolding shelf_remove
    remove_kept {p} e m =
        kept_judged k s used ok e λ b r w d.
        let n : used - p.size ≡ weight (without k b) = sym (left_weight w k d) in
        let there = m ∙ cut_moved w k d in
        (λ i. record { answer = said 0 0 (n i); store = there i })
        ∙ sym (ap (remove_in used s k) r ∙ ap (λ (t : Bool). cond t (keeping (without k b) s) (unmoved 17 0 used s)) (some_found k b d))

-- ---- an addition

module _ (s : List ℕ) (used : ℕ) (sheet : List ℕ) where
  pub add_none : (k : Key) {r : Refusal} → Err r ≡ scanned k (book_of s used) → ended (Err r) used s ≡ shelf_add s used sheet
  unfolding shelf_add
  add_none k e = let n = none_judged k (book_of s used) e in rw n.1 (sym (ap (add_in used s sheet) n.0))

  module _ {r place : ℕ} (e : from_sheet wire_changes sheet ≡ refused r place) where
    added_refused : (o : Option (List Kept)) → is_shelf o ≡ true → unmoved r place used s ≡ add_in used s sheet o
    added_refused none h = contrary h refl
    added_refused (some b) h = sym (ap (add_read used s sheet b) e)

    added_none : (o : Option (List Kept)) → is_shelf o ≡ false → unmoved 21 0 used s ≡ add_in used s sheet o
    added_none none h = refl
    added_none (some b) h = contrary refl h

    pub add_refused : is_shelf (book_of s used) ≡ true → ◌≡◌ {A = Stored} (record { answer = said r place used; store = s }) (shelf_add s used sheet)
    unfolding shelf_add
    add_refused h = added_refused (book_of s used) h

    pub add_first : is_shelf (book_of s used) ≡ false → ended (Err NoShelf) used s ≡ shelf_add s used sheet
    unfolding shelf_add
    add_first h = added_none (book_of s used) h

  module _ {old : Perhaps Place} {k : Key} (ok : Bytes s) (h : Placed s used old k sheet) where
    abbrev start : ℕ
    start = start_of old

    abbrev size : ℕ
    size = size_of old

    abbrev new : Kept
    new = record { key = k; sheet = sheet }

    pub placed_inside : Within s used start size
    placed_inside = judged_inside k s used ok (sym h.found)

    abbrev rest : ℕ
    rest = used - size

    added : (b : List Kept) → book_of s used ≡ some b → shelf_add s used sheet ≡ fitted used s (put new b)
    unfolding shelf_add
    added b r =
        ap (add_in used s sheet) r ∙ ap (add_read used s sheet b) h.accepts
        ∙ ap (λ (j : Key). fitted used s (put (record { key = j; sheet = sheet }) b)) (sym h.key)

    put_weight : (b : List Kept) → Keeps s used b → place_from 0 k b ≡ old → weight (put new b) ≡ 4 + length sheet + rest
    put_weight b w p = weight_put new b ∙ ap (λ (n : ℕ). 4 + length sheet + n) (left_weight w k p)

    -- "8 for room, nothing moved"
    pub add_short : length s < 4 + length sheet + rest → ended (Err ShortRoom) used s ≡ shelf_add s used sheet
    add_short l =
        kept_judged k s used ok (sym h.found) λ b r w p.
        sym (added b r ∙ ap (λ (t : Bool). cond t (unmoved 8 0 used s) (keeping (put new b) s)) (lt-ltb (length s) (weight (put new b)) (omega (arith, put_weight b w p))))

    module _ (room : 4 + length sheet + rest ≤ length s) where
      abbrev cut : List ℕ
      cut = moved start (start + size) (rest - start) s

      pub cut_some : {p : Place} → old ≡ Some p → {t : List ℕ} → t ≡ moved p.start (p.start + p.size) (used - p.size - p.start) s → t ≡ cut
      cut_some e m = m ∙ ap (λ (o : Perhaps Place). moved (start_of o) (start_of o + size_of o) (used - size_of o - start_of o) s) (sym e)

      pub cut_none : old ≡ None → {t : List ℕ} → t ≡ s → t ≡ cut
      cut_none e q = q ∙ down_same s 0 0 (used - 0 - 0) refl ∙ ap (λ (o : Perhaps Place). moved (start_of o) (start_of o + size_of o) (used - size_of o - start_of o) s) (sym e)

      -- the store without the replaced sheet
      record Cleared (b : List Kept) : Type 0 where
        pub is : cut ≡ kept_bytes b ++ drop rest s
        pub long : length cut ≡ length s
        pub front : take rest cut ≡ kept_bytes b
        pub kept : kept_in (take rest cut) ≡ b
        pub runs : Runs (take rest cut)

      cleared : (b : List Kept) → Keeps s used b → place_from 0 k b ≡ old → Cleared (without k b)
      cleared b w p =
          let c = without k b in
          let n = left_weight w k p in
          let m : length (kept_bytes c) ≡ rest = kept_length c ∙ n in
          let is : cut ≡ kept_bytes c ++ drop rest s = cut_moved w k p ∙ ap (λ (z : ℕ). kept_bytes c ++ drop z s) n in
          let front : take rest cut ≡ kept_bytes c = ap (take rest) is ∙ take_at (kept_bytes c) (drop rest s) rest m in
          let run : Run (take rest cut) c = record { good = each_without Good k b w.good; whole = front } in
          let i = w.small in
          let short : length (take rest cut) ≤ 65536 = omega (arith, ap length front, m) in
          record {
            is = is;
            long = ap length is ∙ omega (arith, length-append (kept_bytes c) (drop rest s), m, length-drop rest s);
            front = front;
            kept = run_kept (take rest cut) c run short;
            runs = record { run = kept_run (take rest cut) c run short; short = short };
          }

      pub add_insertable : Bytes sheet → {t : List ℕ} → t ≡ cut → Insertable t rest k sheet
      add_insertable fine e =
          kept_judged k s used ok (sym h.found) λ b r w p.
          let c = cleared b w p in
          let i = w.small in
          rw e
          (record {
            run = c.runs;
            key = rw h.key (accepted_in_range sheet (accepted_key sheet) fine (accepted_key_lem sheet h.accepts));
            room = omega (arith, c.long);
            small = omega (arith, c.long);
          })

      pub add_kept : {t v : List ℕ} → t ≡ cut → v ≡ inserted rest k sheet t → ended (Ok (rest + 4 + length sheet)) used v ≡ shelf_add s used sheet
      add_kept e g =
          kept_judged k s used ok (sym h.found) λ b r w p.
          let c = cleared b w p in
          let n = put_weight b w p in
          let m : rest + 4 + length sheet ≡ weight (put new b) = omega (arith, n) in
          let z : rest + (4 + length sheet) ≡ length (kept_bytes (without k b)) + (4 + length sheet) = omega (arith, kept_length (without k b), left_weight w k p) in
          let y : rest + (4 + length sheet) ≡ weight (put new b) = omega (arith, n) in
          let past : drop (rest + (4 + length sheet)) cut ≡ drop (weight (put new b)) s =
          ap₂ drop z c.is ∙ drop-append-add (kept_bytes (without k b)) (drop rest s) (4 + length sheet) ∙ drop-drop (4 + length sheet) rest s ∙ ap (λ (x : ℕ). drop x s) y in
          let there : _ ≡ kept_bytes (put new b) ++ drop (weight (put new b)) s =
          g ∙ ap (inserted rest k sheet) e ∙ ap₂ (λ (x : List Kept) (u : List ℕ). kept_bytes (placed_in new x) ++ u) c.kept past in
          (λ i. record { answer = said 0 0 (m i); store = there i })
          ∙ sym (added b r ∙ ap (λ (t : Bool). cond t (unmoved 8 0 used s) (keeping (put new b) s)) (le-ltb (length s) (weight (put new b)) (omega (arith, n))))

-- ---- a lookup

abbrev store_of : Bool → Seen → Seen → Seen
store_of true yard standard = standard
store_of false yard standard = yard

abbrev looked_as : Result Found Refusal → Seen → Seen → Looked
looked_as (Ok f) yard standard = record { refusal = 0; part = part_of (store_of f.standard yard standard) f.start f.count }
looked_as (Err r) yard standard = no_part (refusal_number r) yard

abbrev FoundIn : Result Found Refusal → Seen → Seen → Type 0
FoundIn (Ok f) yard standard = f.start + f.count ≤ length (store_of f.standard yard standard).bytes
FoundIn (Err r) yard standard = Unit {0}

-- what was found lies in its store, and is what the lookup hands back
record Finds (f : Result Found Refusal) (yard standard : Seen) (l : Looked) : Type 0 where
  pub inside : FoundIn f yard standard
  pub looked : looked_as f yard standard ≡ l

module _ (yard : Seen) (yard_used : ℕ) (standard : Seen) (standard_used : ℕ) (ok_yard : Bytes yard.bytes) (ok_standard : Bytes standard.bytes) (k : Key) where
  -- the sheet of a book that a store keeps
  sheet_inside : (s : List ℕ) (used : ℕ) → Bytes s → (b : List Kept) → book_of s used ≡ some b → {p : Place} → place_from 0 k b ≡ Some p → p.start + p.size ≤ length s
  sheet_inside s used ok b e d = let w = (book_exactly s used b ok).0 e in let i = w.within in omega (arith, place_inside w k d)

  found_finds : (store : Seen) (t : Bool) → store_of t yard standard ≡ store → (a m at : ℕ) → a + (4 + m) ≤ length store.bytes → a + 4 ≡ 0 + at
      → Finds (Ok (found_at t (record { start = a; size = 4 + m }))) yard standard (record { refusal = 0; part = part_of store at m })
  found_finds store t e a m at i q =
      let l : 4 + m - 4 ≡ m = omega arith in
      let j : a + 4 ≡ at = omega arith in
      record {
        inside = rw e (omega arith);
        looked = ap₂ (λ (x y : ℕ). record { refusal = 0; part = part_of (store_of t yard standard) x y }) j l ∙ ap (λ (x : Seen). record { refusal = 0; part = part_of x at m }) e;
      }

  none_finds : (r : Refusal) → Finds (Err r) yard standard (no_part (refusal_number r) yard)
  none_finds r = record { inside = tt; looked = refl }

  both_finds : (b c : List Kept) → book_of yard.bytes yard_used ≡ some b → book_of standard.bytes standard_used ≡ some c → (o p : Option (List ℕ)) → lookup k b ≡ o → lookup k c ≡ p
      → Finds (either_of (place_from 0 k b) (place_from 0 k c)) yard standard (handed o yard (offset_of k b) (handed p standard (offset_of k c) (no_part 17 yard)))
  both_finds b c e f (some sheet) p g h =
      place_kept 0 k b sheet g λ a x r.
      rw x (found_finds yard false refl a (length sheet) (offset_of k b) (sheet_inside yard.bytes yard_used ok_yard b e x) r)
  both_finds b c e f none (some sheet) g h =
      place_kept 0 k c sheet h λ a y r.
      rw (place_absent k 0 b g, y) (found_finds standard true refl a (length sheet) (offset_of k c) (sheet_inside standard.bytes standard_used ok_standard c f y) r)
  both_finds b c e f none none g h = rw (place_absent k 0 b g, place_absent k 0 c h) (none_finds NotKept)

  book_finds : (o p : Option (List Kept)) → book_of yard.bytes yard_used ≡ o → book_of standard.bytes standard_used ≡ p → Finds (found_in (scanned k o) (scanned k p)) yard standard (look_in k yard standard o p)
  book_finds none p e f = none_finds NoShelf
  book_finds (some b) none e f = none_finds NoShelf
  book_finds (some b) (some c) e f = both_finds b c e f (lookup k b) (lookup k c) refl refl

  finds : Finds (found_of yard.bytes yard_used standard.bytes standard_used k) yard standard (shelf_lookup yard yard_used standard standard_used k)
  unfolding shelf_lookup
  finds = book_finds (book_of yard.bytes yard_used) (book_of standard.bytes standard_used) refl refl

  -- a refused lookup
  pub none_looked : {r : Refusal} → Err r ≡ found_of yard.bytes yard_used standard.bytes standard_used k → {n : ℕ} → n ≡ refusal_number r → {p : Seen} → p ≡ part_of yard 0 0
      → record { refusal = n; part = p } ≡ shelf_lookup yard yard_used standard standard_used k
  none_looked e m q = rw (m, q) (rw (sym e) at finds).looked

  module _ {f : Found} (e : Ok f ≡ found_of yard.bytes yard_used standard.bytes standard_used k) where
    f_finds : Finds (Ok f) yard standard (shelf_lookup yard yard_used standard standard_used k)
    f_finds = rw e finds

    pub standard_inside : f.standard ≡ true → f.start + f.count ≤ length standard.bytes
    standard_inside q = rw q at f_finds.inside

    pub yard_inside : f.standard ≡ false → f.start + f.count ≤ length yard.bytes
    yard_inside q = rw q at f_finds.inside

    pub standard_looked : f.standard ≡ true → {p : Seen} → p ≡ part_of standard f.start f.count → record { refusal = 0; part = p } ≡ shelf_lookup yard yard_used standard standard_used k
    standard_looked q r = rw r (rw q at f_finds.looked)

    pub yard_looked : f.standard ≡ false → {p : Seen} → p ≡ part_of yard f.start f.count → record { refusal = 0; part = p } ≡ shelf_lookup yard yard_used standard standard_used k
    yard_looked q r = rw r (rw q at f_finds.looked)
