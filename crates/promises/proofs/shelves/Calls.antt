-- "From a fresh store, changed by these calls alone, it answers as a plain map over any calls"; and the keys of such a store rise.
use mathlib.Core.Path.{◌≡◌, refl, sym, ap, ap₂, ◌∙◌, subst}
use mathlib.Core.Bool.{true, cond}
use mathlib.Core.List.{List, [], ◌∷◌, ◌++◌, append_assoc}
use mathlib.Core.Option.{Option, none, some}
use Prim.Native.Nat.{ℕ, ◌+◌, ◌≤◌}
use native.Mathlib.Omega.{arith}
use borrow.Author.Tests.{ltb-false}
use lib.Dec.{ltb}
use lib.ListN.{length, take, drop, length-append, length-drop, take-append-drop}
use lib.Seq.{take_at, take-append_seam, drop-drop, drop-append-add}
use Rattle.bits.specs.Bits.{Bytes}
use Rattle.bits.proofs.Tests.{by_cases}
use Rattle.format.specs.Format.{Read, accepted, refused}
use Rattle.grammar.specs.segment.Segment.{wire_changes}
use Rattle.grammar.specs.segment.Judgement.{from_sheet}
use Rattle.shelf.specs.declared.Key.{Key}
use Rattle.shelf.specs.Book.{same_key, Kept, lookup, without, put, found, different, rising, weight, Each}
use Rattle.shelf.specs.Shelf.{kept_bytes, key_of, key_read, sheet_key, Stored, unmoved, keeping, fitted, add_read, add_in, shelf_add, remove_in, shelf_remove, Seen, offset_of, part_of, handed, no_part, look_in, shelf_lookup}
use Rattle.shelf.specs.Keeps.{Good, Keeps}
use Rattle.shelf.proofs.Book.{without_different, put_different, weight_without, each_without, each_put}
use Rattle.shelf.specs.internal.Scanning.{InRange}
use Rattle.shelf.proofs.Reading.{kept_length, used_weight, keeps_read}
use Rattle.shelf.proofs.Order.{Ranged, put_rising, without_rising, accepted_in_range}
use Rattle.promises.specs.shelves.Calls.{Side, Call, Answer, Store, fresh, change_answer, look_answer, store_after, answers, Mapped, map_room, map_add, map_remove, or_else, map_look, mapped_answer, map_answers, stores_after, BytesIn, Rises}

-- ---- "hands back that part of whichever store holds it"

part_of_lem : (key : Key) (b : List Kept) (sheet rest : List ℕ) → lookup key b ≡ some sheet → take (length sheet) (drop (offset_of key b) (kept_bytes b ++ rest)) ≡ sheet
part_of_lem key [] sheet rest e = absurd (let z : ◌≡◌ {A = ℕ} 0 1 = cc in omega arith)
part_of_lem key (f ∷ b) sheet rest e =
    let long = kept_bytes (f ∷ b) ++ rest in
    let more = append_assoc f.sheet (kept_bytes b) rest in
    by_cases (same_key f.key key)
    (λ d. let q : some f.sheet ≡ some sheet = rw d at e in
    let r : f.sheet ≡ sheet = cc in
    rw d (ap (take (length sheet)) more ∙ subst (λ (z : List ℕ). take (length z) (f.sheet ++ (kept_bytes b ++ rest)) ≡ z) r (take-append_seam f.sheet (kept_bytes b ++ rest))))
    (λ d. let m = length f.sheet + offset_of key b in
    let there : drop (4 + m) long ≡ drop (offset_of key b) (kept_bytes b ++ rest) =
    sym (drop-drop m 4 long) ∙ ap (drop m) more ∙ drop-append-add f.sheet (kept_bytes b ++ rest) (offset_of key b) in
    let i : offset_of key (f ∷ b) ≡ 4 + m = rw d (omega arith) in
    ap (λ (n : ℕ). take (length sheet) (drop n long)) i ∙ ap (take (length sheet)) there ∙ part_of_lem key b sheet rest (rw d at e))

-- the sheet under a key lies within the used part
pub offset_inside : (key : Key) (b : List Kept) (sheet : List ℕ) → lookup key b ≡ some sheet → offset_of key b + length sheet ≤ weight b
offset_inside key [] sheet e = absurd (let z : ◌≡◌ {A = ℕ} 0 1 = cc in omega arith)
offset_inside key (f ∷ b) sheet e =
    by_cases (same_key f.key key)
    (λ d. let q : some f.sheet ≡ some sheet = rw d at e in let r : f.sheet ≡ sheet = cc in rw d (omega (arith, ap length r)))
    (λ d. rw d (omega (arith, offset_inside key b sheet (rw d at e))))

-- the sheet under a key is that part of the store
pub part_in_store : {store : List ℕ} {used : ℕ} {b : List Kept} → Keeps store used b → (key : Key) (sheet : List ℕ) → lookup key b ≡ some sheet
    → take (length sheet) (drop (offset_of key b) store) ≡ sheet
part_in_store {store} {used} {b} k key sheet e =
    let whole : store ≡ kept_bytes b ++ drop used store = sym (take-append-drop used store) ∙ ap (λ (z : List ℕ). z ++ drop used store) k.front in
    ap (λ (z : List ℕ). take (length sheet) (drop (offset_of key b) z)) whole ∙ part_of_lem key b sheet (drop used store) e

-- ---- a store that keeps a book, in a room of its own

record Held (st : Store) (room : ℕ) (b : List Kept) : Type 0 where
  pub keeps : Keeps st.seen.bytes st.used b
  pub size : length st.seen.bytes ≡ room

fresh_held : (s : Seen) → length s.bytes ≤ 65536 → Held (fresh s) (length s.bytes) []
fresh_held s h = record { keeps = record { small = h; within = omega arith; good = tt; apart = refl; front = refl }; size = refl }

-- what a call on a store answers and leaves, and what the same call on a plain map does
record Alike (st : Store) (o : Stored) (room : ℕ) (m : Mapped) : Type 0 where
  pub same : change_answer o ≡ mapped_answer m
  pub held : Held (store_after st o) room m.book

module _ {st : Store} {room : ℕ} {b : List Kept} (h : Held st room b) where
  abbrev k : Keeps st.seen.bytes st.used b
  k = h.keeps

  small : room ≤ 65536
  small = let s = k.small in let e = h.size in omega arith

  -- a book written into the front of a store is kept there, and the store is as long as it was
  keeping_held : (n : List Kept) → weight n ≤ room → Each Good n → different n ≡ true → Held (store_after st (keeping n st.seen.bytes)) room n
  keeping_held n fits good apart =
      let s = st.seen.bytes in
      let long : length (kept_bytes n ++ drop (weight n) s) ≡ room = omega (arith, length-append (kept_bytes n) (drop (weight n) s), kept_length n, length-drop (weight n) s, h.size) in
      record {
        keeps = record { small = omega (arith, small); within = omega arith; good = good; apart = apart; front = take_at (kept_bytes n) (drop (weight n) s) (weight n) (kept_length n) };
        size = long;
      }

  unmoved_alike : (r place : ℕ) → Alike st (unmoved r place st.used st.seen.bytes) room (record { refusal = r; place = place; book = b })
  unmoved_alike r place = record { same = ap (λ (n : ℕ). record { refusal = r; place = place; used = n; part = [] }) (used_weight k); held = h }

  keeping_alike : (n : List Kept) → weight n ≤ room → Each Good n → different n ≡ true → Alike st (keeping n st.seen.bytes) room (record { refusal = 0; place = 0; book = n })
  keeping_alike n w g d = record { same = refl; held = keeping_held n w g d }

  fitted_alike : (n : List Kept) → Each Good n → different n ≡ true → Alike st (fitted st.used st.seen.bytes n) room (map_room room b n)
  fitted_alike n g d =
      subst (λ (z : ℕ). Alike st (cond (ltb z (weight n)) (unmoved 8 0 st.used st.seen.bytes) (keeping n st.seen.bytes)) room (map_room room b n)) (sym h.size)
      (by_cases (ltb room (weight n)) (λ e. rw e (unmoved_alike 8 0)) (λ e. rw e (keeping_alike n (ltb-false room (weight n) e) g d)))

  read_alike : (sheet : List ℕ) (r : Read) → sheet_key sheet ≡ key_read r → Alike st (add_read st.used st.seen.bytes sheet b r) room (map_add room sheet b r)
  read_alike sheet (refused r place) e = unmoved_alike r place
  read_alike sheet (accepted l) e =
      let n : Kept = record { key = key_of l; sheet = sheet } in
      fitted_alike (put n b) (each_put Good n b e k.good) (put_different n b k.apart)

  add_alike : (sheet : List ℕ) → Alike st (shelf_add st.seen.bytes st.used sheet) room (map_add room sheet b (from_sheet wire_changes sheet))
  unfolding shelf_add sheet_key
  add_alike sheet =
      subst (λ (o : Option (List Kept)). Alike st (add_in st.used st.seen.bytes sheet o) room (map_add room sheet b (from_sheet wire_changes sheet))) (sym (keeps_read k))
      (read_alike sheet (from_sheet wire_changes sheet) refl)

  remove_alike : (key : Key) → Alike st (shelf_remove st.seen.bytes st.used key) room (map_remove key b)
  unfolding shelf_remove
  remove_alike key =
      subst (λ (o : Option (List Kept)). Alike st (remove_in st.used st.seen.bytes key o) room (map_remove key b)) (sym (keeps_read k))
      (by_cases (found (lookup key b))
      (λ e. rw e (keeping_alike (without key b) (let w = used_weight k in let i = k.within in let s = h.size in omega (arith, weight_without key b)) (each_without Good key b k.good) (without_different key b k.apart)))
      (λ e. rw e (unmoved_alike 17 0)))

look_alike : {y s : Store} {yr sr : ℕ} {b c : List Kept} → Held y yr b → Held s sr c → (key : Key)
    → look_answer (shelf_lookup y.seen y.used s.seen s.used key) ≡ map_look (or_else (lookup key b) (lookup key c))
unfolding shelf_lookup
look_alike {y} {s} {b = b} {c = c} h i key =
    ap₂ (λ (o p : Option (List Kept)). look_answer (look_in key y.seen s.seen o p)) (keeps_read h.keeps) (keeps_read i.keeps) ∙ go (lookup key b) (lookup key c) refl refl
  where
    found_alike : (st : Store) {room : ℕ} {d : List Kept} → Held st room d → (sheet : List ℕ) → lookup key d ≡ some sheet
        → look_answer (record { refusal = 0; part = part_of st.seen (offset_of key d) (length sheet) }) ≡ map_look (some sheet)
    found_alike st g sheet e = ap (λ (l : List ℕ). record { refusal = 0; place = 0; used = 0; part = l }) (part_in_store g.keeps key sheet e)

    go : (o p : Option (List ℕ)) → lookup key b ≡ o → lookup key c ≡ p
        → look_answer (handed o y.seen (offset_of key b) (handed p s.seen (offset_of key c) (no_part 17 y.seen))) ≡ map_look (or_else o p)
    go (some sheet) p e f = found_alike y h sheet e
    go none (some sheet) e f = found_alike s i sheet f
    go none none e f = refl

-- ---- over any calls

front : {a c : Answer} {l m : List Answer} → a ≡ c → l ≡ m → a ∷ l ≡ c ∷ m
front e f = ap₂ (λ (a : Answer) (l : List Answer). a ∷ l) e f

as_map : (l : List Call) {y s : Store} {yr sr : ℕ} {b c : List Kept} → Held y yr b → Held s sr c → answers y s l ≡ map_answers yr sr b c l
as_map [] h i = refl
as_map (Call.add Side.yard sheet ∷ l) h i = let a = add_alike h sheet in front a.same (as_map l a.held i)
as_map (Call.add Side.standard sheet ∷ l) h i = let a = add_alike i sheet in front a.same (as_map l h a.held)
as_map (Call.remove Side.yard k ∷ l) h i = let a = remove_alike h k in front a.same (as_map l a.held i)
as_map (Call.remove Side.standard k ∷ l) h i = let a = remove_alike i k in front a.same (as_map l h a.held)
as_map (Call.look k ∷ l) h i = front (look_alike h i k) (as_map l h i)

pub plain_map : (yard standard : Seen) → length yard.bytes ≤ 65536 → length standard.bytes ≤ 65536 → (l : List Call)
    → answers (fresh yard) (fresh standard) l ≡ map_answers (length yard.bytes) (length standard.bytes) [] [] l
plain_map yard standard a b l = as_map l (fresh_held yard a) (fresh_held standard b)

-- ---- keys that rise

record Ordered (b : List Kept) : Type 0 where
  pub ranged : Each Ranged b
  pub rises : rising b ≡ true

add_ordered : {b : List Kept} → Ordered b → (room : ℕ) (sheet : List ℕ) → Bytes sheet → (r : Read) → from_sheet wire_changes sheet ≡ r → Ordered (map_add room sheet b r).book
unfolding sheet_key
add_ordered o room sheet ok (refused q place) e = o
add_ordered {b} o room sheet ok (accepted l) e =
    let n : Kept = record { key = key_of l; sheet = sheet } in
    let g : InRange (key_of l) = accepted_in_range sheet (key_of l) ok (ap key_read e) in
    by_cases (ltb room (weight (put n b))) (λ q. rw q o)
    (λ q. rw q (record { ranged = each_put Ranged n b g o.ranged; rises = put_rising n b g o.ranged o.rises }))

remove_ordered : {b : List Kept} → Ordered b → (k : Key) → Ordered (map_remove k b).book
remove_ordered {b} o k =
    by_cases (found (lookup k b)) (λ q. rw q (record { ranged = each_without Ranged k b o.ranged; rises = without_rising k b o.rises })) (λ q. rw q o)

held_rises : {st : Store} {room : ℕ} {b : List Kept} → Held st room b → Ordered b → Rises st
held_rises {b = b} h o = record { book = b; keeps = h.keeps; rises = o.rises }

as_rising : (l : List Call) {y s : Store} {yr sr : ℕ} {b c : List Kept} → Held y yr b → Held s sr c → Ordered b → Ordered c → BytesIn l → Rises (stores_after y s l).0 × Rises (stores_after y s l).1
as_rising [] h i o p f = (held_rises h o, held_rises i p)
as_rising (Call.add Side.yard sheet ∷ l) {yr = yr} h i o p f = as_rising l (add_alike h sheet).held i (add_ordered o yr sheet f.0 (from_sheet wire_changes sheet) refl) p f.1
as_rising (Call.add Side.standard sheet ∷ l) {sr = sr} h i o p f = as_rising l h (add_alike i sheet).held o (add_ordered p sr sheet f.0 (from_sheet wire_changes sheet) refl) f.1
as_rising (Call.remove Side.yard k ∷ l) h i o p f = as_rising l (remove_alike h k).held i (remove_ordered o k) p f
as_rising (Call.remove Side.standard k ∷ l) h i o p f = as_rising l h (remove_alike i k).held o (remove_ordered p k) f
as_rising (Call.look k ∷ l) h i o p f = as_rising l h i o p f

-- in stores that only these calls changed keys rise, so that one comparison for each tells that they are different
pub calls_rise : (yard standard : Seen) → length yard.bytes ≤ 65536 → length standard.bytes ≤ 65536 → (l : List Call) → BytesIn l
    → Rises (stores_after (fresh yard) (fresh standard) l).0 × Rises (stores_after (fresh yard) (fresh standard) l).1
calls_rise yard standard a b l f = let o : Ordered [] = record { ranged = tt; rises = refl } in as_rising l (fresh_held yard a) (fresh_held standard b) o o f
