-- "Refusals: 21, first, ..": each refusal of the shelf is given on its ground and not otherwise, and every call has one ending.
use mathlib.Core.Path.{◌≡◌, refl, sym, ap, ap₂, ◌∙◌, subst}
use mathlib.Core.Bool.{Bool, true, cond, ◌||◌}
use mathlib.Core.List.{List}
use mathlib.Core.Option.{Option, none, some}
use mathlib.Core.Logic.{◌↔◌}
use Prim.Native.Nat.{ℕ, ◌+◌, ◌≤◌}
use native.Mathlib.Omega.{arith}
use borrow.Author.Tests.{ltb-true, ltb-false, lt-ltb, le-ltb}
use lib.Dec.{ltb}
use lib.ListN.{length, drop, length-append, length-drop}
use Rattle.bits.specs.Bits.{Bytes}
use Rattle.bits.proofs.Tests.{by_cases}
use Rattle.kinds.specs.declared.Item.{Item}
use Rattle.format.specs.Format.{Read, accepted, refused}
use Rattle.format.specs.Grounds.{Among, Ending, grounded, OneEnding}
use Rattle.grammar.specs.segment.Segment.{wire_changes}
use Rattle.grammar.specs.segment.Judgement.{from_sheet}
use Rattle.grammar.proofs.segment.Refusals.{among_positive, sheet_refusal}
use Rattle.grammar.proofs.segment.Grounds.{sheet_listed}
use Rattle.speed_question.specs.Question.{Brought}
use Rattle.shelf.specs.declared.Key.{Key}
use Rattle.shelf.specs.Book.{Kept, lookup, without, put, found, weight}
use Rattle.shelf.specs.Shelf.{kept_bytes, key_of, key_read, sheet_key, book_of, Stored, unmoved, keeping, fitted, add_read, add_in, shelf_add, remove_in, shelf_remove, Seen, offset_of, no_part, handed, Looked, look_in, shelf_lookup}
use Rattle.shelf.specs.Keeps.{Good, Keeps}
use Rattle.shelf.proofs.Book.{contrary, weight_put, weight_without}
use Rattle.shelf.proofs.Reading.{kept_length, used_weight, keeps_read, book_exactly}
use Rattle.promises.specs.Promised.{SegmentOfValues}
use Rattle.promises.specs.Refused.{Refuses, placeless}
use Rattle.promises.specs.Ranges.{OneOutcome}
use Rattle.promises.specs.shelves.Refused.{KeptSheet, NoShelf, AddGround, Addable, add_refusals, RemoveGround, Removable, key_refusals, ChangeEnds, LookGround, Findable, LookEnds}
use Rattle.speed_question.proofs.Values.{sheet_values}
use Rattle.promises.proofs.Values.{sheet_taken}
use Rattle.promises.proofs.Refused.{segments_on, one_ending, one_outcome, among_by, among_into}
use Rattle.promises.proofs.Placeless.{segment_place, said_place}
use Rattle.promises.proofs.shelves.Calls.{offset_inside}

-- ---- a kept sheet

-- the values of a sheet that is accepted
taken_values : (s : List ℕ) (w : SegmentOfValues Brought.sheet s) → from_sheet wire_changes s ≡ accepted w.values
taken_values s w = ap (from_sheet wire_changes) w.whole ∙ sheet_taken w.values w.good

read_values : (s : List ℕ) (l : List Item) → Bytes s → from_sheet wire_changes s ≡ accepted l → SegmentOfValues Brought.sheet s
read_values s l ok e = let v = sheet_values s l ok e in record { values = l; good = v.0; whole = v.1 }

some_none : {A C : Type 0} {a : A} → ◌≡◌ {A = Option A} none (some a) → C
some_none e = absurd (let z : ◌≡◌ {A = ℕ} 0 1 = cc in omega arith)

-- a sheet that is kept under its key is one of good values with that key
pub kept_good : (e : Kept) → Bytes e.sheet → Good e ↔ KeptSheet e
unfolding sheet_key
kept_good e ok = (λ g. go (from_sheet wire_changes e.sheet) refl g, λ w. ap key_read (taken_values e.sheet (record { values = w.values; good = w.good; whole = w.whole })) ∙ ap some w.key)
  where
    go : (r : Read) → from_sheet wire_changes e.sheet ≡ r → key_read r ≡ some e.key → KeptSheet e
    go (refused q place) d f = some_none f
    go (accepted l) d f = let v = sheet_values e.sheet l ok d in let i : key_of l ≡ e.key = cc in record { values = l; good = v.0; whole = v.1; key = i }

-- ---- a store

no_book : {store : List ℕ} {used : ℕ} → book_of store used ≡ none → NoShelf store used
no_book e b k = some_none (sym e ∙ keeps_read k)

-- a store is a shelf, or is none
shelf_or : {C : Type 0} (store : List ℕ) (used : ℕ) → Bytes store → ((b : List Kept) → Keeps store used b → C) → (NoShelf store used → C) → C
shelf_or {C} store used ok f g = go (book_of store used) refl
  where
    go : (o : Option (List Kept)) → book_of store used ≡ o → C
    go none e = g (no_book e)
    go (some b) e = f b ((book_exactly store used b ok).0 e)

none_read : (store : List ℕ) (used : ℕ) → Bytes store → NoShelf store used → book_of store used ≡ none
none_read store used ok n = go (book_of store used) refl
  where
    go : (o : Option (List Kept)) → book_of store used ≡ o → book_of store used ≡ none
    go none e = e
    go (some b) e = absurd (n b ((book_exactly store used b ok).0 e))

-- ---- an answer or one ground, for any call

module _ (said : ℕ × ℕ) {Answered : Type 0} {Ground : ℕ → ℕ → Type 0} (done : Answered → said.0 ≡ 0) (on : (r place : ℕ) → Ground r place → Refuses said r place)
    (ends : Ending Answered {I = ℕ × ℕ} (λ p. Ground p.0 p.1)) where
  refuses : (r place : ℕ) → Refuses said r place ↔ Ground r place
  refuses r place = (λ q. go q ends, on r place)
    where
      go : Refuses said r place → Ending Answered {I = ℕ × ℕ} (λ p. Ground p.0 p.1) → Ground r place
      go q (Ending.answered a) = absurd (let z = ap (λ (x : ℕ × ℕ). x.0) q.0 in let h = q.1 in omega (arith, done a))
      go q (grounded p g) = subst (λ (x : ℕ × ℕ). Ground x.0 x.1) (sym (on p.0 p.1 g).0 ∙ q.0) g

  answers : (said.0 ≡ 0) ↔ Answered
  answers = (λ e. go e ends, done)
    where
      go : said.0 ≡ 0 → Ending Answered {I = ℕ × ℕ} (λ p. Ground p.0 p.1) → Answered
      go e (Ending.answered a) = a
      go e (grounded p g) = absurd (let q = on p.0 p.1 g in let z = ap (λ (x : ℕ × ℕ). x.0) q.0 in let h = q.1 in omega arith)

  ending : OneEnding Answered {I = ℕ × ℕ} (λ p. Ground p.0 p.1)
  ending = one_ending said answers refuses

abbrev said : Stored → ℕ × ℕ
said o = (o.answer.refusal, o.answer.place)

-- a book that is written into a store
keeping_ends : (store : List ℕ) (used : ℕ) (refusals : List ℕ) (b : List Kept) → weight b ≤ length store → ChangeEnds store used refusals (keeping b store)
keeping_ends store used refusals b h =
    ChangeEnds.success refl refl (omega (arith, length-append (kept_bytes b) (drop (weight b) store), kept_length b, length-drop (weight b) store)) h

-- ---- an addition

module _ (store : List ℕ) (used : ℕ) (sheet : List ℕ) (ok : Bytes store) (fine : Bytes sheet) where
  add_kept : (b : List Kept) → Keeps store used b → shelf_add store used sheet ≡ add_read used store sheet b (from_sheet wire_changes sheet)
  unfolding shelf_add
  add_kept b k = ap (add_in used store sheet) (keeps_read k)

  new : (w : SegmentOfValues Brought.sheet sheet) → Kept
  new w = record { key = key_of w.values; sheet = sheet }

  add_fitted : (b : List Kept) → Keeps store used b → (w : SegmentOfValues Brought.sheet sheet) → shelf_add store used sheet ≡ fitted used store (put (new w) b)
  unfolding new
  add_fitted b k w = add_kept b k ∙ ap (add_read used store sheet b) (taken_values sheet w)

  -- what is added is kept, in the order of keys, and the bytes past the used part stay
  pub add_done : (a : Addable store used sheet) → shelf_add store used sheet ≡ keeping (put (record { key = key_of a.good.values; sheet = sheet }) a.book) store
  unfolding new
  add_done a =
      let n = put (new a.good) a.book in
      add_fitted a.book a.keeps a.good
      ∙ ap (λ (q : Bool). cond q (unmoved 8 0 used store) (keeping n store)) (le-ltb (length store) (weight n) (omega (arith, a.room, weight_put (new a.good) a.book)))

  -- a refused addition moves nothing
  pub add_unmoved : (r place : ℕ) → AddGround store used sheet r place → shelf_add store used sheet ≡ unmoved r place used store
  unfolding shelf_add new
  add_unmoved r place (AddGround.no_shelf n e p) = ap (add_in used store sheet) (none_read store used ok n) ∙ rw (e, p)
  add_unmoved r place (AddGround.own b k g) = add_kept b k ∙ ap (add_read used store sheet b) (((segments_on Brought.sheet).refused_on sheet r place fine).1 g)
  add_unmoved r place (AddGround.no_room b k w h e p) =
      let n = put (new w) b in
      add_fitted b k w ∙ ap (λ (q : Bool). cond q (unmoved 8 0 used store) (keeping n store)) (lt-ltb (length store) (weight n) (omega (arith, h, weight_put (new w) b))) ∙ rw (e, p)

  add_positive : (r place : ℕ) → AddGround store used sheet r place → 1 ≤ r
  add_positive r place (AddGround.no_shelf n e p) = omega arith
  add_positive r place (AddGround.own b k g) = sheet_refusal wire_changes sheet r place fine (((segments_on Brought.sheet).refused_on sheet r place fine).1 g)
  add_positive r place (AddGround.no_room b k w h e p) = omega arith

  add_ends : Ending (Addable store used sheet) {I = ℕ × ℕ} (λ p. AddGround store used sheet p.0 p.1)
  add_ends = shelf_or store used ok (λ b k. read b k (from_sheet wire_changes sheet) refl) (λ n. grounded (21, 0) (AddGround.no_shelf n refl refl))
    where
      read : (b : List Kept) → Keeps store used b → (r : Read) → from_sheet wire_changes sheet ≡ r → Ending (Addable store used sheet) {I = ℕ × ℕ} (λ p. AddGround store used sheet p.0 p.1)
      read b k (refused r place) e = grounded (r, place) (AddGround.own b k (((segments_on Brought.sheet).refused_on sheet r place fine).0 e))
      read b k (accepted l) e =
          let w = read_values sheet l fine e in
          by_cases (ltb (length store) (4 + length sheet + weight (without (key_of w.values) b)))
          (λ q. grounded (8, 0) (AddGround.no_room b k w (ltb-true (length store) (4 + length sheet + weight (without (key_of w.values) b)) q) refl refl))
          (λ q. Ending.answered (record { book = b; keeps = k; good = w; room = ltb-false (length store) (4 + length sheet + weight (without (key_of w.values) b)) q }))

  add_on : (r place : ℕ) → AddGround store used sheet r place → Refuses (said (shelf_add store used sheet)) r place
  add_on r place g = (ap said (add_unmoved r place g), add_positive r place g)

  -- refused with r at `place` exactly on the ground
  pub add_refused : (r place : ℕ) → Refuses ((shelf_add store used sheet).answer.refusal, (shelf_add store used sheet).answer.place) r place ↔ AddGround store used sheet r place
  add_refused = refuses (said (shelf_add store used sheet)) (λ a. ap (λ (o : Stored). o.answer.refusal) (add_done a)) add_on add_ends

  -- every addition has an answer or one ground, and never both
  pub add_ending : OneEnding (Addable store used sheet) {I = ℕ × ℕ} (λ p. AddGround store used sheet p.0 p.1)
  add_ending = ending (said (shelf_add store used sheet)) (λ a. ap (λ (o : Stored). o.answer.refusal) (add_done a)) add_on add_ends

  add_listed : (r place : ℕ) → AddGround store used sheet r place → Among r add_refusals
  add_listed r place (AddGround.no_shelf n e p) = rw e (among_by 21 add_refusals refl)
  add_listed r place (AddGround.own b k g) = among_into add_refusals refl (sheet_listed wire_changes sheet r place g)
  add_listed r place (AddGround.no_room b k w h e p) = rw e (among_by 8 add_refusals refl)

  -- any two outcomes that satisfy the contract coincide
  pub add_outcome : OneOutcome (shelf_add store used sheet) (ChangeEnds store used add_refusals)
  unfolding new
  add_outcome = one_outcome (shelf_add store used sheet) (go add_ends)
    where
      go : Ending (Addable store used sheet) {I = ℕ × ℕ} (λ p. AddGround store used sheet p.0 p.1) → ChangeEnds store used add_refusals (shelf_add store used sheet)
      go (Ending.answered a) = rw (add_done a) (keeping_ends store used add_refusals (put (new a.good) a.book) (omega (arith, a.room, weight_put (new a.good) a.book)))
      go (grounded p g) = rw (add_unmoved p.0 p.1 g) (ChangeEnds.refusal (add_listed p.0 p.1 g) refl refl)

  -- the place is the sheet's own, and 0 where its refusal has none
  pub add_placeless : Among (shelf_add store used sheet).answer.refusal placeless → (shelf_add store used sheet).answer.place ≡ 0
  add_placeless a = go (add_outcome.ends (shelf_add store used sheet) refl)
    where
      none : (r place : ℕ) → AddGround store used sheet r place → Among r placeless → place ≡ 0
      none r place (AddGround.no_shelf n e p) b = p
      none r place (AddGround.own c k g) b = segment_place Brought.sheet sheet r place g b
      none r place (AddGround.no_room c k w h e p) b = p

      go : ChangeEnds store used add_refusals (shelf_add store used sheet) → (shelf_add store used sheet).answer.place ≡ 0
      go (ChangeEnds.success e p l h) = p
      go (ChangeEnds.refusal l n k) = said_place (said (shelf_add store used sheet)) add_refused none (among_positive l refl) a

-- ---- a removal

module _ (store : List ℕ) (used : ℕ) (k : Key) (ok : Bytes store) where
  -- "removing frees": the sheet is gone, and the bytes past the used part stay
  pub remove_done : (a : Removable store used k) → shelf_remove store used k ≡ keeping (without k a.book) store
  unfolding shelf_remove
  remove_done a =
      ap (remove_in used store k) (keeps_read a.keeps) ∙ ap (λ (q : Bool). cond q (keeping (without k a.book) store) (unmoved 17 0 used store)) a.kept

  -- a refused removal moves nothing
  pub remove_unmoved : (r place : ℕ) → RemoveGround store used k r place → shelf_remove store used k ≡ unmoved r place used store
  unfolding shelf_remove
  remove_unmoved r place (RemoveGround.no_shelf n e p) = ap (remove_in used store k) (none_read store used ok n) ∙ rw (e, p)
  remove_unmoved r place (RemoveGround.absent b h z e p) =
      ap (remove_in used store k) (keeps_read h) ∙ ap (λ (o : Option (List ℕ)). cond (found o) (keeping (without k b) store) (unmoved 17 0 used store)) z ∙ rw (e, p)

  remove_on : (r place : ℕ) → RemoveGround store used k r place → Refuses (said (shelf_remove store used k)) r place
  remove_on r place g = (ap said (remove_unmoved r place g), positive g)
    where
      positive : RemoveGround store used k r place → 1 ≤ r
      positive (RemoveGround.no_shelf n e p) = omega arith
      positive (RemoveGround.absent b h z e p) = omega arith

  remove_ends : Ending (Removable store used k) {I = ℕ × ℕ} (λ p. RemoveGround store used k p.0 p.1)
  remove_ends = shelf_or store used ok (λ b h. look b h (lookup k b) refl) (λ n. grounded (21, 0) (RemoveGround.no_shelf n refl refl))
    where
      look : (b : List Kept) → Keeps store used b → (o : Option (List ℕ)) → lookup k b ≡ o → Ending (Removable store used k) {I = ℕ × ℕ} (λ p. RemoveGround store used k p.0 p.1)
      look b h none e = grounded (17, 0) (RemoveGround.absent b h e refl refl)
      look b h (some s) e = Ending.answered (record { book = b; keeps = h; kept = ap found e })

  pub remove_refused : (r place : ℕ) → Refuses ((shelf_remove store used k).answer.refusal, (shelf_remove store used k).answer.place) r place ↔ RemoveGround store used k r place
  remove_refused = refuses (said (shelf_remove store used k)) (λ a. ap (λ (o : Stored). o.answer.refusal) (remove_done a)) remove_on remove_ends

  pub remove_ending : OneEnding (Removable store used k) {I = ℕ × ℕ} (λ p. RemoveGround store used k p.0 p.1)
  remove_ending = ending (said (shelf_remove store used k)) (λ a. ap (λ (o : Stored). o.answer.refusal) (remove_done a)) remove_on remove_ends

  -- any two outcomes that satisfy the contract coincide
  pub remove_outcome : OneOutcome (shelf_remove store used k) (ChangeEnds store used key_refusals)
  remove_outcome = one_outcome (shelf_remove store used k) (go remove_ends)
    where
      listed : (r place : ℕ) → RemoveGround store used k r place → Among r key_refusals
      listed r place (RemoveGround.no_shelf n e p) = rw e (among_by 21 key_refusals refl)
      listed r place (RemoveGround.absent b h z e p) = rw e (among_by 17 key_refusals refl)

      go : Ending (Removable store used k) {I = ℕ × ℕ} (λ p. RemoveGround store used k p.0 p.1) → ChangeEnds store used key_refusals (shelf_remove store used k)
      go (Ending.answered a) =
          let w = a.keeps in
          let i = w.within in
          rw (remove_done a) (keeping_ends store used key_refusals (without k a.book) (omega (arith, weight_without k a.book, used_weight w)))
      go (grounded p g) = rw (remove_unmoved p.0 p.1 g) (ChangeEnds.refusal (listed p.0 p.1 g) refl refl)

  -- the place of every removal is 0
  pub remove_placeless : (shelf_remove store used k).answer.place ≡ 0
  remove_placeless = go remove_ends
    where
      none : (r place : ℕ) → RemoveGround store used k r place → place ≡ 0
      none r place (RemoveGround.no_shelf n e p) = p
      none r place (RemoveGround.absent b h z e p) = p

      go : Ending (Removable store used k) {I = ℕ × ℕ} (λ p. RemoveGround store used k p.0 p.1) → (shelf_remove store used k).answer.place ≡ 0
      go (Ending.answered a) = ap (λ (o : Stored). o.answer.place) (remove_done a)
      go (grounded p g) = ap (λ (o : Stored). o.answer.place) (remove_unmoved p.0 p.1 g) ∙ none p.0 p.1 g

-- ---- a lookup

module _ (yard : Seen) (yard_used : ℕ) (standard : Seen) (standard_used : ℕ) (k : Key) (ok_yard : Bytes yard.bytes) (ok_standard : Bytes standard.bytes) where
  abbrev looked : Looked
  looked = shelf_lookup yard yard_used standard standard_used k

  abbrev Grounds : ℕ × ℕ → Type 0
  Grounds p = LookGround yard.bytes yard_used standard.bytes standard_used k p.0 p.1

  both : (b c : List Kept) → Keeps yard.bytes yard_used b → Keeps standard.bytes standard_used c
      → looked ≡ handed (lookup k b) yard (offset_of k b) (handed (lookup k c) standard (offset_of k c) (no_part 17 yard))
  unfolding shelf_lookup
  both b c h i = ap₂ (look_in k yard standard) (keeps_read h) (keeps_read i)

  -- "A refused lookup hands back an empty part"
  pub look_empty : (r place : ℕ) → LookGround yard.bytes yard_used standard.bytes standard_used k r place → shelf_lookup yard yard_used standard standard_used k ≡ no_part r yard
  unfolding shelf_lookup
  look_empty r place (LookGround.no_yard n e p) =
      ap (λ (o : Option (List Kept)). look_in k yard standard o (book_of standard.bytes standard_used)) (none_read yard.bytes yard_used ok_yard n) ∙ rw e
  look_empty r place (LookGround.no_standard n e p) =
      ap (look_in k yard standard (book_of yard.bytes yard_used)) (none_read standard.bytes standard_used ok_standard n) ∙ none_standard (book_of yard.bytes yard_used) ∙ rw e
    where
      none_standard : (o : Option (List Kept)) → look_in k yard standard o none ≡ no_part 21 yard
      none_standard none = refl
      none_standard (some b) = refl
  look_empty r place (LookGround.absent b c h i x y e p) =
      both b c h i ∙ ap₂ (λ (o q : Option (List ℕ)). handed o yard (offset_of k b) (handed q standard (offset_of k c) (no_part 17 yard))) x y ∙ rw e

  look_done : Findable yard.bytes yard_used standard.bytes standard_used k → looked.refusal ≡ 0
  look_done a = ap (λ (o : Looked). o.refusal) (both a.yard_book a.standard_book a.yard_keeps a.standard_keeps) ∙ go (lookup k a.yard_book) (lookup k a.standard_book) a.kept
    where
      go : (o q : Option (List ℕ)) → (found o || found q) ≡ true → (handed o yard (offset_of k a.yard_book) (handed q standard (offset_of k a.standard_book) (no_part 17 yard))).refusal ≡ 0
      go (some s) q e = refl
      go none (some s) e = refl
      go none none e = contrary e refl

  look_on : (r place : ℕ) → LookGround yard.bytes yard_used standard.bytes standard_used k r place → Refuses (looked.refusal, 0) r place
  look_on r place g = (ap₂ (λ (x y : ℕ). (x, y)) (ap (λ (o : Looked). o.refusal) (look_empty r place g)) (sym (placed g)), positive g)
    where
      placed : LookGround yard.bytes yard_used standard.bytes standard_used k r place → place ≡ 0
      placed (LookGround.no_yard n e p) = p
      placed (LookGround.no_standard n e p) = p
      placed (LookGround.absent b c h i x y e p) = p

      positive : LookGround yard.bytes yard_used standard.bytes standard_used k r place → 1 ≤ r
      positive (LookGround.no_yard n e p) = omega arith
      positive (LookGround.no_standard n e p) = omega arith
      positive (LookGround.absent b c h i x y e p) = omega arith

  look_ends : Ending (Findable yard.bytes yard_used standard.bytes standard_used k) {I = ℕ × ℕ} Grounds
  look_ends =
      shelf_or yard.bytes yard_used ok_yard
      (λ b h. shelf_or standard.bytes standard_used ok_standard (λ c i. look b c h i (lookup k b) (lookup k c) refl refl) (λ n. grounded (21, 0) (LookGround.no_standard n refl refl)))
      (λ n. grounded (21, 0) (LookGround.no_yard n refl refl))
    where
      look : (b c : List Kept) → Keeps yard.bytes yard_used b → Keeps standard.bytes standard_used c → (o q : Option (List ℕ)) → lookup k b ≡ o → lookup k c ≡ q
          → Ending (Findable yard.bytes yard_used standard.bytes standard_used k) {I = ℕ × ℕ} Grounds
      look b c h i none none e f = grounded (17, 0) (LookGround.absent b c h i e f refl refl)
      look b c h i none (some s) e f = Ending.answered (record { yard_book = b; standard_book = c; yard_keeps = h; standard_keeps = i; kept = ap₂ (λ (x y : Option (List ℕ)). found x || found y) e f })
      look b c h i (some s) q e f = Ending.answered (record { yard_book = b; standard_book = c; yard_keeps = h; standard_keeps = i; kept = ap (λ (x : Option (List ℕ)). found x || found (lookup k c)) e })

  -- refused with r exactly on the ground, with the place 0
  pub look_refused : (r place : ℕ) → Refuses ((shelf_lookup yard yard_used standard standard_used k).refusal, 0) r place ↔ LookGround yard.bytes yard_used standard.bytes standard_used k r place
  look_refused = refuses (looked.refusal, 0) look_done look_on look_ends

  pub look_ending : OneEnding (Findable yard.bytes yard_used standard.bytes standard_used k) {I = ℕ × ℕ} (λ p. LookGround yard.bytes yard_used standard.bytes standard_used k p.0 p.1)
  look_ending = ending (looked.refusal, 0) look_done look_on look_ends

  -- a sheet that is found lies in its store
  sheet_inside : {store : List ℕ} {used : ℕ} {b : List Kept} → Keeps store used b → (s : List ℕ) → lookup k b ≡ some s → offset_of k b + length s ≤ length store
  sheet_inside {b = b} w s e = let i = w.within in omega (arith, offset_inside k b s e, used_weight w)

  -- any two outcomes that satisfy the contract coincide
  pub look_outcome : OneOutcome (shelf_lookup yard yard_used standard standard_used k) (LookEnds yard standard)
  look_outcome = one_outcome looked (go look_ends)
    where
      listed : (r place : ℕ) → LookGround yard.bytes yard_used standard.bytes standard_used k r place → Among r key_refusals
      listed r place (LookGround.no_yard n e p) = rw e (among_by 21 key_refusals refl)
      listed r place (LookGround.no_standard n e p) = rw e (among_by 21 key_refusals refl)
      listed r place (LookGround.absent b c h i x y e p) = rw e (among_by 17 key_refusals refl)

      part : (b c : List Kept) → Keeps yard.bytes yard_used b → Keeps standard.bytes standard_used c → (o q : Option (List ℕ)) → lookup k b ≡ o → lookup k c ≡ q
          → LookEnds yard standard (handed o yard (offset_of k b) (handed q standard (offset_of k c) (no_part 17 yard)))
      part b c h i (some s) q e f = LookEnds.in_yard (offset_of k b) (length s) refl refl (sheet_inside h s e)
      part b c h i none (some s) e f = LookEnds.in_standard (offset_of k c) (length s) refl refl (sheet_inside i s f)
      part b c h i none none e f = LookEnds.refusal (among_by 17 key_refusals refl) refl

      go : Ending (Findable yard.bytes yard_used standard.bytes standard_used k) {I = ℕ × ℕ} Grounds → LookEnds yard standard looked
      go (Ending.answered a) =
          rw (both a.yard_book a.standard_book a.yard_keeps a.standard_keeps)
          (part a.yard_book a.standard_book a.yard_keeps a.standard_keeps (lookup k a.yard_book) (lookup k a.standard_book) refl refl)
      go (grounded p g) = rw (look_empty p.0 p.1 g) (LookEnds.refusal (listed p.0 p.1 g) refl)
