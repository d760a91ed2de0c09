-- The ground of each refusal of the shelf, with its place, said of the stores, the sheet and the key; and what a caller may rely on. No call is run.
use Rattle.std.specs.Prelude.{◌≡◌, true, ◌||◌, List, [], ◌∷◌, ◌++◌, ℕ, ◌+◌, ◌≤◌, ◌<◌, length}
use Rattle.std.proofs.Math.Option.{none}
use Rattle.kinds.specs.declared.Item.{Item}
use Rattle.format.specs.Grounds.{Among}
use Rattle.grammar.specs.segment.Grounds.{sheet_refusals}
use Rattle.speed_question.specs.Question.{Brought}
use Rattle.shelf.specs.declared.Key.{Key}
use Rattle.shelf.specs.Book.{Kept, lookup, without, found, weight}
use Rattle.shelf.specs.Shelf.{key_of, Stored, Seen, part_of, Looked}
use Rattle.shelf.specs.Keeps.{Keeps}
use Rattle.promises.specs.Promised.{SegmentValues, segment_of, SegmentOfValues}
use Rattle.promises.specs.Refused.{SegmentGround}

-- a kept sheet in words of the demands: it "keeps the published widths and ranges and the stated rules", and its key is "NID_C, NID_SP and version" among its numbers
pub record KeptSheet (e : Kept) : Type 0 where
  pub values : List Item
  pub good : SegmentValues Brought.sheet values
  pub whole : e.sheet ≡ segment_of Brought.sheet values
  pub key : key_of values ≡ e.key

-- the store is no shelf: it keeps no book
abbrev pub NoShelf : List ℕ → ℕ → Type 0
NoShelf store used = (b : List Kept) → Keeps store used b → ⊥

-- ---- an addition

-- the grounds of a refused addition, in the order in which they are judged
pub data AddGround (store : List ℕ) (used : ℕ) (sheet : List ℕ) (r place : ℕ) : Type 0 where
  -- "21, first"
  no_shelf : NoShelf store used → r ≡ 21 → place ≡ 0 → AddGround store used sheet r place
  -- "then the sheet's own"
  own : (b : List Kept) → Keeps store used b → SegmentGround Brought.sheet sheet r place → AddGround store used sheet r place
  -- "exactly when the kept sheets, without the replaced one, plus the new sheet and four bytes for each, exceed the store"
  no_room : (b : List Kept) → Keeps store used b → (w : SegmentOfValues Brought.sheet sheet) → length store < 4 + length sheet + weight (without (key_of w.values) b) → r ≡ 8 → place ≡ 0
      → AddGround store used sheet r place

-- the store is a shelf, the sheet one of good values, and there is room
pub record Addable (store : List ℕ) (used : ℕ) (sheet : List ℕ) : Type 0 where
  pub book : List Kept
  pub keeps : Keeps store used book
  pub good : SegmentOfValues Brought.sheet sheet
  pub room : 4 + length sheet + weight (without (key_of good.values) book) ≤ length store

-- the refusals of an addition: 21, a sheet's and 8
abbrev pub add_refusals : List ℕ
add_refusals = 21 ∷ sheet_refusals ++ 8 ∷ []

-- ---- a removal

-- the grounds of a refused removal
pub data RemoveGround (store : List ℕ) (used : ℕ) (k : Key) (r place : ℕ) : Type 0 where
  no_shelf : NoShelf store used → r ≡ 21 → place ≡ 0 → RemoveGround store used k r place
  -- "17 exactly when no sheet with the key is kept"
  absent : (b : List Kept) → Keeps store used b → lookup k b ≡ none → r ≡ 17 → place ≡ 0 → RemoveGround store used k r place

-- the store is a shelf that keeps a sheet with the key
pub record Removable (store : List ℕ) (used : ℕ) (k : Key) : Type 0 where
  pub book : List Kept
  pub keeps : Keeps store used book
  pub kept : found (lookup k book) ≡ true

-- the refusals of a removal, and of a lookup: 21 and 17
abbrev pub key_refusals : List ℕ
key_refusals = 21 ∷ 17 ∷ []

-- what a caller may rely on: the store has the bytes that it had, and the used part lies in it; "nothing moved" on a refusal, and the used bytes as they were
pub data ChangeEnds (store : List ℕ) (used : ℕ) (refusals : List ℕ) (o : Stored) : Type 0 where
  success : o.answer.refusal ≡ 0 → o.answer.place ≡ 0 → length o.store ≡ length store → o.answer.used ≤ length store → ChangeEnds store used refusals o
  refusal : Among o.answer.refusal refusals → o.answer.used ≡ used → o.store ≡ store → ChangeEnds store used refusals o

-- ---- a lookup

-- the grounds of a refused lookup
pub data LookGround (yard : List ℕ) (yard_used : ℕ) (standard : List ℕ) (standard_used : ℕ) (k : Key) (r place : ℕ) : Type 0 where
  -- both stores are judged
  no_yard : NoShelf yard yard_used → r ≡ 21 → place ≡ 0 → LookGround yard yard_used standard standard_used k r place
  no_standard : NoShelf standard standard_used → r ≡ 21 → place ≡ 0 → LookGround yard yard_used standard standard_used k r place
  -- "17 exactly when no sheet with the key is kept in the stores asked"
  absent : (b c : List Kept) → Keeps yard yard_used b → Keeps standard standard_used c → lookup k b ≡ none → lookup k c ≡ none → r ≡ 17 → place ≡ 0
      → LookGround yard yard_used standard standard_used k r place

-- both stores are shelves, and one keeps a sheet with the key
pub record Findable (yard : List ℕ) (yard_used : ℕ) (standard : List ℕ) (standard_used : ℕ) (k : Key) : Type 0 where
  pub yard_book : List Kept
  pub standard_book : List Kept
  pub yard_keeps : Keeps yard yard_used yard_book
  pub standard_keeps : Keeps standard standard_used standard_book
  pub kept : (found (lookup k yard_book) || found (lookup k standard_book)) ≡ true

-- what a caller may rely on: "that part of whichever store holds it", or "an empty part", of the yard's store
pub data LookEnds (yard standard : Seen) (o : Looked) : Type 0 where
  in_yard : (a n : ℕ) → o.refusal ≡ 0 → o.part ≡ part_of yard a n → a + n ≤ length yard.bytes → LookEnds yard standard o
  in_standard : (a n : ℕ) → o.refusal ≡ 0 → o.part ≡ part_of standard a n → a + n ≤ length standard.bytes → LookEnds yard standard o
  refusal : Among o.refusal key_refusals → o.part ≡ part_of yard 0 0 → LookEnds yard standard o
