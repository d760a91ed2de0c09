-- "From a fresh store, changed by these calls alone, it answers as a plain map over any calls": calls on two stores, and the same calls on two plain maps.
use Rattle.std.specs.Prelude.{◌≡◌, true, cond, List, [], ◌∷◌, ℕ, ltb}
use Rattle.std.proofs.Math.Option.{Option, none, some}
use Rattle.bits.specs.Bits.{Bytes}
use Rattle.format.specs.Format.{Read, accepted, refused}
use Rattle.grammar.specs.segment.Segment.{wire_changes}
use Rattle.grammar.specs.segment.Judgement.{from_sheet}
use Rattle.shelf.specs.declared.Key.{Key}
use Rattle.shelf.specs.Book.{Kept, lookup, without, put, found, rising, weight}
use Rattle.shelf.specs.Shelf.{key_of, Stored, shelf_add, shelf_remove, Seen, Looked, shelf_lookup}
use Rattle.shelf.specs.Keeps.{Keeps}

-- "the yard's store", "the default store"
pub data Side : Type 0 where
  yard : Side
  standard : Side

-- "over any calls": an addition to a store, a removal from it, or a lookup in both
pub data Call : Type 0 where
  add : Side → List ℕ → Call
  remove : Side → Key → Call
  look : Key → Call

-- what a call answers: a refusal and its place, the used bytes, and the bytes of the part that is handed back
pub record Answer : Type 0 where
  pub refusal : ℕ
  pub place : ℕ
  pub used : ℕ
  pub part : List ℕ

-- ---- on stores

-- a store, where it lies, and how many of its bytes are used
pub record Store : Type 0 where
  pub seen : Seen
  pub used : ℕ

-- "From a fresh store": no byte is used, whatever its bytes
abbrev pub fresh : Seen → Store
fresh s = record { seen = s; used = 0 }

-- the answer to an addition or a removal, which hands nothing back
abbrev pub change_answer : Stored → Answer
change_answer o = record { refusal = o.answer.refusal; place = o.answer.place; used = o.answer.used; part = [] }

-- the answer to a lookup, which says nothing of the used bytes
abbrev pub look_answer : Looked → Answer
look_answer o = record { refusal = o.refusal; place = 0; used = 0; part = o.part.bytes }

-- a store after a change: it lies where it lay
abbrev pub store_after : Store → Stored → Store
store_after st o = record { seen = record { start = st.seen.start; bytes = o.store }; used = o.answer.used }

-- a sheet added to a store
abbrev pub added : Store → List ℕ → Stored
added st sheet = shelf_add st.seen.bytes st.used sheet

-- a key removed from a store
abbrev pub removed : Store → Key → Stored
removed st k = shelf_remove st.seen.bytes st.used k

-- the answers to all calls
abbrev pub answers : Store → Store → List Call → List Answer
answers y s [] = []
answers y s (Call.add Side.yard sheet ∷ l) = let o : Stored = added y sheet in change_answer o ∷ answers (store_after y o) s l
answers y s (Call.add Side.standard sheet ∷ l) = let o : Stored = added s sheet in change_answer o ∷ answers y (store_after s o) l
answers y s (Call.remove Side.yard k ∷ l) = let o : Stored = removed y k in change_answer o ∷ answers (store_after y o) s l
answers y s (Call.remove Side.standard k ∷ l) = let o : Stored = removed s k in change_answer o ∷ answers y (store_after s o) l
answers y s (Call.look k ∷ l) = look_answer (shelf_lookup y.seen y.used s.seen s.used k) ∷ answers y s l

-- ---- on plain maps, of which each takes at most its room

-- a refusal, its place, and the map after the call
pub record Mapped : Type 0 where
  pub refusal : ℕ
  pub place : ℕ
  pub book : List Kept

-- "An addition is refused for room exactly when the kept sheets, without the replaced one, plus the new sheet and four bytes for each, exceed the store"
abbrev pub map_room : ℕ → List Kept → List Kept → Mapped
map_room room b n = cond (ltb room (weight n)) (record { refusal = 8; place = 0; book = b }) (record { refusal = 0; place = 0; book = n })

-- "Adding the same key replaces": a sheet that was read, added to a map; "then the sheet's own"
abbrev pub map_add : ℕ → List ℕ → List Kept → Read → Mapped
map_add room sheet b (refused r place) = record { refusal = r; place = place; book = b }
map_add room sheet b (accepted l) = map_room room b (put (record { key = key_of l; sheet = sheet }) b)

-- "17 exactly when no sheet with the key is kept"
abbrev pub map_remove : Key → List Kept → Mapped
map_remove k b = cond (found (lookup k b)) (record { refusal = 0; place = 0; book = without k b }) (record { refusal = 17; place = 0; book = b })

-- "asks the yard's store first and the default store second"
abbrev pub or_else : Option (List ℕ) → Option (List ℕ) → Option (List ℕ)
or_else none t = t
or_else (some s) t = some s

-- "A refused lookup hands back an empty part"
abbrev pub map_look : Option (List ℕ) → Answer
map_look none = record { refusal = 17; place = 0; used = 0; part = [] }
map_look (some s) = record { refusal = 0; place = 0; used = 0; part = s }

-- the answer of a map: its used bytes are what its sheets take
abbrev pub mapped_answer : Mapped → Answer
mapped_answer m = record { refusal = m.refusal; place = m.place; used = weight m.book; part = [] }

-- the answers of two maps, for which there is room for y and s bytes
abbrev pub map_answers : ℕ → ℕ → List Kept → List Kept → List Call → List Answer
map_answers y s b c [] = []
map_answers y s b c (Call.add Side.yard sheet ∷ l) = let m : Mapped = map_add y sheet b (from_sheet wire_changes sheet) in mapped_answer m ∷ map_answers y s m.book c l
map_answers y s b c (Call.add Side.standard sheet ∷ l) = let m : Mapped = map_add s sheet c (from_sheet wire_changes sheet) in mapped_answer m ∷ map_answers y s b m.book l
map_answers y s b c (Call.remove Side.yard k ∷ l) = let m : Mapped = map_remove k b in mapped_answer m ∷ map_answers y s m.book c l
map_answers y s b c (Call.remove Side.standard k ∷ l) = let m : Mapped = map_remove k c in mapped_answer m ∷ map_answers y s b m.book l
map_answers y s b c (Call.look k ∷ l) = map_look (or_else (lookup k b) (lookup k c)) ∷ map_answers y s b c l

-- ---- the stores after all calls

-- both stores after all calls
abbrev pub stores_after : Store → Store → List Call → Store × Store
stores_after y s [] = (y, s)
stores_after y s (Call.add Side.yard sheet ∷ l) = stores_after (store_after y (added y sheet)) s l
stores_after y s (Call.add Side.standard sheet ∷ l) = stores_after y (store_after s (added s sheet)) l
stores_after y s (Call.remove Side.yard k ∷ l) = stores_after (store_after y (removed y k)) s l
stores_after y s (Call.remove Side.standard k ∷ l) = stores_after y (store_after s (removed s k)) l
stores_after y s (Call.look k ∷ l) = stores_after y s l

-- the added sheets are bytes
abbrev pub BytesIn : List Call → Type 0
BytesIn [] = Unit {0}
BytesIn (Call.add side sheet ∷ l) = Bytes sheet × BytesIn l
BytesIn (Call.remove side k ∷ l) = BytesIn l
BytesIn (Call.look k ∷ l) = BytesIn l

-- a store that keeps its sheets with rising keys
pub record Rises (st : Store) : Type 0 where
  pub book : List Kept
  pub keeps : Keeps st.seen.bytes st.used book
  pub rises : rising book ≡ true
