-- A run of kept sheets as the code reads it: an entry, the entry of a key, and the place of a new one. Used by contracts of the code; no promise names these.
use Rattle.std.specs.Prelude.{◌≡◌, Bool, true, false, cond, List, [], ◌∷◌, ℕ, ◌+◌, ◌-◌, ◌≤◌, ◌<◌, ltb, leb, length, drop, Option as Perhaps, Some, None, Result, Ok, Err}
use Rattle.std.proofs.Math.Option.{Option, none, some}
use Rattle.kinds.specs.declared.refusals.Refusal.{Refusal}
use Rattle.kinds.specs.declared.refusals.Refusal.TheVariants.{NoShelf, NotKept}
use Rattle.format.specs.Format.{accepted, values_of}
use Rattle.grammar.specs.segment.Segment.{wire_changes}
use Rattle.grammar.specs.segment.Judgement.{from_sheet}
use Rattle.shelf.specs.declared.Key.{Key}
use Rattle.shelf.specs.declared.Found.{Found}
use Rattle.shelf.specs.declared.run.Entry.{Entry}
use Rattle.shelf.specs.declared.run.Place.{Place}
use Rattle.shelf.specs.Book.{same_key, key_number, Kept, found, Each}
use Rattle.shelf.specs.Keeps.{Good}
use Rattle.shelf.specs.Shelf.{kept_bytes, key_of, sheet_key, length_in, front_sheet, sheets_in, book_of}

-- a key that a sheet can have: each number is within its field
pub record InRange (k : Key) : Type 0 where
  pub country : k.nid_c < 1024
  pub segment : k.nid_sp < 4294967296
  pub first : k.major < 256
  pub second : k.minor < 256

-- the sheet s is accepted
abbrev pub AcceptedSheet : List ℕ → Type 0
AcceptedSheet s = from_sheet wire_changes s ≡ accepted (values_of (from_sheet wire_changes s))

-- the key of an accepted sheet
abbrev pub accepted_key : List ℕ → Key
accepted_key s = key_of (values_of (from_sheet wire_changes s))

-- the bytes are those that keep a book of accepted sheets
pub record Run (s : List ℕ) (b : List Kept) : Type 0 where
  pub good : Each Good b
  pub whole : s ≡ kept_bytes b

-- the book that some bytes keep, or an empty one
abbrev pub book_or : Option (List Kept) → List Kept
book_or none = []
book_or (some b) = b

-- the book that a run of bytes keeps
abbrev pub kept_in : List ℕ → List Kept
kept_in s = book_or (sheets_in (length s) s)

-- the bytes are a run of accepted sheets, of at most 65,536 bytes
pub record Runs (s : List ℕ) : Type 0 where
  pub run : Run s (kept_in s)
  pub short : length s ≤ 65536

-- ---- an entry

-- an entry with an accepted sheet stands at the byte at
pub record Stands (s : List ℕ) (at : ℕ) : Type 0 where
  pub inside : at + (4 + length_in (drop at s)) ≤ length s
  pub accepts : AcceptedSheet (front_sheet (drop at s))

-- that entry, with the byte after it
abbrev pub entry_at : List ℕ → ℕ → Entry
entry_at s at = record { key = accepted_key (front_sheet (drop at s)); next = at + 4 + length_in (drop at s) }

-- whether there is a key
abbrev pub has_key : Option Key → Bool
has_key none = false
has_key (some k) = true

-- the byte after the entry at the byte at, or 21 where none with an accepted sheet stands there
abbrev pub sheet_end : List ℕ → ℕ → Result ℕ Refusal
sheet_end s at =
    cond (ltb (length (drop at s)) (4 + length_in (drop at s))) (Err NoShelf) (cond (has_key (sheet_key (front_sheet (drop at s)))) (Ok (at + 4 + length_in (drop at s))) (Err NoShelf))

-- ---- a new key

-- the number above all keys with a new one, where above is above those before it; 21 if there is a sheet under that key
abbrev pub above_with : ℕ → ℕ → Option (List ℕ) → Result ℕ Refusal
above_with above n o = cond (leb above n) (Ok (n + 1)) (cond (found o) (Err NoShelf) (Ok above))

-- ---- the entry of a key

-- in a book whose first entry starts at the byte n
abbrev pub place_from : ℕ → Key → List Kept → Perhaps Place
place_from n k [] = None
place_from n k (e ∷ b) = cond (same_key e.key k) (Some (record { start = n; size = 4 + length e.sheet })) (place_from (n + (4 + length e.sheet)) k b)

-- how many bytes an entry has: 0 if there is none
abbrev pub size_of : Perhaps Place → ℕ
size_of None = 0
size_of (Some p) = p.size

-- what the judgement of a run or a store finds of a key
abbrev pub scanned : Key → Option (List Kept) → Result (Perhaps Place) Refusal
scanned k none = Err NoShelf
scanned k (some b) = Ok (place_from 0 k b)

-- whether there is a book
abbrev pub is_shelf : Option (List Kept) → Bool
is_shelf none = false
is_shelf (some b) = true

-- ---- the place of a new entry

-- where the first entry starts whose key's number is above m, or the end, in a book whose first entry starts at the byte n
abbrev pub gap_from : ℕ → ℕ → List Kept → ℕ
gap_from n m [] = n
gap_from n m (e ∷ b) = cond (ltb m (key_number e.key)) n (gap_from (n + (4 + length e.sheet)) m b)

-- the place of a new entry in a run
abbrev pub gap_in : ℕ → List Kept → ℕ
gap_in m b = gap_from 0 m b

-- ---- where a lookup finds its sheet

-- an entry, if there is one, has its length bytes and lies in a store
abbrev pub EntryIn : Perhaps Place → Type 0
EntryIn None = Unit {0}
EntryIn (Some p) = (4 ≤ p.size) × (p.start + p.size ≤ 65536)

-- the sheet of an entry, in the yard's store or in the default one
abbrev pub found_at : Bool → Place → Found
found_at standard p = record { standard = standard; start = p.start + 4; count = p.size - 4 }

-- "the yard's store first and the default store second"
abbrev pub either_of : Perhaps Place → Perhaps Place → Result Found Refusal
either_of (Some p) q = Ok (found_at false p)
either_of None (Some q) = Ok (found_at true q)
either_of None None = Err NotKept

-- what a lookup finds, from what the judgements of both stores have found
abbrev pub found_in : Result (Perhaps Place) Refusal → Result (Perhaps Place) Refusal → Result Found Refusal
found_in (Err r) q = Err r
found_in (Ok o) (Err r) = Err r
found_in (Ok o) (Ok p) = either_of o p

-- what a lookup finds in two stores
abbrev pub found_of : List ℕ → ℕ → List ℕ → ℕ → Key → Result Found Refusal
found_of yard yard_used standard standard_used k = found_in (scanned k (book_of yard yard_used)) (scanned k (book_of standard standard_used))
