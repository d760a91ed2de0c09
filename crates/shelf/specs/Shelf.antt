-- The shelf in a lent store: what the used part keeps, and what each call answers and leaves, over every byte of the store.
use Rattle.std.specs.Prelude.{cond, ◌&&◌, List, [], ◌∷◌, ◌++◌, ℕ, zero, suc, ◌+◌, ◌*◌, ◌/◌, ◌%◌, ltb, leb, length, take, drop, get_or}
use Rattle.std.proofs.Math.Option.{Option, none, some}
use Rattle.std.specs.Borrow.{Bor}
use Rattle.kinds.specs.declared.Item.{Item}
use Rattle.format.specs.Format.{Read, accepted, refused, sheet_numbers}
use Rattle.grammar.specs.segment.Segment.{wire_changes}
use Rattle.grammar.specs.segment.Judgement.{from_sheet}
use Rattle.shelf.specs.declared.Key.{Key}
use Rattle.shelf.specs.declared.Shelved.{Shelved}
use Rattle.shelf.specs.Book.{same_key, Kept, lookup, without, put, found, different, weight}

-- ---- the used part

-- the four bytes of a length, most significant first
abbrev pub length_bytes : ℕ → List ℕ
length_bytes n = n / 256 / 256 / 256 % 256 ∷ n / 256 / 256 % 256 ∷ n / 256 % 256 ∷ n % 256 ∷ []

-- the bytes that keep a book, with nothing between its sheets: of each sheet its length, "four bytes for each", and its bytes as they were given
abbrev pub kept_bytes : List Kept → List ℕ
kept_bytes [] = []
kept_bytes (e ∷ b) = length_bytes (length e.sheet) ++ (e.sheet ++ kept_bytes b)

-- "NID_C, NID_SP and version" among a sheet's numbers
abbrev pub key_of : List Item → Key
key_of l = let s : List ℕ = sheet_numbers l in record { nid_c = get_or s 6 0; nid_sp = get_or s 7 0; major = get_or s 8 0; minor = get_or s 9 0 }

-- the key of a sheet that was read, if it is accepted
abbrev pub key_read : Read → Option Key
key_read (accepted l) = some (key_of l)
key_read (refused r place) = none

-- the key of a segment's sheet, if it is accepted
unfoldable pub sheet_key : List ℕ → Option Key
sheet_key s = key_read (from_sheet wire_changes s)

-- the length that the first four bytes spell
abbrev pub length_in : List ℕ → ℕ
length_in s = ((get_or s 0 0 * 256 + get_or s 1 0) * 256 + get_or s 2 0) * 256 + get_or s 3 0

-- the first sheet of some bytes
abbrev pub front_sheet : List ℕ → List ℕ
front_sheet s = take (length_in s) (drop 4 s)

-- the bytes after the first sheet
abbrev pub after_front : List ℕ → List ℕ
after_front s = drop (length_in s) (drop 4 s)

-- a sheet under its key before others; none if it has no key, or the others are none
abbrev pub onto : Option Key → List ℕ → Option (List Kept) → Option (List Kept)
onto none s b = none
onto (some k) s none = none
onto (some k) s (some b) = some (record { key = k; sheet = s } ∷ b)

-- no sheet if no byte is left
abbrev pub unless_over : List ℕ → Option (List Kept) → Option (List Kept)
unless_over [] more = some []
unless_over (a ∷ s) more = more

-- "a run of accepted sheets", of at most n
unfoldable pub sheets_in : ℕ → List ℕ → Option (List Kept)
sheets_in zero s = unless_over s none
sheets_in (suc n) s = unless_over s (cond (ltb (length s) (4 + length_in s)) none (onto (sheet_key (front_sheet s)) (front_sheet s) (sheets_in n (after_front s))))

-- "with different keys"
abbrev pub distinct : Option (List Kept) → Option (List Kept)
distinct none = none
distinct (some b) = cond (different b) (some b) none

-- what a store keeps; none for "a store over 65,536 bytes or whose used part is not a run of accepted sheets with different keys", or that has fewer bytes than are used
abbrev pub book_of : List ℕ → ℕ → Option (List Kept)
book_of store used = cond (leb (length store) 65536 && leb used (length store)) (distinct (sheets_in used (take used store))) none

-- ---- changes

-- an answer, and all bytes of the store
pub record Stored : Type 0 where
  pub answer : Shelved
  pub store : List ℕ

-- a refusal: "nothing moved", and the used bytes as they were
abbrev pub unmoved : ℕ → ℕ → ℕ → List ℕ → Stored
unmoved r place used store = record { answer = record { refusal = r; place = place; used = used }; store = store }

-- the store keeps a book, "with the bytes past it as they were"
abbrev pub keeping : List Kept → List ℕ → Stored
keeping b store = record { answer = record { refusal = 0; place = 0; used = weight b }; store = kept_bytes b ++ drop (weight b) store }

-- "8 for room, nothing moved"
abbrev pub fitted : ℕ → List ℕ → List Kept → Stored
fitted used store b = cond (ltb (length store) (weight b)) (unmoved 8 0 used store) (keeping b store)

-- "then the sheet's own"
abbrev pub add_read : ℕ → List ℕ → List ℕ → List Kept → Read → Stored
add_read used store sheet b (refused r place) = unmoved r place used store
add_read used store sheet b (accepted l) = fitted used store (put (record { key = key_of l; sheet = sheet }) b)

-- "Refusals: 21, first"
abbrev pub add_in : ℕ → List ℕ → List ℕ → Option (List Kept) → Stored
add_in used store sheet none = unmoved 21 0 used store
add_in used store sheet (some b) = add_read used store sheet b (from_sheet wire_changes sheet)

-- "Adding the same key replaces"
unfoldable pub shelf_add : List ℕ → ℕ → List ℕ → Stored
shelf_add store used sheet = add_in used store sheet (book_of store used)

-- "for lookup and removal, 17 exactly when no sheet with the key is kept in the stores asked"
abbrev pub remove_in : ℕ → List ℕ → Key → Option (List Kept) → Stored
remove_in used store k none = unmoved 21 0 used store
remove_in used store k (some b) = cond (found (lookup k b)) (keeping (without k b) store) (unmoved 17 0 used store)

-- "removing frees; freed room is used again"
unfoldable pub shelf_remove : List ℕ → ℕ → Key → Stored
shelf_remove store used k = remove_in used store k (book_of store used)

-- ---- lookup

-- what a slice is to its holder: the block and the offset at which it starts, and its bytes
pub record Seen : Type 0 where
  pub start : ℕ × ℕ
  pub bytes : List ℕ

-- a slice of the code as its holder sees it
abbrev pub seen : Bor (List ℕ) → Seen
seen r = record { start = r.ref_ptr; bytes = r.now }

-- n bytes of a slice, from its byte a on
abbrev pub part_of : Seen → ℕ → ℕ → Seen
part_of s a n = record { start = (s.start.0, a + s.start.1); bytes = take n (drop a s.bytes) }

-- the byte of the used part at which the sheet of a key starts
abbrev pub offset_of : Key → List Kept → ℕ
offset_of k [] = 0
offset_of k (e ∷ b) = cond (same_key e.key k) 4 (4 + length e.sheet + offset_of k b)

-- the refusal of a lookup, and the part that it hands back
pub record Looked : Type 0 where
  pub refusal : ℕ
  pub part : Seen

-- "A refused lookup hands back an empty part": of the yard's store
abbrev pub no_part : ℕ → Seen → Looked
no_part r yard = record { refusal = r; part = part_of yard 0 0 }

-- "hands back that part of whichever store holds it"
abbrev pub handed : Option (List ℕ) → Seen → ℕ → Looked → Looked
handed none store a other = other
handed (some s) store a other = record { refusal = 0; part = part_of store a (length s) }

-- "A lookup asks the yard's store first and the default store second"
abbrev pub look_in : Key → Seen → Seen → Option (List Kept) → Option (List Kept) → Looked
look_in k yard standard none c = no_part 21 yard
look_in k yard standard (some b) none = no_part 21 yard
look_in k yard standard (some b) (some c) = handed (lookup k b) yard (offset_of k b) (handed (lookup k c) standard (offset_of k c) (no_part 17 yard))

-- "A lookup asks the yard's store first and the default store second, and hands back that part of whichever store holds it", of any two stores
unfoldable pub shelf_lookup : Seen → ℕ → Seen → ℕ → Key → Looked
shelf_lookup yard yard_used standard standard_used k = look_in k yard standard (book_of yard.bytes yard_used) (book_of standard.bytes standard_used)
