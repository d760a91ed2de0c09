-- A plain map from keys to sheets: the kept sheets in their order, each under its key, and the bytes that they take.
use Rattle.std.specs.Prelude.{Bool, true, false, cond, ◌&&◌, not, List, [], ◌∷◌, ℕ, ◌+◌, ◌*◌, eqb, ltb, length}
use Rattle.std.proofs.Math.Option.{Option, none, some}
use Rattle.shelf.specs.declared.Key.{Key}

-- ---- keys

-- "found by NID_C, NID_SP and version"
abbrev pub same_key : Key → Key → Bool
same_key j k = eqb j.nid_c k.nid_c && (eqb j.nid_sp k.nid_sp && (eqb j.major k.major && eqb j.minor k.minor))

-- "NID_C 10, NID_SP 32, version 8 + 8" as one number of 58 bits, one for each key that a sheet can have
abbrev pub key_number : Key → ℕ
key_number k = ((k.nid_c * 4294967296 + k.nid_sp) * 256 + k.major) * 256 + k.minor

-- the order of keys: NID_C, NID_SP, major, minor
abbrev pub below : Key → Key → Bool
below j k = ltb (key_number j) (key_number k)

-- ---- the map

-- a kept sheet, under its key
pub record Kept : Type 0 where
  pub key : Key
  pub sheet : List ℕ

-- the sheet under a key
abbrev pub lookup : Key → List Kept → Option (List ℕ)
lookup k [] = none
lookup k (e ∷ b) = cond (same_key e.key k) (some e.sheet) (lookup k b)

-- "removing frees": the kept sheets without a key
abbrev pub without : Key → List Kept → List Kept
without k [] = []
without k (e ∷ b) = cond (same_key e.key k) (without k b) (e ∷ without k b)

-- a sheet before the first with a greater key
abbrev pub placed_in : Kept → List Kept → List Kept
placed_in n [] = n ∷ []
placed_in n (e ∷ b) = cond (below n.key e.key) (n ∷ e ∷ b) (e ∷ placed_in n b)

-- "Adding the same key replaces"
abbrev pub put : Kept → List Kept → List Kept
put n b = placed_in n (without n.key b)

-- whether there is a sheet
abbrev pub found : Option (List ℕ) → Bool
found none = false
found (some s) = true

-- "with different keys"
abbrev pub different : List Kept → Bool
different [] = true
different (e ∷ b) = not (found (lookup e.key b)) && different b

-- whether each key is above the one before it, as in a store that only these calls changed
abbrev pub rising : List Kept → Bool
rising [] = true
rising (e ∷ []) = true
rising (e ∷ f ∷ b) = below e.key f.key && rising (f ∷ b)

-- "the kept sheets .. and four bytes for each"
abbrev pub weight : List Kept → ℕ
weight [] = 0
weight (e ∷ b) = 4 + length e.sheet + weight b

-- P holds of each kept sheet
abbrev pub Each : (Kept → Type 0) → List Kept → Type 0
Each P [] = Unit {0}
Each P (e ∷ b) = P e × Each P b
