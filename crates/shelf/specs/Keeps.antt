-- What a store keeps, as a statement on its bytes: the grounds of refusals are said with it.
use Rattle.std.specs.Prelude.{◌≡◌, true, List, ℕ, ◌≤◌, length, take}
use Rattle.std.proofs.Math.Option.{some}
use Rattle.shelf.specs.Book.{Kept, different, Each}
use Rattle.shelf.specs.Shelf.{kept_bytes, sheet_key}

-- an accepted sheet, under its own key
abbrev pub Good : Kept → Type 0
Good e = sheet_key e.sheet ≡ some e.key

-- "a lent store of at most 65,536 bytes" whose used part is "a run of accepted sheets with different keys"
pub record Keeps (store : List ℕ) (used : ℕ) (b : List Kept) : Type 0 where
  pub small : length store ≤ 65536
  pub within : used ≤ length store
  pub good : Each Good b
  pub apart : different b ≡ true
  pub front : take used store ≡ kept_bytes b
