-- Bytes moved within a store, and an entry written into it. Used by contracts of the code; no promise names these.
use Rattle.std.specs.Prelude.{◌≡◌, List, ◌++◌, ℕ, ◌+◌, ◌≤◌, length, take, drop, Option, Result, Ok, Err}
use Rattle.kinds.specs.declared.refusals.Refusal.{Refusal}
use Rattle.kinds.specs.Refusals.{refusal_number}
use Rattle.shelf.specs.declared.Key.{Key}
use Rattle.shelf.specs.declared.Shelved.{Shelved}
use Rattle.shelf.specs.declared.run.Place.{Place}
use Rattle.shelf.specs.Book.{placed_in}
use Rattle.shelf.specs.Shelf.{length_bytes, kept_bytes, book_of}
use Rattle.shelf.specs.internal.Scanning.{InRange, AcceptedSheet, accepted_key, Runs, kept_in, scanned}

-- s with the bytes x from its byte at on
abbrev pub written : ℕ → List ℕ → List ℕ → List ℕ
written at x s = take at s ++ (x ++ drop (at + length x) s)

-- n bytes of s moved from the byte from to the byte to
abbrev pub moved : ℕ → ℕ → ℕ → List ℕ → List ℕ
moved to from n s = take to s ++ (take n (drop from s) ++ drop (to + n) s)

-- the entry of a sheet written at the byte at
abbrev pub entry_put : ℕ → List ℕ → List ℕ → List ℕ
entry_put at sheet s = written at (length_bytes (length sheet) ++ sheet) s

-- ---- the answer to a change

-- the used bytes; or a refusal, and the used bytes as they were
abbrev pub answer_of : Result ℕ Refusal → ℕ → Shelved
answer_of (Ok n) used = record { refusal = 0; place = 0; used = n }
answer_of (Err r) used = record { refusal = refusal_number r; place = 0; used = used }

-- ---- an addition

-- the first rest bytes are a run, and the sheet's entry has room after them
pub record Insertable (s : List ℕ) (rest : ℕ) (k : Key) (sheet : List ℕ) : Type 0 where
  pub run : Runs (take rest s)
  pub key : InRange k
  pub room : rest + (4 + length sheet) ≤ length s
  pub small : length s ≤ 65536

-- the run with the sheet before the first with a greater key, and the bytes past it as they were
abbrev pub inserted : ℕ → Key → List ℕ → List ℕ → List ℕ
inserted rest k sheet s = kept_bytes (placed_in (record { key = k; sheet = sheet }) (kept_in (take rest s))) ++ drop (rest + (4 + length sheet)) s

-- an accepted sheet with the key k, and what the judgement of the store found of that key
pub record Placed (s : List ℕ) (used : ℕ) (old : Option Place) (k : Key) (sheet : List ℕ) : Type 0 where
  pub found : scanned k (book_of s used) ≡ Ok old
  pub accepts : AcceptedSheet sheet
  pub key : k ≡ accepted_key sheet
