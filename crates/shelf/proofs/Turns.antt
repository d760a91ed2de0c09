-- One turn of the judgement of a run, from what the code has read.
use mathlib.Core.Path.{◌≡◌, refl, sym, ap, ap₂, ◌∙◌}
use mathlib.Core.Bool.{true, false}
use mathlib.Core.List.{List}
use Prim.Native.Nat.{ℕ, ◌+◌, ◌-◌, ◌≤◌, ◌<◌}
use native.Mathlib.Omega.{arith}
use lib.ListN.{length, take, drop}
use lib.Seq.{length-take-le}
use Rattle.std.specs.Prelude.{Option as Perhaps, Some, Ok, Err}
use Rattle.bits.specs.Bits.{Bytes}
use Rattle.kinds.specs.declared.refusals.Refusal.{Refusal}
use Rattle.shelf.specs.declared.Key.{Key}
use Rattle.shelf.specs.declared.run.Place.{Place}
use Rattle.shelf.specs.Book.{same_key, key_number, Kept, lookup}
use Rattle.shelf.specs.Shelf.{length_in, front_sheet, sheets_in, distinct}
use Rattle.shelf.specs.internal.Scanning.{InRange, AcceptedSheet, accepted_key, kept_in, Runs, Stands, sheet_end, above_with, scanned}
use Rattle.shelf.proofs.Book.{contrary}
use Rattle.shelf.proofs.Reading.{run_kept, kept_run}
use Rattle.shelf.proofs.Scanning.{above_refusal, end_some, between, stands_range, Passing, passing_run, passing_repeated, passing_next}

-- an entry was judged in a run of which the entries before it were read: next is the byte after it
pub record Turn (u : List ℕ) (k : Key) (at above : ℕ) (old : Perhaps Place) (next : ℕ) : Type 0 where
  pub ok : Bytes u
  pub short : length u ≤ 65536
  pub passing : Passing u k at above old
  pub more : at < length u
  pub is : Ok next ≡ sheet_end u at

module _ {u : List ℕ} {k : Key} {at above : ℕ} {old : Perhaps Place} {next : ℕ} (t : Turn u k at above old next) where
  abbrev its : Key
  its = accepted_key (front_sheet (drop at u))

  abbrev p : Passing u k at above old
  p = t.passing

  taken_short : length (take at u) ≤ 65536
  taken_short = let h = t.short in omega (arith, length-take-le at u p.inside)

  -- the sheets before
  pub turn_runs : Runs (take at u)
  turn_runs = record { run = kept_run (take at u) p.book (passing_run u k p) taken_short; short = taken_short }

  turn_stands : Stands u at
  turn_stands = (end_some u at p.inside t.is).0

  pub turn_next : next ≡ at + 4 + length_in (drop at u)
  turn_next = (end_some u at p.inside t.is).1

  pub turn_inside : (at + 4 ≤ next) × (next ≤ length u)
  turn_inside = (omega (arith, turn_next), omega (arith, turn_next, turn_stands.inside))

  turn_sheet : take (next - (at + 4)) (drop (at + 4) u) ≡ front_sheet (drop at u)
  turn_sheet = between u at refl turn_next

  pub turn_accepts : AcceptedSheet (take (next - (at + 4)) (drop (at + 4) u))
  turn_accepts = rw turn_sheet turn_stands.accepts

  module _ {i : Key} (r : i ≡ accepted_key (take (next - (at + 4)) (drop (at + 4) u))) where
    turn_key : i ≡ its
    turn_key = r ∙ ap accepted_key turn_sheet

    pub turn_range : InRange i
    turn_range = rw turn_key (stands_range u at t.ok turn_stands)

    turn_above : above_with above (key_number i) (lookup i (kept_in (take at u))) ≡ above_with above (key_number its) (lookup its p.book)
    turn_above = ap₂ (λ (j : Key) (b : List Kept). above_with above (key_number j) (lookup j b)) turn_key (run_kept (take at u) p.book (passing_run u k p) taken_short)

    pub turn_repeated : {r : Refusal} → Err r ≡ above_with above (key_number i) (lookup i (kept_in (take at u))) → Err r ≡ scanned k (distinct (sheets_in (length u) u))
    turn_repeated a =
        let n = above_refusal above (key_number i) (lookup i (kept_in (take at u))) a in
        ap Err n ∙ passing_repeated u k p t.more turn_stands (sym (a ∙ turn_above) ∙ ap Err n)

    module _ {above' : ℕ} (a : Ok above' ≡ above_with above (key_number i) (lookup i (kept_in (take at u)))) where
      turn_over : (old' : Perhaps Place) → (same_key its k ≡ true → old' ≡ Some (record { start = at; size = 4 + length_in (drop at u) })) → (same_key its k ≡ false → old' ≡ old)
          → Passing u k next above' old'
      turn_over old' m o = rw turn_next (passing_next u k p t.more turn_stands t.ok (a ∙ turn_above) old' m o)

      pub turn_mine : same_key i k ≡ true → Passing u k next above' (Some (record { start = at; size = next - at }))
      turn_mine q =
          let n : next - at ≡ 4 + length_in (drop at u) = omega (arith, turn_next) in
          turn_over (Some (record { start = at; size = next - at })) (λ _ j. Some (record { start = at; size = n j })) (λ w. contrary (rw turn_key at q) w)

      pub turn_other : same_key i k ≡ false → Passing u k next above' old
      turn_other q = turn_over old (λ w. contrary w (rw turn_key at q)) (λ _. refl)
