-- The steps of the intake over plain values: a delivery, the completion, and the question for the sheet.
use mathlib.Core.Path.{◌≡◌, refl}
use mathlib.Core.Bool.{true, false, and-false}
use mathlib.Core.List.{List, [], ◌++◌, append-nil}
use Prim.Native.Nat.{ℕ, ◌+◌, ◌-◌, ◌≤◌, ◌<◌}
use native.Mathlib.Nat.{le_refl, le_of_eq}
use native.Mathlib.Omega.{arith}
use borrow.Author.Tests.{le-leb, lt-leb, ne_eqb}
use lib.Dec.{eqb, leb}
use lib.ListN.{length, length-drop, take, drop, drop_of_length-le}
use lib.Seq.{take_all, drop-drop}
use borrow.Rule.Slice.PartMut.{put_mid, mid_of}
use Rattle.format.specs.Format.{Read, accepted, refused}
use Rattle.format.specs.Media.{sheet}
use Rattle.grammar.specs.segment.Frame.{packet_number}
use Rattle.grammar.specs.link.Link.{tree_of, from_either_packet}
use Rattle.grammar.specs.internal.link.Trees.{tree_sheet_fields}
use Rattle.verdict.specs.internal.Verdict.{Verdict, verdict_of, size_from, packet_verdict}
use Rattle.convert.specs.declared.Converted.{Converted}
use Rattle.convert.specs.Convert.{Outcome, packet_to_sheet}
use Rattle.intake.specs.declared.Intake.{Intake}
use Rattle.intake.specs.Intake.{gathering, passed, judged_as, gathered, Delivered, gathers_at, delivered, judged_of, completed, is_verdict, judged_sheet, asked}

-- ---- a delivery that is written after n bytes

module _ (n : ℕ) (d room : List ℕ) {i : Intake} where
  pub put_past : length room < n + length d → i ≡ passed → ◌≡◌ {A = Delivered} (record { intake = i; room = room }) (gathers_at n d room)
  put_past h e = rw (lt-leb (n + length d) (length room) h, e)

  pub put_uncounted : 4294967295 < n + length d → i ≡ passed → ◌≡◌ {A = Delivered} (record { intake = i; room = room }) (gathers_at n d room)
  put_uncounted h e = rw (lt-leb (n + length d) 4294967295 h, and-false (leb (n + length d) (length room)), e)

  pub put_held : n + length d ≤ length room → n + length d ≤ 4294967295 → i ≡ gathering (n + length d) → {end : List ℕ} → end ≡ take n room ++ (d ++ drop (n + length d) room)
      → ◌≡◌ {A = Delivered} (record { intake = i; room = end }) (gathers_at n d room)
  put_held h l e q = rw (le-leb (n + length d) (length room) h, le-leb (n + length d) 4294967295 l, e, q)

-- the room after a delivery was copied into its rest, from the byte n on
pub copied_in : (n : ℕ) (d room end : List ℕ) → n + length d ≤ length room → end ≡ take (length d) d ++ drop (length d) (mid_of n (length room - n) room)
    → put_mid n (length room - n) room end ≡ take n room ++ (d ++ drop (n + length d) room)
copied_in n d room end h e =
    let gone : drop (length room - n) (drop n room) ≡ [] = drop_of_length-le (drop n room) (le_of_eq (length-drop n room)) in
    let rest : mid_of n (length room - n) room ≡ drop n room = take_all (length room - n) (drop n room) (le_of_eq (length-drop n room)) in
    let all : take (length d) d ≡ d = take_all (length d) d (le_refl _) in
    rw (e, gone, rest, all, drop-drop (length d) n room, append-nil (d ++ drop (n + length d) room))

-- the room after a delivery filled the part of it that begins at the byte n and has as many bytes
pub filled_in : (n k : ℕ) (d room end : List ℕ) → k ≡ length d → end ≡ d → put_mid n k room end ≡ take n room ++ (d ++ drop (n + length d) room)
filled_in n k d room end l e = rw (e, l, drop-drop (length d) n room)

-- ---- a delivery

module _ (i : Intake) (d room : List ℕ) where
  pub none_delivered : length d ≡ 0 → ◌≡◌ {A = Delivered} (record { intake = i; room = room }) (delivered i d room)
  unfolding delivered
  none_delivered e = rw e

  module _ (some : length d ≡ 0 → ⊥) where
    pub past_delivered : i.phase ≡ 1 → {j : Intake} → j ≡ passed → ◌≡◌ {A = Delivered} (record { intake = j; room = room }) (delivered i d room)
    unfolding delivered
    past_delivered e q = rw (ne_eqb (length d) 0 some, e, q)

    pub put_delivered : (i.phase ≡ 1 → ⊥) → {n : ℕ} → n ≡ gathered i → {r : Delivered} → r ≡ gathers_at n d room → r ≡ delivered i d room
    unfolding delivered
    put_delivered e q g = rw (ne_eqb (length d) 0 some, ne_eqb i.phase 1 e, ← q) g

-- ---- the completion

-- the state with the verdict follows from the judge's verdict
module _ (n : ℕ) (s : List ℕ) where
  abbrev said : Read → Verdict
  said q = verdict_of Verdict.sized Verdict.refused (size_from sheet (tree_sheet_fields (tree_of (packet_number s))) 0) q

  refusing : {r place : ℕ} (q : Read) → Verdict.refused r place ≡ said q → judged_as n r place ≡ judged_of n q
  refusing {r} {place} (refused a b) e = let f : r ≡ a = cc in let g : place ≡ b = cc in rw (f, g)
  refusing (accepted l) e = absurd (let z : ◌≡◌ {A = ℕ} 0 1 = cc in omega arith)

  accepting : {m : ℕ} (q : Read) → Verdict.sized m ≡ said q → judged_as n 0 0 ≡ judged_of n q
  accepting (refused a b) e = absurd (let z : ◌≡◌ {A = ℕ} 0 1 = cc in omega arith)
  accepting (accepted l) e = refl

  pub refused_judged : {r place : ℕ} → Verdict.refused r place ≡ packet_verdict (tree_of (packet_number s)) s → judged_as n r place ≡ judged_of n (from_either_packet s)
  unfolding packet_verdict from_either_packet
  refused_judged e = refusing (from_either_packet s) e

  pub accepted_judged : {m : ℕ} → Verdict.sized m ≡ packet_verdict (tree_of (packet_number s)) s → judged_as n 0 0 ≡ judged_of n (from_either_packet s)
  unfolding packet_verdict from_either_packet
  accepted_judged e = accepting (from_either_packet s) e

module _ (i : Intake) (room : List ℕ) where
  pub past_completed : i.phase ≡ 1 → {j : Intake} → j ≡ judged_as 0 8 0 → j ≡ completed i room
  unfolding completed
  past_completed e q = rw (e, q)

  pub judged_completed : (i.phase ≡ 1 → ⊥) → {n : ℕ} → n ≡ gathered i → {j : Intake} → j ≡ completed (gathering n) room → j ≡ completed i room
  unfolding completed
  judged_completed e q d = rw (ne_eqb i.phase 1 e, ← q) d

module _ (n : ℕ) (room : List ℕ) where
  pub cut_completed : length room < n → {j : Intake} → j ≡ judged_as 0 8 0 → j ≡ completed (gathering n) room
  unfolding completed
  cut_completed h q = rw (lt-leb n (length room) h, q)

  pub held_completed : n ≤ length room → {j : Intake} → j ≡ judged_of n (from_either_packet (take n room)) → j ≡ completed (gathering n) room
  unfolding completed
  held_completed h q = rw (le-leb n (length room) h) q

-- ---- the question for the sheet

module _ (r place : ℕ) where
  pub late_verdict : 8 < r → is_verdict r place ≡ eqb r 13
  late_verdict h = rw (lt-leb r 8 h)

  pub placed_verdict : 3 < r → r < 8 → is_verdict r place ≡ true
  placed_verdict h l = rw (le-leb r 8 (omega arith), lt-leb r 3 h, ne_eqb r 8 (λ e. omega arith))

  pub placeless_verdict : r ≤ 3 → is_verdict r place ≡ eqb place 0
  placeless_verdict h = rw (le-leb r 8 (omega arith), le-leb r 3 h)

  pub room_verdict : r ≡ 8 → is_verdict r place ≡ eqb place 0
  room_verdict e = rw e

-- the answer of a refused conversion
abbrev answered : ℕ → ℕ → Converted
answered r place = record { refusal = r; place = place; length = 0 }

module _ (n : ℕ) (taken room : List ℕ) where
  pub cut_sheet : length taken < n → {r : Converted} → r ≡ answered 14 0 → ◌≡◌ {A = Outcome} (record { answer = r; room = room }) (judged_sheet n taken room)
  cut_sheet h q = rw (lt-leb n (length taken) h, q)

  pub whole_sheet_lem : n ≤ length taken → {o : Outcome} → o ≡ packet_to_sheet (take n taken) room → o ≡ judged_sheet n taken room
  whole_sheet_lem h q = rw (le-leb n (length taken) h) q

module _ (i : Intake) (taken room : List ℕ) where
  pub early_asked : (i.phase ≡ 2 → ⊥) → {r : Converted} → r ≡ answered 14 0 → ◌≡◌ {A = Outcome} (record { answer = r; room = room }) (asked i taken room)
  unfolding asked
  early_asked e q = rw (ne_eqb i.phase 2 e, q)

  module _ (e : i.phase ≡ 2) where
    pub unjudged_asked : is_verdict i.refusal i.place ≡ false → {r : Converted} → r ≡ answered 14 0 → ◌≡◌ {A = Outcome} (record { answer = r; room = room }) (asked i taken room)
    unfolding asked
    unjudged_asked v q = rw (e, v, q)

    module _ (v : is_verdict i.refusal i.place ≡ true) where
      pub refused_asked : (i.refusal ≡ 0 → ⊥) → {r : Converted} → r ≡ answered i.refusal i.place → ◌≡◌ {A = Outcome} (record { answer = r; room = room }) (asked i taken room)
      unfolding asked
      refused_asked n q = rw (e, v, ne_eqb i.refusal 0 n, q)

      pub sheet_asked : i.refusal ≡ 0 → {o : Outcome} → o ≡ judged_sheet i.length taken room → o ≡ asked i taken room
      unfolding asked
      sheet_asked z q = rw (e, v, z) q
