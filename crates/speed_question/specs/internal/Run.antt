-- A run as the code judges it and passes over it: its medium, the verdict without values, and the head of the last segment. No promise names it.
use Rattle.std.specs.Prelude.{◌≡◌, Bool, true, false, cond, Result, Ok, Err, List, map, ℕ, zero, suc, ◌≤◌, ◌<◌, eqb}
use Rattle.std.proofs.Common.{Bor}
use Rattle.kinds.specs.declared.Item.{Item}
use Rattle.kinds.specs.declared.refusals.Refused.{Refused}
use Rattle.kinds.specs.Refusals.{refusal_number}
use Rattle.format.specs.Format.{Format, Read, values_of, sheet_numbers}
use Rattle.speed.specs.Run.{Each, last_of, last_start}
use Rattle.speed_element.specs.internal.Reading.{HeadRead}
use Rattle.speed_packet.specs.internal.Asking as speed_packet
use Rattle.speed_sheet.specs.internal.Asking as speed_sheet
use Rattle.speed_question.specs.declared.Speed.{Speed}
use Rattle.speed_question.specs.declared.medium.Medium.{Medium}
use Rattle.speed_question.specs.declared.medium.Medium.TheVariants.{Packet, Sheet}
use Rattle.speed_question.specs.declared.run.LastSegment.{LastSegment}
use Rattle.speed_question.specs.Question.{Brought, packet, sheet, no_speed, read_as, RunRead, accepted, refused, judged_run}

-- packets for 0, else sheets
abbrev pub brought_of : ℕ → Brought
brought_of medium = cond (eqb medium 0) packet sheet

-- what a medium is of
abbrev pub brought_as : Medium → Brought
brought_as Packet = packet
brought_as Sheet = sheet

-- the bytes of each segment lent
abbrev pub segments_of : List (Bor (List ℕ)) → List (List ℕ)
segments_of r = map (λ (s : Bor (List ℕ)). s.now) r

-- a verdict without values
pub data Judged : Type 0 where
  passed : Judged
  failed : ℕ → ℕ → Judged

-- the verdict that the code returns
abbrev pub said : {A : Type 0} → Result A (Refused ℕ) → Judged
said (Ok a) = passed
said (Err e) = failed (refusal_number e.0) e.1

-- the verdict on a segment, without its values
abbrev pub judged_of : Read → Judged
judged_of (Read.accepted l) = passed
judged_of (Read.refused r place) = failed r place

-- the verdict on a run, without the values
abbrev pub run_judged : RunRead → Judged
run_judged (accepted l) = passed
run_judged (refused r place) = failed r place

-- the answer to a speed question that the code returns
abbrev pub speed_said : Result ℕ (Refused ℕ) → Speed
speed_said (Ok v) = record { refusal = 0; place = 0; speed = v }
speed_said (Err e) = no_speed (refusal_number e.0) e.1

-- the segment s is accepted
abbrev pub AcceptedAs : Brought → List ℕ → Type 0
AcceptedAs b s = read_as b s ≡ Read.accepted (values_of (read_as b s))

-- each segment of a run is accepted
abbrev pub was_accepted : RunRead → Bool
was_accepted (accepted r) = true
was_accepted (refused r place) = false

abbrev pub all_accepted : Brought → List (List ℕ) → Bool
all_accepted b r = was_accepted (judged_run (read_as b) r)

-- the values of each segment of a run
abbrev pub values_in : Brought → List (List ℕ) → List (List Item)
values_in b r = map (λ (s : List ℕ). values_of (read_as b s)) r

-- the numbers of a segment's sheet
abbrev pub numbers_as : Brought → List ℕ → List ℕ
numbers_as b s = sheet_numbers (values_of (read_as b s))

-- those of each segment of a run
abbrev pub numbers_in : Brought → List (List ℕ) → List (List ℕ)
numbers_in b r = map (numbers_as b) r

-- the tree f stands at a place of the segment s, and is accepted with these values
abbrev pub ReadsAs : Brought → List ℕ → Format → ℕ → List Item → Type 0
ReadsAs packet s = speed_packet.Reads s
ReadsAs sheet s = speed_sheet.Reads s

-- lsp is L_SP of the segment s, and its speed profile stands at the place at
abbrev pub HeadOf : Brought → List ℕ → ℕ → ℕ → Type 0
HeadOf b s lsp at = HeadRead (ReadsAs b s) (numbers_as b s) lsp at

-- 1 to 4 segments
abbrev pub Few : ℕ → Type 0
Few count = (1 ≤ count) × (count ≤ 4)

-- the segment with the number i of those lent
abbrev pub nth : ℕ → List ℕ → List ℕ → List ℕ → List ℕ → List ℕ
nth zero first second third fourth = first
nth (suc zero) first second third fourth = second
nth (suc (suc zero)) first second third fourth = third
nth (suc (suc (suc i))) first second third fourth = fourth

-- the last of the segments of a run: its start, and its head
pub record LastRead (b : Brought) (r : List (List ℕ)) (l : LastSegment) : Type 0 where
  pub start_is : l.start ≡ last_start 0 (numbers_in b r)
  pub small : l.start < 67108864
  pub head : HeadOf b (last_of r) l.head.lsp l.head.profile

-- accepted segments, the last of them, and a place x in it
pub record RunKnown (b : Brought) (r : List (List ℕ)) (l : LastSegment) (x : ℕ) : Type 0 where
  pub each : Each (AcceptedAs b) r
  pub last : LastRead b r l
  pub inside : x < l.head.lsp
