-- "Nothing is claimed for a train that joins a category, as a replacing entry may be faster": trains that join one and are faster, and others that are slower.
use mathlib.Core.Path.{◌≡◌, refl}
use mathlib.Core.Bool.{true, false}
use Prim.Native.Nat.{ℕ, ◌≤◌}
use native.Mathlib.Omega.{arith}
use Rattle.bits.specs.Bits.{field_at}
use Rattle.numbers.specs.Numbers.{number_of, groups_in}
use Rattle.kinds.specs.Kinds.{digits}
use Rattle.kinds.specs.Tables.{place}
use Rattle.grammar.specs.segment.Segment.{entries, changes}
use Rattle.grammar.specs.segment.Judgement.{from_packet, from_sheet}
use Rattle.grammar.specs.link.Link.{from_either_sheet, to_either_packet}
use Rattle.convert.specs.Convert.{sheet_to_packet}
use Rattle.speed_question.specs.declared.Speed.{Speed}
use Rattle.speed_question.specs.Question.{Brought, permitted_speed}
use Rattle.promises.specs.Faster.{NotFaster, joining}

-- an answer that is no refusal
abbrev at : ℕ → Speed
at v = record { refusal = 0; place = 0; speed = v }

-- the answers to a train in no category, to one that joins P position and to one that joins G position, from the packet and from the sheet
joined : (b : Brought) → (joining b false false ≡ at 100) × (joining b true false ≡ at 130) × (joining b false true ≡ at 90)
unfolding field_at number_of groups_in digits place entries changes from_packet from_sheet from_either_sheet to_either_packet sheet_to_packet permitted_speed
joined Brought.packet = (refl, refl, refl)
joined Brought.sheet = (refl, refl, refl)

-- a train that joins P position is faster: 130 km/h where it had 100
pub joined_faster : (b : Brought) → NotFaster (joining b true false) (joining b false false) → ⊥
joined_faster b f = let p = joined b in let h : 130 ≤ 100 = (rw (p.0, p.1) at f) refl refl in omega arith

-- a train that joins G position is slower: 90 km/h where it had 100
pub joined_slower : (b : Brought) → NotFaster (joining b false false) (joining b false true) → ⊥
joined_slower b f = let p = joined b in let h : 100 ≤ 90 = (rw (p.0, p.2) at f) refl refl in omega arith
