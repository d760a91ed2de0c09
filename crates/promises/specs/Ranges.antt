-- What a caller may rely on, whatever bytes were handed over: one of the listed refusals and nothing written, or success within its range.
use Rattle.std.specs.Prelude.{◌≡◌, true, false, List, ℕ, ◌≤◌, pos, length}
use Rattle.format.specs.Grounds.{Among}
use Rattle.convert.specs.Convert.{Outcome}
use Rattle.speed_question.specs.declared.Speed.{Speed}
use Rattle.speed_question.specs.Question.{Brought, packet, sheet, medium_of, Neither, run_count}
use Rattle.altitude.specs.declared.Altitude.{Altitude}
use Rattle.altitude.specs.Altitude.{centimetres}
use Rattle.promises.specs.Refused.{speed_refusals}

-- "one possible outcome for every input: answer, length and all bytes of the room, refusals too"
pub data ConversionEnds (room refusals : List ℕ) (least most : ℕ) (o : Outcome) : Type 0 where
  -- "Success returns the length"; "For .. success .. it is 0"
  success : o.answer.refusal ≡ 0 → o.answer.place ≡ 0 → least ≤ o.answer.length → o.answer.length ≤ most → o.answer.length ≤ length room
      → ConversionEnds room refusals least most o
  -- "It returns its number with length .. 0, and the lent room keeps every byte it had"
  refusal : Among o.answer.refusal refusals → o.answer.length ≡ 0 → o.room ≡ room → ConversionEnds room refusals least most o

-- "km/h, 0 to 604", and "the packet's speeds times 5": the highest speed of a profile
abbrev pub highest_of_profile : Brought → ℕ
highest_of_profile packet = 600
highest_of_profile sheet = 604

-- "a maximum speed, 1 to 600 km/h": the highest answer
abbrev pub highest_speed : ℕ
highest_speed = 600

-- a speed, or "It returns its number with .. speed .. 0"; 15 for a medium that is neither, and for no other; then 16 for a count that is not 1 to 4, and for no other
pub data SpeedEnds (medium count : ℕ) (o : Speed) : Type 0 where
  success : (b : Brought) → medium ≡ medium_of b → run_count count ≡ true → o.refusal ≡ 0 → o.place ≡ 0 → o.speed ≤ highest_speed → SpeedEnds medium count o
  refusal : (b : Brought) → medium ≡ medium_of b → run_count count ≡ true → Among o.refusal (speed_refusals b) → o.speed ≡ 0 → SpeedEnds medium count o
  counted : (b : Brought) → medium ≡ medium_of b → run_count count ≡ false → o.refusal ≡ 16 → o.place ≡ 0 → o.speed ≡ 0 → SpeedEnds medium count o
  neither : Neither medium → o.refusal ≡ 15 → o.place ≡ 0 → o.speed ≡ 0 → SpeedEnds medium count o

-- "Altitude is -100,000 to 948,575 cm", and 0 to 1,048,575 as it is sent
pub data AltitudeEnds (refusals : List ℕ) (o : Altitude) : Type 0 where
  success : (v : ℕ) → v ≤ 1048575 → o.refusal ≡ 0 → o.place ≡ 0 → o.altitude ≡ centimetres v → AltitudeEnds refusals o
  refusal : Among o.refusal refusals → o.altitude ≡ pos 0 → AltitudeEnds refusals o

-- "Each public operation's contract has one possible outcome for every input": any two outcomes that satisfy it are equal, and `Ends` is true of them
pub record OneOutcome {Out : Type 0} (outcome : Out) (Ends : Out → Type 0) : Type 0 where
  pub one : (o p : Out) → o ≡ outcome → p ≡ outcome → o ≡ p
  pub ends : (o : Out) → o ≡ outcome → Ends o
