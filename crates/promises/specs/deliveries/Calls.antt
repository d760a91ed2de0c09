-- Any list of calls of the intake, with one room lent throughout: when the sheet can be asked for.
use Rattle.std.specs.Prelude.{Bool, true, false, List, [], ◌∷◌, ℕ}
use Rattle.intake.specs.declared.Intake.{Intake}
use Rattle.intake.specs.Intake.{gathering, Delivered, delivered, completed}

-- a delivery, the completion, or the question for the sheet, which takes the state by value and "changes nothing"
pub data Call : Type 0 where
  deliver : List ℕ → Call
  complete : Call
  ask : Call

-- the state and the room after one call
abbrev pub called : Delivered → Call → Delivered
called x (deliver d) = delivered x.intake d x.room
called x complete = record { intake = completed x.intake x.room; room = x.room }
called x ask = x

-- the state and the room after all calls
abbrev pub called_all : Delivered → List Call → Delivered
called_all x [] = x
called_all x (c ∷ cs) = called_all (called x c) cs

-- the state after all calls from a fresh state
abbrev pub state_after : List ℕ → List Call → Intake
state_after room cs = (called_all (record { intake = gathering 0; room = room }) cs).intake

-- "From completion until the next delivery with bytes, or the next completion, the sheet can be asked for": whether it can after one call, by whether it could before
abbrev pub opens : Bool → Call → Bool
opens b (deliver []) = b
opens b (deliver (d ∷ ds)) = false
opens b complete = true
opens b ask = b

abbrev pub opens_all : Bool → List Call → Bool
opens_all b [] = b
opens_all b (c ∷ cs) = opens_all (opens b c) cs

-- whether the sheet can be asked for after all calls from a fresh state
abbrev pub can_be_asked : List Call → Bool
can_be_asked cs = opens_all false cs
