-- The numbers of the refusals.
use Rattle.std.specs.Prelude.{ℕ}
use Rattle.kinds.specs.declared.refusals.Refusal.{Refusal}
use Rattle.kinds.specs.declared.refusals.Refusal.TheVariants.{ShortPacket, PacketNumber, PacketLength, FieldValue, ChangeLocation, BodyBits, PaddingBit, ShortRoom, SheetForm, TrainValue, PastEnd, LongBody, BitsLeft, TooEarly, UnknownKind, RunCount, NotKept, Steps, WrongSpeed, CardList, NoShelf, NoLeg, OtherSegment, ReverseLeg, ConstraintPlace, TailBefore}

-- "It returns its number": the number of each refusal
abbrev pub refusal_number : Refusal → ℕ
refusal_number ShortPacket = 1
refusal_number PacketNumber = 2
refusal_number PacketLength = 3
refusal_number FieldValue = 4
refusal_number ChangeLocation = 5
refusal_number BodyBits = 6
refusal_number PaddingBit = 7
refusal_number ShortRoom = 8
refusal_number SheetForm = 9
refusal_number TrainValue = 10
refusal_number PastEnd = 11
refusal_number LongBody = 12
refusal_number BitsLeft = 13
refusal_number TooEarly = 14
refusal_number UnknownKind = 15
refusal_number RunCount = 16
refusal_number NotKept = 17
refusal_number Steps = 18
refusal_number WrongSpeed = 19
refusal_number CardList = 20
refusal_number NoShelf = 21
refusal_number NoLeg = 22
refusal_number OtherSegment = 23
refusal_number ReverseLeg = 24
refusal_number ConstraintPlace = 25
refusal_number TailBefore = 26
