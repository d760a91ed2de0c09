-- What a writer of a listing requires. Used by contracts of the code; no promise names it.
use Rattle.std.specs.Prelude.{◌≡◌, List, ℕ}
use Rattle.format.specs.Format.{accepted, values_of}
use Rattle.grammar.specs.segment.Segment.{wire_changes}
use Rattle.grammar.specs.segment.Judgement.{from_packet}

-- the packet was accepted
abbrev pub PacketAccepted : List ℕ → Type 0
PacketAccepted s = from_packet wire_changes s ≡ accepted (values_of (from_packet wire_changes s))
