-- A part of the tree that is judged several times in a packet. Used by contracts of the code; no promise names these.
use Rattle.std.specs.Prelude.{Result, List, ℕ}
use Rattle.kinds.specs.declared.refusals.Refused.{Refused}
use Rattle.format.specs.Format.{Format}
use Rattle.verdict.specs.declared.Spot.{Spot}
use Rattle.packet_fields.specs.internal.Judging.{Standing, Over}

-- the packet, the bit where its fields end, and the part
pub record Repeat : Type 0 where
  pub s : List ℕ
  pub stop : ℕ
  pub part : Format → Format

-- The function may be called at every spot of the packet, the first among them, and each of its results is a step over the part.
pub record Judges (r : Repeat) (pre : Spot ℕ → Type 0) (post : Spot ℕ → Result (Spot ℕ) (Refused ℕ) → Type 0) (first : Spot ℕ) : Type 0 where
  pub stands : Standing r.s r.stop first.at first.n
  pub called : (x : Spot ℕ) → Standing r.s r.stop x.at x.n → pre x
  pub judges : (x : Spot ℕ) (y : Result (Spot ℕ) (Refused ℕ)) → Standing r.s r.stop x.at x.n → post x y → Over r.part r.s r.stop x.at x.n y
