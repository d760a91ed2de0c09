-- What the code's functions answer whose refusal is any number, as steps of the pass. Used by contracts of the code; no promise names these.
use Rattle.std.specs.Prelude.{Result, Ok, Err, ℕ}
use Rattle.kinds.specs.declared.numbered.Refused.{Refused}
use Rattle.format.specs.internal.Ways.{Went, Got}
use Rattle.verdict.specs.declared.Spot.{Spot}

-- a step over a part of the tree
abbrev pub went : Result (Spot ℕ) (Refused ℕ) → Went ℕ
went (Ok p) = Went.on p.at p.n
went (Err e) = Went.off e.0 e.1

-- a step over one field, with its value
abbrev pub got : Result (ℕ × Spot ℕ) (Refused ℕ) → Got ℕ
got (Ok v) = Got.is v.0 v.1.at v.1.n
got (Err e) = Got.off e.0 e.1
