-- A part of the tree judged at a place of a packet, where the refusal is any number. Used by contracts of the code; no promise names these.
use Rattle.std.specs.Prelude.{Result, List, ℕ}
use Rattle.kinds.specs.Kind.{Kind}
use Rattle.kinds.specs.declared.numbered.Refused.{Refused}
use Rattle.format.specs.Format.{Format}
use Rattle.format.specs.internal.Ways as ways
use Rattle.verdict.specs.declared.Spot.{Spot}
use Rattle.verdict.specs.internal.Numbered.{went, got}
use Rattle.packet_fields.specs.internal.Judging.{judge}

-- A step over a part of the tree: whatever follows the part, the verdict is the verdict from the step on.
abbrev pub Over : (Format → Format) → List ℕ → ℕ → ℕ → ℕ → Result (Spot ℕ) (Refused ℕ) → Type 0
Over part s stop at n r = ways.Over (judge s stop) part at n (went r)

-- A step over one field, on whose value what follows may depend.
abbrev pub Took : Kind → List ℕ → ℕ → ℕ → ℕ → Result (ℕ × Spot ℕ) (Refused ℕ) → Type 0
Took k s stop at n r = ways.Took (judge s stop) k at n (got r)
