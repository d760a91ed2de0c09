-- A part of the tree judged at a place of a sheet, with the bits of its packet counted. Used by contracts of the code; no promise names these.
use Rattle.std.specs.Prelude.{◌≡◌, ℕ, ◌^◌, ◌≤◌, List, length, drop, Result, Ok, Err}
use mathlib.Core.Option.{Option, none, some}
use Rattle.bits.specs.Bits.{Bytes}
use Rattle.kinds.specs.Kind.{Kind}
use Rattle.kinds.specs.declared.refusals.Refused.{Refused}
use Rattle.format.specs.Format.{Format}
use Rattle.format.specs.Media.{packet, sheet}
use Rattle.format.specs.internal.Pass.{Task}
use Rattle.format.specs.internal.Tasks.{counting_within}
use Rattle.format.specs.internal.Ways as ways
use Rattle.format.specs.internal.Ways.{Way, passing, Got}
use Rattle.verdict.specs.declared.Spot.{Spot}
use Rattle.verdict.specs.internal.Steps.{went, got}
use Rattle.verdict.specs.internal.Verdict.{Verdict}

-- the task that counts the bits of the packet modulo 2^32: no sheet length bounds the count, and an accepted sheet's count is far below 2^32
abbrev pub judging : Task ℕ Verdict
judging = counting_within (2 ^ 32) packet Verdict.sized Verdict.refused

-- a place in a sheet
pub record Standing (s : List ℕ) (at : ℕ) : Type 0 where
  pub bytes : Bytes s
  pub inside : at ≤ length s

-- judging as a pass over places
abbrev pub judge : List ℕ → Way ℕ Verdict
judge s = passing sheet judging (λ at. drop at s) (λ at n. Standing s at)

-- A step over a part of the tree: whatever follows the part, the verdict is the verdict from the step on.
abbrev pub Over : (Format → Format) → List ℕ → Spot ℕ → Result (Spot ℕ) (Refused ℕ) → Type 0
Over part s spot r = ways.Over (judge s) part spot.at spot.n (went r)

-- A step over one field, on whose value what follows may depend.
abbrev pub Took : Kind → List ℕ → Spot ℕ → Result (ℕ × Spot ℕ) (Refused ℕ) → Type 0
Took k s spot r = ways.Took (judge s) k spot.at spot.n (got r)

-- the step over a field whose number lowers to a value or to none, which is refused
abbrev pub lowers : ℕ → ℕ → Spot ℕ → Option ℕ → Got ℕ
lowers refusal at next none = Got.off refusal at
lowers refusal at next (some v) = Got.is v next.at next.n

-- A number read: the step over any field of the width that stands there. No number is no field.
abbrev pub Reads : ℕ → List ℕ → Spot ℕ → Result (ℕ × Spot ℕ) (Refused ℕ) → Type 0
Reads width s spot (Err e) = (k : Kind) → Took k s spot (Err e)
Reads width s spot (Ok (a, next)) = (k : Kind) → k.width ≡ width → ways.Took (judge s) k spot.at spot.n (lowers (k.refusal a) spot.at next (k.lower a))
