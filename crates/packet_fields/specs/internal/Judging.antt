-- A part of the tree judged at a place of a packet, with the bytes of its sheet counted. Used by contracts of the code; no promise names these.
use Rattle.std.specs.Prelude.{Result, List, ℕ, ◌*◌, ◌^◌, ◌≤◌, ◌<◌, length}
use Rattle.kinds.specs.Kind.{Kind}
use Rattle.kinds.specs.declared.refusals.Refused.{Refused}
use Rattle.format.specs.Format.{Format}
use Rattle.format.specs.Media.{packet, sheet}
use Rattle.format.specs.internal.Places.{bits_between}
use Rattle.format.specs.internal.Pass.{Task, pass}
use Rattle.format.specs.internal.Tasks.{counting}
use Rattle.format.specs.internal.Ways as ways
use Rattle.format.specs.internal.Ways.{Way, passing}
use Rattle.verdict.specs.declared.Spot.{Spot}
use Rattle.verdict.specs.internal.Verdict.{Verdict}
use Rattle.verdict.specs.internal.Steps.{went, got}

-- the task that counts the bytes of the sheet
abbrev pub judging : Task ℕ Verdict
judging = counting sheet Verdict.sized Verdict.refused

-- the verdict on a tree that stands at the bit at, n bytes so far
abbrev pub verdict_at : List ℕ → ℕ → Format → ℕ → ℕ → Verdict
verdict_at s stop f at n = pass packet judging f n at (bits_between s at stop)

-- a place in a packet whose fields end at the bit stop, with n bytes counted before it
pub record Standing (s : List ℕ) (stop at n : ℕ) : Type 0 where
  pub before : at ≤ stop
  pub inside : stop ≤ 8 * length s
  pub few : stop < 2 ^ 32
  pub long : 8 ≤ length s
  pub counted : n ≤ 5 * at

-- judging as a pass over places
abbrev pub judge : List ℕ → ℕ → Way ℕ Verdict
judge s stop = passing packet judging (λ at. bits_between s at stop) (Standing s stop)

-- A step over a part of the tree: whatever follows the part, the verdict is the verdict from the step on.
abbrev pub Over : (Format → Format) → List ℕ → ℕ → ℕ → ℕ → Result (Spot ℕ) (Refused ℕ) → Type 0
Over part s stop at n r = ways.Over (judge s stop) part at n (went r)

-- A step over one field, on whose value what follows may depend.
abbrev pub Took : Kind → List ℕ → ℕ → ℕ → ℕ → Result (ℕ × Spot ℕ) (Refused ℕ) → Type 0
Took k s stop at n r = ways.Took (judge s stop) k at n (got r)

-- A step over a part with a field on whose value what follows may depend.
abbrev pub Gave : ((ℕ → Format) → Format) → List ℕ → ℕ → ℕ → ℕ → Result (ℕ × Spot ℕ) (Refused ℕ) → Type 0
Gave part s stop at n r = ways.Gave (judge s stop) part at n (got r)

-- the width of k is one that a field can have, 1 to 32 bits
pub record Wide (k : Kind) : Type 0 where
  pub some : 1 ≤ k.width
  pub most : k.width ≤ 32
