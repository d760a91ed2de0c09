-- A field judged at a place of a sheet, where the refusal is any number. Used by contracts of the code; no promise names it.
use Rattle.std.specs.Prelude.{Result, List, ℕ}
use Rattle.kinds.specs.Kind.{Kind}
use Rattle.kinds.specs.declared.numbered.Refused.{Refused}
use Rattle.format.specs.internal.Ways as ways
use Rattle.verdict.specs.declared.Spot.{Spot}
use Rattle.verdict.specs.internal.Numbered.{got}
use Rattle.sheet_fields.specs.internal.Judging.{judge}

-- A step over one field, on whose value what follows may depend.
abbrev pub Took : Kind → List ℕ → ℕ → ℕ → Result (ℕ × Spot ℕ) (Refused ℕ) → Type 0
Took k s at n r = ways.Took (judge s) k at n (got r)
