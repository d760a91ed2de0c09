-- The numbers of a temporary constraint, by the packet's bits. Used by contracts of the code; no promise names these.
use Rattle.std.specs.Prelude.{List, [], ◌∷◌, ◌++◌, ℕ, ◌+◌, ◌*◌, ◌≤◌, length}
use Rattle.bits.specs.Bits.{field_at}
use Rattle.numbers.specs.internal.Groups.{Put}
use Rattle.sheet_write_segment.specs.internal.row.Row.{FitAll}

-- the widths of Q_TC_Type, Q_TC_Range and the start; and of these three and the end. Their numbers equal the packet's fields
abbrev pub start_widths : List ℕ
start_widths = 2 ∷ 2 ∷ 24 ∷ []

abbrev pub stretch_widths : List ℕ
stretch_widths = start_widths ++ 24 ∷ []

-- the numbers of Q_FRONT, of the speed "times 5" (an unused speed is 0 in packet and sheet), of the adhesion, and 0 for the current
abbrev pub restriction_at : List ℕ → ℕ → List ℕ
restriction_at s at = field_at s at 1 ∷ field_at s (at + 1) 7 * 5 ∷ field_at s (at + 8) 3 ∷ 0 ∷ []

-- the 21 bits from Q_FRONT on are present at the bit at, in a packet s of at least eight bytes, and the room p holds their numbers
pub record RestrictionFits (s : List ℕ) (at : ℕ) (p : Put) : Type 0 where
  pub inside : at + 21 ≤ 8 * length s
  pub long : 8 ≤ length s
  pub holds : FitAll p (restriction_at s at)
