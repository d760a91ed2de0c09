-- The parts of a segment's tree: one more of each that repeats, and the whole tree in parts.
use mathlib.Core.Path.{◌≡◌, refl}
use mathlib.Core.Bool.{true}
use Prim.Native.Nat.{ℕ, zero, suc, ◌-◌, ◌≤◌, ◌<◌}
use native.Mathlib.Omega.{arith}
use Rattle.kinds.specs.Kinds.{class, d_location}
use Rattle.format.specs.Format.{Format, end, field}
use Rattle.grammar.specs.segment.Segment.{entries, changes, lists, body, header, fields, wire_changes}
use Rattle.grammar.specs.internal.segment.Parts.{entry, header_widths, header_most, identity_widths, identity_most, offset_widths, offset_most, header_rows, body_rows, segment_rows}
use Rattle.grammar.specs.internal.rows.Rows.{row, fits}

-- ---- one more

pub entries_more : (n : ℕ) → 0 < n → (f : Format) → entries n f ≡ entry (entries (n - 1) f)
unfolding entries
entries_more zero h f = absurd (omega arith)
entries_more (suc n) h f = let e : suc n - 1 ≡ n = omega arith in rw e

pub entries_none : (n : ℕ) → n ≤ 0 → (f : Format) → entries n f ≡ f
unfolding entries
entries_none zero h f = refl
entries_none (suc n) h f = absurd (omega arith)

module _ (start : Format → Format) (lsp last : ℕ) where
  pub changes_more : (n : ℕ) → 0 < n → (f : Format) → changes start lsp last n f ≡ field (d_location last lsp) λ x. start (changes start lsp x (n - 1) f)
  unfolding changes
  changes_more zero h f = absurd (omega arith)
  changes_more (suc n) h f = let e : suc n - 1 ≡ n = omega arith in rw e

  pub changes_none : (n : ℕ) → n ≤ 0 → (f : Format) → changes start lsp last n f ≡ f
  unfolding changes
  changes_none zero h f = refl
  changes_none (suc n) h f = absurd (omega arith)

-- ---- the fields before the speed profile, in rows

pub header_rows_lem : (f : Format) → header f ≡ header_rows f
unfolding row
header_rows_lem f = refl

pub body_rows_lem : body wire_changes ≡ body_rows end
unfolding body lists row
body_rows_lem = refl

pub header_fits : fits header_widths header_most ≡ true
header_fits = refl

pub identity_fits : fits identity_widths identity_most ≡ true
identity_fits = refl

pub offset_fits : fits offset_widths offset_most ≡ true
offset_fits = refl

-- ---- widths

pub class_width : (q : ℕ) → (class q).width ≡ 4
class_width zero = refl
class_width (suc q) = refl

-- ---- the whole, in rows

pub fields_rows : fields wire_changes ≡ segment_rows end
unfolding fields body lists row
fields_rows = refl
