-- A timing point of an accepted journey.
use mathlib.Core.Path.{refl}
use mathlib.Core.List.{List, [], ◌∷◌, ◌++◌}
use Prim.Native.Nat.{ℕ, ◌+◌}
use Rattle.bits.specs.Bits.{field_at}
use Rattle.numbers.specs.internal.Groups.{Put}
use Rattle.format.specs.Format.{Format, field}
use Rattle.grammar.specs.internal.rows.Rows.{row}
use Rattle.kinds.specs.journey.Kinds.{q_stop_skip_passes}
use Rattle.grammar.specs.journey.Journey.{timing_point}
use Rattle.grammar.specs.internal.journey.Parts.{arrival_widths, arrival_most, stopping_widths, stopping_most}
use Rattle.grammar.proofs.journey.Parts.{point_rows_lem, arrival_fits, stopping_fits}
use Rattle.sheet_write_segment.specs.internal.elements.Writing.{PartWritable, Wrote}
use Rattle.sheet_write_segment.proofs.elements.Writing.{along_none}
use Rattle.sheet_write_segment.specs.internal.row.Row.{Row, copied}
use Rattle.sheet_write_segment.proofs.row.Tree.{Rowing, rowing_none, rowing_row, rowing_field, rowing_as, rowing_here}
use Rattle.sheet_write_journey.specs.internal.rows.Widths.{point_widths}

module _ (s : List ℕ) (stop : ℕ) {at : ℕ} {p : Put} (h : PartWritable timing_point s stop at p) where
  abbrev stopping : ℕ → Format → Format
  stopping u f = row stopping_widths (stopping_most u) f

  abbrev stops : Format → Format
  stops f = field q_stop_skip_passes λ u. stopping u f

  point_rowing : Rowing s stop at p timing_point (λ f. f) point_widths
  point_rowing =
      let u = field_at s (at + 76) 2 in
      let start = rowing_as s stop at p (λ f. row arrival_widths arrival_most (stops f)) point_rows_lem (rowing_none s stop at p h) in
      let arrival = rowing_row s stop at p [] h stops arrival_widths arrival_most arrival_fits start in
      let stopped = rowing_field s stop at p arrival_widths h q_stop_skip_passes stopping 2 refl (λ v. refl) arrival u refl in
      rowing_row s stop at p (arrival_widths ++ 2 ∷ []) h (λ f. f) stopping_widths (stopping_most u) (stopping_fits u) stopped

  pub point_row : Row s at point_widths p
  point_row = rowing_here s stop at p point_rowing

  pub point_wrote : Wrote timing_point s stop at p (at + 129) (copied s at point_widths p)
  point_wrote = along_none s stop point_rowing.along
