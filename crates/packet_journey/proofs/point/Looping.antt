-- A timing point is a row, Q_Stop_Skip_Passes, and a row that depends on Q_Stop_Skip_Passes.
use mathlib.Core.Path.{ap, ◌∙◌}
use Prim.Native.Nat.{ℕ}
use Rattle.format.specs.Format.{Format, field}
use Rattle.format.specs.internal.Ways.{Way, Went, Over}
use Rattle.grammar.specs.internal.rows.Rows.{row}
use Rattle.kinds.specs.journey.Kinds.{q_stop_skip_passes}
use Rattle.grammar.specs.journey.Journey.{timing_point}
use Rattle.grammar.specs.internal.journey.Parts.{arrival_widths, arrival_most, stopping_widths, stopping_most}
use Rattle.grammar.proofs.journey.Parts.{point_rows_lem}

module _ {X B : Type 0} {w : Way X B} {at : ℕ} {x : X} where
  pub point_over : {r : Went X} → Over w (λ f. row arrival_widths arrival_most (field q_stop_skip_passes λ v. row stopping_widths (stopping_most v) f)) at x r → Over w timing_point at x r
  point_over o = record { goes = λ f. ap (λ (g : Format). w.run g at x) (point_rows_lem f) ∙ o.goes f; stands = o.stands }
