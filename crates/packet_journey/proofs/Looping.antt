-- A segment of a journey in parts, and the whole journey in parts.
use mathlib.Core.Path.{ap, ◌∙◌}
use Prim.Native.Nat.{ℕ}
use Rattle.format.specs.Format.{Format}
use Rattle.format.specs.internal.Ways.{Way, Went, Over}
use Rattle.grammar.specs.internal.segment.Parts.{header_rows}
use Rattle.grammar.specs.journey.Journey.{journey_segment, constraints}
use Rattle.grammar.specs.internal.journey.Parts.{segment_rest, journey_body_part, journey_part}
use Rattle.grammar.proofs.segment.Parts.{header_rows_lem}
use Rattle.grammar.proofs.journey.Parts.{segment_rows_lem}
use Rattle.packet_journey.specs.internal.Head.{segment_head}

module _ {X B : Type 0} {w : Way X B} {at : ℕ} {x : X} where
  pub segment_over : {r : Went X} → Over w (λ f. segment_head (λ v. segment_rest constraints v f)) at x r → Over w (journey_segment constraints) at x r
  segment_over o = record { goes = λ f. ap (λ (g : Format). w.run g at x) (segment_rows_lem constraints f) ∙ o.goes f; stands = o.stands }

  -- the header is a row after NID_OPERATIONAL
  pub journey_over : {r : Went X} → Over w (λ f. header_rows (journey_body_part f)) at x r → Over w journey_part at x r
  journey_over o = record { goes = λ f. ap (λ (g : Format). w.run g at x) (header_rows_lem (journey_body_part f)) ∙ o.goes f; stands = o.stands }
