-- The parts of a journey's tree are rows of fields, and each row's largest values fit its widths.
use mathlib.Core.Path.{◌≡◌, refl}
use mathlib.Core.Bool.{true}
use Prim.Native.Nat.{ℕ}
use lib.Dec.{eqb}
use Rattle.bits.proofs.Tests.{by_cases}
use Rattle.kinds.specs.Kinds.{n_iter}
use Rattle.format.specs.Format.{Format, field}
use Rattle.grammar.specs.internal.rows.Rows.{row, fits}
use Rattle.kinds.specs.journey.Kinds.{q_stop_skip_passes}
use Rattle.grammar.specs.journey.Journey.{timing_point, journey_segment}
use Rattle.grammar.specs.internal.journey.Parts.{segment_widths, segment_most, arrival_widths, arrival_most, stopping_widths, stopping_most, segment_rest}

pub segment_rows_lem : (limit : ℕ) (f : Format) → journey_segment limit f ≡ row segment_widths segment_most (field (n_iter 31) λ n. segment_rest limit n f)
unfolding row
segment_rows_lem limit f = refl

pub point_rows_lem : (f : Format) → timing_point f ≡ row arrival_widths arrival_most (field q_stop_skip_passes λ stop_skip_passes. row stopping_widths (stopping_most stop_skip_passes) f)
unfolding row
point_rows_lem f = refl

pub segment_fits : fits segment_widths segment_most ≡ true
segment_fits = refl

pub arrival_fits : fits arrival_widths arrival_most ≡ true
arrival_fits = refl

pub stopping_fits : (stop_skip_passes : ℕ) → fits stopping_widths (stopping_most stop_skip_passes) ≡ true
stopping_fits stop_skip_passes = by_cases (eqb stop_skip_passes 2) (λ e. rw e) (λ e. rw e)
