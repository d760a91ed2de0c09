-- Each row of a timing point is the three pieces in which it is written.
use mathlib.Core.Path.{refl}
use Prim.Native.Nat.{ℕ}
use lib.Dec.{lit≤, eqb}
use Rattle.bits.proofs.Tests.{by_cases}
use Rattle.grammar.specs.internal.rows.Rows.{row}
use Rattle.packet_write_segment.proofs.row.Three.{Three}
use Rattle.grammar.specs.internal.journey.Parts.{arrival_widths, arrival_most, stopping_widths, stopping_most}

pub arrival_pieces : Three arrival_widths arrival_most 1 3 5 32 32 12
unfolding row
arrival_pieces =
    record {
      cuts = λ f. refl;
      first = record { order = lit≤ tt; inside = lit≤ tt; fit = refl; sum = refl; some = lit≤ tt; most = lit≤ tt };
      second = record { order = lit≤ tt; inside = lit≤ tt; fit = refl; sum = refl; some = lit≤ tt; most = lit≤ tt };
      third = record { order = lit≤ tt; inside = lit≤ tt; fit = refl; sum = refl; some = lit≤ tt; most = lit≤ tt };
    }

pub stopping_pieces : (stop_skip_passes : ℕ) → Three stopping_widths (stopping_most stop_skip_passes) 6 8 10 8 32 11
unfolding row
stopping_pieces stop_skip_passes =
    record {
      cuts = λ f. refl;
      first = record { order = lit≤ tt; inside = lit≤ tt; fit = by_cases (eqb stop_skip_passes 2) (λ e. rw e) (λ e. rw e); sum = refl; some = lit≤ tt; most = lit≤ tt };
      second = record { order = lit≤ tt; inside = lit≤ tt; fit = by_cases (eqb stop_skip_passes 2) (λ e. rw e) (λ e. rw e); sum = refl; some = lit≤ tt; most = lit≤ tt };
      third = record { order = lit≤ tt; inside = lit≤ tt; fit = by_cases (eqb stop_skip_passes 2) (λ e. rw e) (λ e. rw e); sum = refl; some = lit≤ tt; most = lit≤ tt };
    }
