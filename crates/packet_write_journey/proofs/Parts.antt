-- The row of a segment is the three pieces in which it is written.
use mathlib.Core.Path.{refl}
use lib.Dec.{lit≤}
use Rattle.grammar.specs.internal.rows.Rows.{row}
use Rattle.grammar.specs.internal.journey.Parts.{segment_widths, segment_most}
use Rattle.packet_write_segment.proofs.row.Three.{Three}

pub segment_pieces : Three segment_widths segment_most 1 2 5 10 32 17
unfolding row
segment_pieces =
    record {
      cuts = λ f. refl;
      first = record { order = lit≤ tt; inside = lit≤ tt; fit = refl; sum = refl; some = lit≤ tt; most = lit≤ tt };
      second = record { order = lit≤ tt; inside = lit≤ tt; fit = refl; sum = refl; some = lit≤ tt; most = lit≤ tt };
      third = record { order = lit≤ tt; inside = lit≤ tt; fit = refl; sum = refl; some = lit≤ tt; most = lit≤ tt };
    }
