-- What follows a temporary constraint's start; and the field kinds that depend on the range or the type have a width of 1 to 32 bits.
use Prim.Native.Nat.{ℕ}
use lib.Dec.{lit≤}
use Rattle.format.specs.Format.{Format, then}
use Rattle.kinds.specs.journey.Kinds.{d_tc_end_location, v_speed_level}
use Rattle.grammar.proofs.journey.Tree.{by_range, by_type}
use Rattle.packet_fields.specs.internal.Judging.{Wide}

-- what follows the start
abbrev pub after_start : ℕ → ℕ → Format → Format
after_start range start f = then (d_tc_end_location range start) f

pub end_wide : (range start : ℕ) → Wide (d_tc_end_location range start)
end_wide range start = by_range Wide range start (record { some = lit≤ tt; most = lit≤ tt }) (record { some = lit≤ tt; most = lit≤ tt })

pub level_wide : (type : ℕ) → Wide (v_speed_level type)
level_wide type = by_type Wide type (record { some = lit≤ tt; most = lit≤ tt }) (record { some = lit≤ tt; most = lit≤ tt })
