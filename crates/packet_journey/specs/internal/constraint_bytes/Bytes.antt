-- The bytes of a temporary constraint's values in the sheet, several fields at once. Used by contracts of the code; no promise names these.
use Rattle.std.specs.Prelude.{ℕ, zero, suc, ◌+◌, ◌/◌, ◌%◌}
use Rattle.kinds.specs.Kind.{Kind}
use Rattle.kinds.specs.Kinds.{no_current}
use Rattle.kinds.specs.Judged.{value_in_packet}
use Rattle.fields.specs.internal.size.Counts.{bytes_of}
use Rattle.kinds.specs.journey.Kinds.{d_tc_start_location, d_tc_end_location, q_tc_front, v_speed_level, q_low_adhesion_rate}

-- the bytes of a packet's value, and 0 where it is refused
abbrev pub bytes_in : Kind → ℕ → ℕ
bytes_in k v = bytes_of (value_in_packet k v)

-- the bytes of two values, and 0 where one is refused
abbrev pub both : ℕ → ℕ → ℕ
both zero b = 0
both (suc a) zero = 0
both (suc a) (suc b) = suc a + suc b

-- the start and the end, by the range
abbrev pub stretch_bytes : ℕ → ℕ → ℕ → ℕ
stretch_bytes range start end = both (bytes_in (d_tc_start_location range) start) (bytes_in (d_tc_end_location range start) end)

-- Q_FRONT to the current in the lowest 21 bits of a number, by the type
abbrev pub restriction_bytes : ℕ → ℕ → ℕ
restriction_bytes type t =
    both (bytes_in (q_tc_front type) (t / 1048576 % 2)) (both (bytes_in (v_speed_level type) (t / 8192 % 128))
    (both (bytes_in (q_low_adhesion_rate type) (t / 1024 % 8)) (bytes_in no_current (t % 1024))))
