-- The fields of an element of the speed profile before its entries, and an entry counted. Used by contracts of the code; no promise names these.
use Rattle.std.specs.Prelude.{cond, ℕ, ◌+◌, ◌-◌, eqb, ltb}
use Rattle.kinds.specs.Kinds.{speed, q_front, n_iter, q_diff, class}
use Rattle.kinds.specs.Judged.{value_in_packet}
use Rattle.fields.specs.internal.size.Counts.{bytes_of}
use Rattle.format.specs.Format.{Format, field, then}
use Rattle.format.specs.internal.Ways.{Went}

-- "V_STATIC 7 (0 to 120, steps of 5 km/h), Q_FRONT 1, N_ITER 5 (0 to 31)", and what depends on the last
abbrev pub profile_head : (ℕ → Format) → Format
profile_head next = then speed (then q_front (field (n_iter 31) next))

-- bytes of two fields that follow each other, a and b bytes long; 0 if a or b is 0
abbrev pub both_bytes : ℕ → ℕ → ℕ
both_bytes a b = cond (eqb a 0) 0 (cond (eqb b 0) 0 (a + b))

-- bytes of an entry's Q_DIFF q and class v in the sheet; 0 if one of them is refused
abbrev pub name_bytes : ℕ → ℕ → ℕ
name_bytes q v = both_bytes (bytes_of (value_in_packet q_diff q)) (bytes_of (value_in_packet (class q) v))

-- the step over an entry at the bit at: r bytes in the sheet; r of 16 or more is the refusal of the field r - 16 bits after the bit at
abbrev pub past_entry : ℕ → ℕ → ℕ → Went ℕ
past_entry at n r = cond (ltb r 16) (Went.on (at + 13) (n + r)) (Went.off 4 (at + (r - 16)))
