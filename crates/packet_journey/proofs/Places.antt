-- A segment's head whose bits are all present: the step over it, from the bytes of its fields.
use mathlib.Core.Path.{◌≡◌, refl}
use mathlib.Core.List.{List, [], ◌∷◌}
use Prim.Native.Nat.{ℕ, ◌+◌, ◌*◌, ◌-◌, ◌/◌, ◌%◌, ◌≤◌}
use native.Mathlib.Omega.{arith}
use lib.Dec.{lit≤}
use lib.ListN.{length}
use Rattle.bits.specs.Bits.{field_at}
use Rattle.bits.specs.internal.Windows.{fields_at, parts}
use Rattle.bits.proofs.Fields.{window_small}
use Rattle.bits.proofs.Windows.{parts_at, part}
use Rattle.numbers.specs.Numbers.{groups_in}
use Rattle.numbers.proofs.Counting.{count_five}
use Rattle.kinds.specs.Kinds.{n_iter}
use Rattle.fields.proofs.size.Bytes as counts
use Rattle.format.proofs.Ways.{gave_on, gave_took}
use Rattle.grammar.specs.internal.rows.Rows.{row}
use Rattle.grammar.specs.internal.journey.Parts.{segment_widths, segment_most}
use Rattle.grammar.proofs.journey.Parts.{segment_fits}
use Rattle.format.specs.internal.Ways.{Went, Got, Over, Took, Gave}
use Rattle.packet_fields.specs.internal.Judging.{judge, Standing}
use Rattle.packet_fields.proofs.Steps.{took_some}
use Rattle.packet_fields.specs.internal.row.Values.{row_bytes}
use Rattle.packet_fields.proofs.row.Whole.{bytes_some}
use Rattle.packet_fields.proofs.row.Held.{all_bytes}
use Rattle.packet_journey.specs.internal.Head.{segment_head}

module _ (s : List ℕ) (stop : ℕ) {at n : ℕ} (h : Standing s stop at n) (room : 64 ≤ stop - at) {t : ℕ} (et : t ≡ field_at s (at + 42) 22)
    {a b c d : ℕ} (ea : a ≡ length (groups_in (field_at s at 10))) (eb : b ≡ length (groups_in (field_at s (at + 10) 32)))
    (ec : c ≡ length (groups_in (t / 16384))) (ed : d ≡ length (groups_in (t / 64 % 256))) where
  pub small : a + b + c + d ≤ 20
  small = omega (arith, ea, count_five (field_at s at 10), eb, count_five (field_at s (at + 10) 32), ec, count_five (t / 16384), ed, count_five (t / 64 % 256))

  inside : at + 64 ≤ 8 * length s
  inside = omega (arith, h.inside, h.before)

  -- the major and the minor version, the direction, the count of the changes
  values : parts (8 ∷ 8 ∷ 1 ∷ 5 ∷ []) t ≡ fields_at s (at + 10 + 32) (8 ∷ 8 ∷ 1 ∷ 5 ∷ [])
  values = let p : at + 42 ≡ at + 10 + 32 = omega arith in parts_at s (at + 10 + 32) (8 ∷ 8 ∷ 1 ∷ 5 ∷ []) (rw p at et) (omega (arith, inside))

  head_bytes : a + b + c + d + 1 ≡ row_bytes segment_most (fields_at s at segment_widths)
  head_bytes =
      let direction : ℕ = field_at s (at + 10 + 32 + 8 + 8) 1 in
      let l = window_small s (at + 10 + 32 + 8 + 8) 1 {v = direction} refl in
      all_bytes segment_most (fields_at s at segment_widths)
      (omega (arith, window_small s at 10 {v = field_at s at 10} refl), (omega (arith, window_small s (at + 10) 32 {v = field_at s (at + 10) 32} refl), (omega (arith, window_small s (at + 10 + 32) 8 {v = field_at s (at + 10 + 32) 8} refl), (omega (arith, window_small s (at + 10 + 32 + 8) 8 {v = field_at s (at + 10 + 32 + 8) 8} refl), (omega (arith, l), tt)))))
      (rw (← part values 0, ← part values 1) (omega (arith, ea, eb, ec, ed, counts.one_byte direction (omega (arith, l)))))

  head_over : Over (judge s stop) (row segment_widths segment_most) at n (Went.on (at + 59) (n + (a + b + c + d + 1)))
  head_over = bytes_some s stop 10 1023 (32 ∷ 8 ∷ 8 ∷ 1 ∷ []) (4294967295 ∷ 255 ∷ 255 ∷ 1 ∷ []) segment_fits h (omega arith) head_bytes (λ z. omega (arith, z))

  count_took : Took (judge s stop) (n_iter 31) (at + 59) (n + (a + b + c + d + 1)) (Got.is (t % 32) (at + 59 + 5) (n + (a + b + c + d + 1) + 1))
  count_took =
      took_some s stop (n_iter 31) 5 refl head_over.stands (lit≤ tt) (omega arith) (let p : at + 10 + 32 + 8 + 8 + 1 ≡ at + 59 = omega arith in rw p at (part values 3))
      (counts.bytes_some (n_iter 31) (t % 32) (counts.both_in 0 31 (t % 32) (omega arith) (omega arith)) (counts.one_byte (t % 32) (omega arith))) (λ u. omega arith)

  pub head_on : Gave (judge s stop) segment_head at n (Got.is (t % 32) (at + 64) (n + (a + b + c + d + 2)))
  head_on =
      let p : at + 59 + 5 ≡ at + 64 = omega arith in
      let q : n + (a + b + c + d + 1) + 1 ≡ n + (a + b + c + d + 2) = omega arith in
      rw (p, q) at (gave_on head_over (gave_took count_took))
