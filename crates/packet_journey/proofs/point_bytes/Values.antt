-- The bytes of a timing point's values, several fields at once, from what the code tested and counted.
use mathlib.Core.Path.{◌≡◌, refl}
use mathlib.Core.List.{◌++◌}
use Prim.Native.Nat.{ℕ, ◌+◌, ◌/◌, ◌%◌, ◌^◌, ◌≤◌, ◌<◌}
use native.Mathlib.Omega.{arith}
use borrow.Author.Tests.{ne_eqb}
use lib.ListN.{length}
use Rattle.bits.specs.internal.Windows.{low_parts}
use Rattle.numbers.specs.Numbers.{groups_in}
use Rattle.fields.proofs.size.Bytes.{one_byte}
use Rattle.packet_fields.specs.internal.row.Values.{row_bytes}
use Rattle.packet_journey.specs.internal.point_bytes.Windows.{latest_widths, latest_most, marks_widths, marks_most, doors_widths, leaving_widths, eight_most}
use Rattle.packet_fields.proofs.row.Held.{all_bytes, no_bytes, all_zero}

module _ (t : ℕ) where
  -- ---- the latest arrival

  pub latest_none : 86400 < t % 131072 → 0 ≡ row_bytes latest_most (low_parts latest_widths t)
  latest_none h = no_bytes latest_most (low_parts latest_widths t) (λ k. omega (arith, h, k.1.0))

  pub latest_some : t < 2 ^ 32 → t % 131072 ≤ 86400 → {a b : ℕ} → a ≡ length (groups_in (t / 131072)) → b ≡ length (groups_in (t % 131072)) → a + b ≡ row_bytes latest_most (low_parts latest_widths t)
  latest_some l h {a} {b} ea eb =
      let p : t / 131072 % 32768 ≡ t / 131072 = omega arith in
      all_bytes latest_most (low_parts latest_widths t) (omega arith, (omega arith, tt)) (rw p (omega (arith, ea, eb)))

  -- ---- T_Arrival_Window to Q_Day_Light_Saving

  pub alignment_none : 2 < t / 32 % 4 → 0 ≡ row_bytes marks_most (low_parts marks_widths t)
  alignment_none h = no_bytes marks_most (low_parts marks_widths t) (λ k. omega (arith, h, k.1.0))

  pub stop_skip_passes_none : 2 < t / 8 % 4 → 0 ≡ row_bytes marks_most (low_parts marks_widths t)
  stop_skip_passes_none h = no_bytes marks_most (low_parts marks_widths t) (λ k. omega (arith, h, k.1.1.0))

  pub information_none : 1 < t / 2 % 4 → 0 ≡ row_bytes marks_most (low_parts marks_widths t)
  information_none h = no_bytes marks_most (low_parts marks_widths t) (λ k. omega (arith, h, k.1.1.1.0))

  pub marks_some : t < 131072 → t / 32 % 4 ≤ 2 → t / 8 % 4 ≤ 2 → t / 2 % 4 ≤ 1 → {a : ℕ} → a ≡ length (groups_in (t / 128)) → a + 4 ≡ row_bytes marks_most (low_parts marks_widths t)
  marks_some l h i j {a} ea =
      let p : t / 128 % 1024 ≡ t / 128 = omega arith in
      all_bytes marks_most (low_parts marks_widths t) (omega arith, (h, (i, (j, (omega arith, tt)))))
      (rw p (omega (arith, ea, one_byte (t / 32 % 4) (omega arith), one_byte (t / 8 % 4) (omega arith), one_byte (t / 2 % 4) (omega arith), one_byte (t % 2) (omega arith))))

-- ---- the last eight fields

module _ (doors leaving : ℕ) where
  pub leaving_none : leaving < 268435456 → 86399 < leaving / 2048 → 0 ≡ row_bytes (eight_most 0) (low_parts doors_widths doors ++ low_parts leaving_widths leaving)
  leaving_none l h = no_bytes (eight_most 0) (low_parts doors_widths doors ++ low_parts leaving_widths leaving) (λ k. omega (arith, h, l, k.1.1.1.1.1.0))

  pub not_passing_some : leaving < 268435456 → leaving / 2048 ≤ 86399 → {a b c : ℕ} → a ≡ length (groups_in (doors % 32768)) → b ≡ length (groups_in (leaving / 2048)) → c ≡ length (groups_in (leaving / 2 % 1024))
      → a + b + c + 5 ≡ row_bytes (eight_most 0) (low_parts doors_widths doors ++ low_parts leaving_widths leaving)
  not_passing_some l h {a} {b} {c} ea eb ec =
      let q : leaving / 2048 % 131072 ≡ leaving / 2048 = omega arith in
      all_bytes (eight_most 0) (low_parts doors_widths doors ++ low_parts leaving_widths leaving)
      (omega arith, (omega arith, (omega arith, (omega arith, (omega arith, (omega arith, (omega arith, (omega arith, tt))))))))
      (rw q (omega (arith, ea, eb, ec, one_byte (doors / 262144 % 4) (omega arith), one_byte (doors / 131072 % 2) (omega arith), one_byte (doors / 65536 % 2) (omega arith), one_byte (doors / 32768 % 2) (omega arith), one_byte (leaving % 2) (omega arith))))

  pub not_passing_eight : (stop_skip_passes : ℕ) → (stop_skip_passes ≡ 2 → ⊥) → {r : ℕ} → r ≡ row_bytes (eight_most 0) (low_parts doors_widths doors ++ low_parts leaving_widths leaving) → r ≡ row_bytes (eight_most stop_skip_passes) (low_parts doors_widths doors ++ low_parts leaving_widths leaving)
  not_passing_eight stop_skip_passes h e = rw (ne_eqb stop_skip_passes 2 h) e

  pub passing_doors : doors < 1048576 → (doors ≡ 0 → ⊥) → 0 ≡ row_bytes (eight_most 2) (low_parts doors_widths doors ++ low_parts leaving_widths leaving)
  passing_doors l h = no_bytes (eight_most 2) (low_parts doors_widths doors ++ low_parts leaving_widths leaving) (λ k. h (omega (arith, l, all_zero doors_widths doors (k.0, (k.1.0, (k.1.1.0, (k.1.1.1.0, (k.1.1.1.1.0, tt))))))))

  pub passing_leaving : leaving < 268435456 → (leaving ≡ 0 → ⊥) → 0 ≡ row_bytes (eight_most 2) (low_parts doors_widths doors ++ low_parts leaving_widths leaving)
  passing_leaving l h = no_bytes (eight_most 2) (low_parts doors_widths doors ++ low_parts leaving_widths leaving) (λ k. h (omega (arith, l, all_zero leaving_widths leaving k.1.1.1.1.1)))

pub passing_some : 8 ≡ row_bytes (eight_most 2) (low_parts doors_widths 0 ++ low_parts leaving_widths 0)
unfolding groups_in
passing_some = refl
