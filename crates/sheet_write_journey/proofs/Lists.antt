-- A segment of an accepted journey, part after part.
use mathlib.Core.Path.{◌≡◌, refl}
use mathlib.Core.List.{List, []}
use Prim.Native.Nat.{ℕ, ◌+◌, ◌*◌, ◌≤◌, ◌<◌}
use native.Mathlib.Nat.{le_refl}
use native.Mathlib.Omega.{arith}
use lib.Dec.{lit<, lit≤}
use lib.ListN.{length}
use Rattle.bits.specs.Bits.{field_at}
use Rattle.bits.proofs.Fields.{field_small}
use Rattle.numbers.specs.Numbers.{groups_in}
use Rattle.numbers.specs.internal.Groups.{Put}
use Rattle.kinds.specs.Kinds.{n_iter}
use Rattle.format.specs.Format.{field, times}
use Rattle.grammar.specs.internal.rows.Rows.{row}
use Rattle.grammar.specs.journey.Journey.{timing_point, temporary_constraint, journey_segment}
use Rattle.grammar.specs.internal.journey.Parts.{segment_widths, segment_most, constraint_list, segment_rest}
use Rattle.grammar.proofs.journey.Parts.{segment_rows_lem, segment_fits}
use Rattle.sheet_write_segment.specs.internal.elements.Writing.{putting, PartWritable, Wrote}
use Rattle.sheet_write_segment.proofs.elements.Writing.{Along, along_here, along_next, along_on, along_none, along_put, field_here, field_read}
use Rattle.sheet_write_segment.specs.internal.row.Row.{Row, copied}
use Rattle.sheet_write_segment.proofs.row.Tree.{Rowing, rowing_none, rowing_as, rowing_row, rowing_field, rowing_here}
use Rattle.sheet_write_journey.specs.internal.rows.Widths.{start_widths}

module _ (s : List ℕ) (stop limit : ℕ) {at : ℕ} {p : Put} (h : PartWritable (journey_segment limit) s stop at p) where
  start_rowing : (n : ℕ) → n ≡ field_at s (at + 59) 5 → Rowing s stop at p (journey_segment limit) (segment_rest limit n) start_widths
  start_rowing n e =
      let start = rowing_as s stop at p (λ f. row segment_widths segment_most (field (n_iter 31) λ n. segment_rest limit n f)) (segment_rows_lem limit) (rowing_none s stop at p h) in
      let fields = rowing_row s stop at p [] h (λ f. field (n_iter 31) λ n. segment_rest limit n f) segment_widths segment_most segment_fits start in
      rowing_field s stop at p segment_widths h (n_iter 31) (segment_rest limit) 5 refl (λ v. refl) fields n e

  pub start_row : Row s at start_widths p
  start_row = rowing_here s stop at p (start_rowing _ refl)

  module _ {q : Put} (c : q ≡ copied s at start_widths p) {n : ℕ} (e : n ≡ field_at s (at + 59) 5) where
    at_points : Along s stop (journey_segment limit) (segment_rest limit n) at p (at + 64) q
    at_points = rw c (start_rowing n e).along

    pub points_writable : PartWritable (times timing_point n) s stop (at + 64) q
    points_writable = along_next s stop (times timing_point n) (constraint_list limit) at_points h

    module _ {to : ℕ} {r : Put} (w : Wrote (times timing_point n) s stop (at + 64) q to r) where
      at_count : Along s stop (journey_segment limit) (constraint_list limit) at p to r
      at_count = along_on s stop (times timing_point n) (constraint_list limit) at_points w

      count_here : PartWritable (constraint_list limit) s stop to r
      count_here = along_here s stop at_count h

      pub count_read : (0 < 5) × (5 ≤ 32) × (to + 5 ≤ 8 * length s) × (8 ≤ length s)
      count_read = field_read s stop (n_iter limit) (times temporary_constraint) 5 refl count_here (lit< tt) (lit≤ tt)

      module _ {v : ℕ} (d : v ≡ field_at s to 5) where
        pub count_fits : (v < 128) × (r.next + length (groups_in v) ≤ length r.bytes)
        count_fits = (omega (arith, field_small s to 5 5 (le_refl _)), (field_here s stop (n_iter limit) (times temporary_constraint) 5 refl count_here v d).fits)

        module _ {t : Put} (g : t ≡ putting r v) where
          at_constraints : Along s stop (journey_segment limit) (times temporary_constraint v) at p (to + 5) t
          at_constraints = along_put s stop (n_iter limit) (times temporary_constraint) 5 refl at_count h v d (to + 5) refl g

          pub constraints_writable : PartWritable (times temporary_constraint v) s stop (to + 5) t
          constraints_writable = along_here s stop at_constraints h

          pub segment_wrote : {a : ℕ} {u : Put} → Wrote (times temporary_constraint v) s stop (to + 5) t a u → Wrote (journey_segment limit) s stop at p a u
          segment_wrote o = along_none s stop (along_on s stop (times temporary_constraint v) (λ f. f) at_constraints o)
