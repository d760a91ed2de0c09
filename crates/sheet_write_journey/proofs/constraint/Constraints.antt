-- A temporary constraint of an accepted packet, part after part.
use mathlib.Core.Path.{◌≡◌, refl}
use mathlib.Core.Bool.{true}
use mathlib.Core.List.{List, [], ◌∷◌}
use Prim.Native.Nat.{ℕ, ◌+◌, ◌*◌, ◌/◌, ◌%◌, ◌≤◌}
use native.Mathlib.Omega.{arith}
use borrow.Author.Tests.{leb-true}
use lib.Dec.{leb}
use Rattle.bits.specs.Bits.{field_at}
use Rattle.bits.proofs.Tests.{and_right}
use Rattle.bits.proofs.Windows.{parts_at, part}
use Rattle.numbers.specs.internal.Groups.{Put}
use Rattle.kinds.specs.Kinds.{no_current}
use Rattle.format.specs.Format.{Format, field, then}
use Rattle.kinds.specs.journey.Kinds.{q_tc_type, q_tc_range, d_tc_start_location, d_tc_end_location, q_tc_front, v_speed_level, q_low_adhesion_rate}
use Rattle.grammar.specs.journey.Journey.{stretch, restriction, temporary_constraint}
use Rattle.grammar.proofs.journey.Tree.{by_range, by_type, end_width, level_width}
use Rattle.sheet_write_segment.specs.internal.elements.Writing.{putting, PartWritable, Wrote}
use Rattle.sheet_write_segment.proofs.elements.Writing.{Puts, Along, along_here, along_none, along_put, field_here}
use Rattle.sheet_write_segment.specs.internal.row.Row.{put_all, FitAll, none, more, Row, copied}
use Rattle.sheet_write_segment.proofs.row.Rows.{row_first, row_after, row_both}
use Rattle.sheet_write_segment.proofs.row.Tree.{Rowing, rowing_none, rowing_field, rowing_here}
use Rattle.sheet_write_journey.specs.internal.constraint.Numbers.{start_widths, stretch_widths, restriction_at, RestrictionFits}

-- ---- the numbers of the kinds that depend on the range or the type

end_same : (range start v : ℕ) → (d_tc_end_location range start).raise v ≡ v
end_same range start v = by_range (λ k. k.raise v ≡ v) range start refl refl

unused : (v : ℕ) → v ≤ 0 → v ≡ v * 5
unused v h = omega arith

level_raised : (type v : ℕ) → (v_speed_level type).allowed v ≡ true → (v_speed_level type).raise v ≡ v * 5
level_raised type v = by_type (λ k. k.allowed v ≡ true → k.raise v ≡ v * 5) type (λ e. refl) (λ e. unused v (leb-true v 0 (and_right (leb 0 v) (leb v 0) e)))

-- ---- the restriction, read at once as t

module _ (s : List ℕ) (at : ℕ) (p : Put) (h : RestrictionFits s at p) {t : ℕ} (e : t ≡ field_at s at 21) where
  abbrev cuts : List ℕ
  cuts = t / 1048576 ∷ t / 8192 % 128 * 5 ∷ t / 1024 % 8 ∷ 0 ∷ []

  restriction_cuts : restriction_at s at ≡ cuts
  restriction_cuts =
      let v = parts_at s at (1 ∷ 7 ∷ 3 ∷ 10 ∷ []) e h.inside in
      let a : t / 1048576 ≡ field_at s at 1 = part v 0 in
      let b : t / 8192 % 128 ≡ field_at s (at + 1) 7 = part v 1 in
      let c : t / 1024 % 8 ≡ field_at s (at + 1 + 7) 3 = part v 2 in
      let p : at + 1 + 7 ≡ at + 8 = omega arith in
      rw (a, b, c, p)

  pub restriction_fits : FitAll p cuts
  restriction_fits = rw restriction_cuts at h.holds

  pub restriction_put : {q : Put} → q ≡ put_all p cuts → q ≡ put_all p (restriction_at s at)
  restriction_put d = rw restriction_cuts d

-- ---- the whole

module _ (s : List ℕ) (stop : ℕ) {at : ℕ} {p : Put} (h : PartWritable temporary_constraint s stop at p) where
  abbrev type : ℕ
  type = field_at s (at + 0) 2

  stretch_rowing : Rowing s stop at p temporary_constraint (restriction type) stretch_widths
  stretch_rowing =
      let range = field_at s (at + 2) 2 in
      let start = field_at s (at + 4) 24 in
      let typed = rowing_field s stop at p [] h q_tc_type (λ type f. field q_tc_range λ range. stretch range (restriction type f)) 2 refl (λ v. refl) (rowing_none s stop at p h) type refl in
      let ranged = rowing_field s stop at p (2 ∷ []) h q_tc_range (λ range f. stretch range (restriction type f)) 2 refl (λ v. refl) typed range refl in
      let started = rowing_field s stop at p (2 ∷ 2 ∷ []) h (d_tc_start_location range) (λ start f. then (d_tc_end_location range start) (restriction type f)) 24 refl (λ v. refl) ranged start refl in
      rowing_field s stop at p start_widths h (d_tc_end_location range start) (λ v. restriction type) 24 (end_width range start) (end_same range start) started _ refl

  stretch_row : Row s at stretch_widths p
  stretch_row = rowing_here s stop at p stretch_rowing

  pub start_row : Row s at start_widths p
  start_row = row_first s at start_widths (24 ∷ []) p stretch_row

  pub end_row : {q : Put} → q ≡ copied s at start_widths p → Row s (at + 28) (24 ∷ []) q
  end_row a = row_after s at start_widths (24 ∷ []) p (at + 28) refl a stretch_row

  module _ {o q : Put} (a : o ≡ copied s at start_widths p) (b : q ≡ copied s (at + 28) (24 ∷ []) o) where
    abbrev to : ℕ
    to = at + 52

    abbrev front : ℕ
    front = field_at s to 1

    abbrev level : ℕ
    level = field_at s (to + 1) 7

    abbrev adhesion : ℕ
    adhesion = field_at s (to + 8) 3

    -- what is left from each field on, and that the fields before it are put
    abbrev current : Format → Format
    current f = then no_current f

    abbrev adhesive : Format → Format
    adhesive f = then (q_low_adhesion_rate type) (current f)

    abbrev levelled : Format → Format
    levelled f = then (v_speed_level type) (adhesive f)

    at_front : Along s stop temporary_constraint (restriction type) at p to q
    at_front = rw (row_both s at start_widths (24 ∷ []) p (at + 28) refl a b) stretch_rowing.along

    at_level : Along s stop temporary_constraint levelled at p (to + 1) (putting q front)
    at_level = along_put s stop (q_tc_front type) (λ v. levelled) 1 refl at_front h front refl (to + 1) refl refl

    level_puts : Puts (v_speed_level type) s stop (to + 1) (putting q front) 7 level
    level_puts = field_here s stop (v_speed_level type) (λ v. adhesive) 7 (level_width type) (along_here s stop at_level h) level refl

    level_now : (v_speed_level type).raise level ≡ level * 5
    level_now = level_raised type level level_puts.allowed

    at_adhesion : Along s stop temporary_constraint adhesive at p (to + 8) (putting (putting q front) (level * 5))
    at_adhesion = along_put s stop (v_speed_level type) (λ v. adhesive) 7 (level_width type) at_level h level refl (to + 8) (omega arith) (rw level_now)

    at_current : Along s stop temporary_constraint current at p (to + 11) (putting (putting (putting q front) (level * 5)) adhesion)
    at_current = along_put s stop (q_low_adhesion_rate type) (λ v. current) 3 refl at_adhesion h adhesion refl (to + 11) (omega arith) refl

    current_puts : Puts no_current s stop (to + 11) (putting (putting (putting q front) (level * 5)) adhesion) 10 (field_at s (to + 11) 10)
    current_puts = field_here s stop no_current (λ v f. f) 10 refl (along_here s stop at_current h) _ refl

    pub restriction_here : RestrictionFits s to q
    restriction_here = record {
      inside = omega (arith, current_puts.whole, at_current.left.stands.before, h.reads.inside);
      long = h.reads.long;
      holds =
          more (field_here s stop (q_tc_front type) (λ v. levelled) 1 refl (along_here s stop at_front h) front refl).fits
          (more (rw level_now at level_puts.fits)
          (more (field_here s stop (q_low_adhesion_rate type) (λ v. current) 3 refl (along_here s stop at_adhesion h) adhesion refl).fits
          (more current_puts.fits none)));
    }

    pub constraint_wrote : {r : Put} → r ≡ put_all q (restriction_at s to) → Wrote temporary_constraint s stop at p (at + 73) r
    unfolding put_all
    constraint_wrote e = along_none s stop (along_put s stop no_current (λ v f. f) 10 refl at_current h _ refl (at + 73) (omega arith) e)
