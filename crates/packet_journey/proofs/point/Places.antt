-- A timing point whose bits are all present: the step over it, from the bytes of its parts.
use mathlib.Core.Path.{◌≡◌, refl, sym, ap, ◌∙◌}
use mathlib.Core.Bool.{true}
use mathlib.Core.List.{List, [], ◌∷◌, ◌++◌}
use Prim.Native.Nat.{ℕ, ◌+◌, ◌*◌, ◌-◌, ◌/◌, ◌%◌, ◌≤◌}
use native.Mathlib.Omega.{arith}
use borrow.Author.Tests.{le-leb}
use lib.Dec.{lit≤, eqb}
use lib.ListN.{length}
use Rattle.bits.specs.Bits.{field_at}
use Rattle.bits.specs.internal.Windows.{fields_at, low_parts}
use Rattle.bits.proofs.Tests.{by_cases}
use Rattle.bits.proofs.Fields.{window_small}
use Rattle.bits.proofs.Windows.{read_window, low_parts_at, fields_join}
use Rattle.numbers.specs.Numbers.{groups_in}
use Rattle.numbers.proofs.Counting.{count_some, count_five}
use Rattle.format.specs.Format.{Format}
use Rattle.format.specs.internal.Ways.{Went, Over}
use Rattle.format.proofs.Ways.{over_on}
use Rattle.grammar.specs.internal.rows.Rows.{row, fits}
use Rattle.kinds.specs.journey.Kinds.{most_at}
use Rattle.grammar.specs.journey.Journey.{timing_point}
use Rattle.grammar.specs.internal.journey.Parts.{arrival_widths, arrival_most, stopping_widths, stopping_most}
use Rattle.grammar.proofs.journey.Parts.{point_rows_lem, arrival_fits}
use Rattle.packet_fields.specs.internal.Judging.{verdict_at, judge, Standing}
use Rattle.packet_fields.specs.internal.row.Values.{within, groups_all, row_bytes}
use Rattle.packet_fields.proofs.row.Whole.{bytes_some, row_known}
use Rattle.packet_journey.specs.internal.point_bytes.Windows.{latest_widths, latest_most, marks_widths, marks_most, doors_widths, leaving_widths, eight_most}

abbrev eight_widths : List ℕ
eight_widths = 2 ∷ 1 ∷ 1 ∷ 1 ∷ 15 ∷ 17 ∷ 10 ∷ 1 ∷ []

eight_fits : (stop_skip_passes : ℕ) → fits eight_widths (eight_most stop_skip_passes) ≡ true
eight_fits stop_skip_passes = by_cases (eqb stop_skip_passes 2) (λ e. rw e) (λ e. rw e)

-- the largest values after the door side
abbrev after_door : ℕ → List ℕ
after_door stop_skip_passes = most_at stop_skip_passes 1 ∷ most_at stop_skip_passes 1 ∷ most_at stop_skip_passes 1 ∷ most_at stop_skip_passes 32767 ∷ most_at stop_skip_passes 86399 ∷ most_at stop_skip_passes 1023 ∷ most_at stop_skip_passes 1 ∷ []

-- the point's fields in the rows that are read at once
abbrev point_rows : ℕ → Format → Format
point_rows stop_skip_passes f = row (32 ∷ []) (4294967295 ∷ []) (row latest_widths latest_most (row marks_widths marks_most (row eight_widths (eight_most stop_skip_passes) f)))

-- no value has more than five bytes
groups_small : (vs : List ℕ) → groups_all vs ≤ 5 * length vs
groups_small [] = lit≤ tt
groups_small (v ∷ vs) = omega (arith, count_five v, groups_small vs)

row_small : (ms vs : List ℕ) → row_bytes ms vs ≤ 5 * length vs
row_small ms vs = by_cases (within ms vs) (λ e. rw e (groups_small vs)) (λ e. rw e (omega arith))

module _ (s : List ℕ) (stop : ℕ) {at n : ℕ} (h : Standing s stop at n) (room : 129 ≤ stop - at) where
  inside : at + 129 ≤ 8 * length s
  inside = omega (arith, h.inside, h.before)

  rows_same : (f : Format) → verdict_at s stop (timing_point f) at n ≡ verdict_at s stop (point_rows (field_at s (at + 76) 2) f) at n
  unfolding row
  rows_same f =
      ap (λ (g : Format). verdict_at s stop g at n) (point_rows_lem f)
      ∙ row_known s stop arrival_widths arrival_most arrival_fits 2 2 (lit≤ tt) h (omega arith) (λ v. row stopping_widths (stopping_most v) f)

  module _ {latest marks doors leaving : ℕ} (el : latest ≡ field_at s (at + 32) 32) (em : marks ≡ field_at s (at + 64) 17) (ed : doors ≡ field_at s (at + 81) 20) (ev : leaving ≡ field_at s (at + 101) 28)
      {a b c d : ℕ} (ea : a ≡ length (groups_in (field_at s at 32))) (eb : b ≡ row_bytes latest_most (low_parts latest_widths latest)) (ec : c ≡ row_bytes marks_most (low_parts marks_widths marks))
      (ee : d ≡ row_bytes (eight_most (marks / 8 % 4)) (low_parts doors_widths doors ++ low_parts leaving_widths leaving)) where
    -- Q_Stop_Skip_Passes is among the marks
    from : {r : Went ℕ} → Over (judge s stop) (point_rows (marks / 8 % 4)) at n r → Over (judge s stop) timing_point at n r
    from o =
        let k : field_at s (at + 76) 2 ≡ marks / 8 % 4 = rw em (sym (read_window s (at + 64) (at + 76) 2 3 17 (omega arith) (omega arith) (omega (arith, inside)))) in
        record { goes = λ f. (rw k at (rows_same f)) ∙ o.goes f; stands = o.stands }

    -- ---- the values of each row

    name_bytes_lem : a ≡ row_bytes (4294967295 ∷ []) (fields_at s at (32 ∷ []))
    name_bytes_lem = rw (le-leb (field_at s at 32) 4294967295 (omega (arith, window_small s at 32 {v = field_at s at 32} refl))) (omega (arith, ea))

    latest_bytes : b ≡ row_bytes latest_most (fields_at s (at + 32) latest_widths)
    latest_bytes = eb ∙ ap (row_bytes latest_most) (low_parts_at s (at + 32) latest_widths el (omega (arith, inside)))

    marks_bytes : c ≡ row_bytes marks_most (fields_at s (at + 64) marks_widths)
    marks_bytes = ec ∙ ap (row_bytes marks_most) (low_parts_at s (at + 64) marks_widths em (omega (arith, inside)))

    eight_values : low_parts doors_widths doors ++ low_parts leaving_widths leaving ≡ fields_at s (at + 81) eight_widths
    eight_values =
        let p : at + 81 + 20 ≡ at + 101 = omega arith in
        let x = low_parts_at s (at + 81) doors_widths ed (omega (arith, inside)) in
        let y = low_parts_at s (at + 101) leaving_widths ev (omega (arith, inside)) in
        ap (λ (l : List ℕ). l ++ low_parts leaving_widths leaving) x ∙ ap (λ (l : List ℕ). fields_at s (at + 81) doors_widths ++ l) y ∙ sym (rw p at (fields_join s (at + 81) doors_widths leaving_widths))

    eight_bytes : d ≡ row_bytes (eight_most (marks / 8 % 4)) (fields_at s (at + 81) eight_widths)
    eight_bytes = ee ∙ ap (row_bytes (eight_most (marks / 8 % 4))) eight_values

    pub small : a + b + c + d ≤ 80
    small = omega (arith, ea, count_five (field_at s at 32), eb, row_small latest_most (low_parts latest_widths latest), ec, row_small marks_most (low_parts marks_widths marks), ee, row_small (eight_most (marks / 8 % 4)) (low_parts doors_widths doors ++ low_parts leaving_widths leaving))

    -- ---- the steps over the rows

    name_over : Over (judge s stop) (row (32 ∷ []) (4294967295 ∷ [])) at n (Went.on (at + 32) (n + a))
    name_over = bytes_some s stop 32 4294967295 [] [] refl h (omega arith) name_bytes_lem (λ z. omega (arith, z, ea, count_some (field_at s at 32)))

    module _ (zb : b ≡ 0 → ⊥) where
      latest_over : Over (judge s stop) (row latest_widths latest_most) (at + 32) (n + a) (Went.on (at + 64) (n + a + b))
      latest_over = let p : at + 32 + 32 ≡ at + 64 = omega arith in rw p at (bytes_some s stop 15 32767 (17 ∷ []) (86400 ∷ []) refl name_over.stands (omega arith) latest_bytes zb)

      module _ (zc : c ≡ 0 → ⊥) where
        marks_over : Over (judge s stop) (row marks_widths marks_most) (at + 64) (n + a + b) (Went.on (at + 81) (n + a + b + c))
        marks_over = let p : at + 64 + 17 ≡ at + 81 = omega arith in rw p at (bytes_some s stop 10 1023 (2 ∷ 2 ∷ 2 ∷ 1 ∷ []) (2 ∷ 2 ∷ 1 ∷ 1 ∷ []) refl latest_over.stands (omega arith) marks_bytes zc)

        pub point_on : (d ≡ 0 → ⊥) → Over (judge s stop) timing_point at n (Went.on (at + 129) (n + (a + b + c + d)))
        point_on z =
            let p : at + 81 + 48 ≡ at + 129 = omega arith in
            let q : n + a + b + c + d ≡ n + (a + b + c + d) = omega arith in
            from (rw (p, q) at (over_on name_over (over_on latest_over (over_on marks_over
            (bytes_some s stop 2 (most_at (marks / 8 % 4) 3) (1 ∷ 1 ∷ 1 ∷ 15 ∷ 17 ∷ 10 ∷ 1 ∷ []) (after_door (marks / 8 % 4)) (eight_fits (marks / 8 % 4)) marks_over.stands (omega arith) eight_bytes z)))))
