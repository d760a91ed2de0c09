-- A row whose bits are all present: the step over it from the bytes of its values, and a field in its midst whose value is known.
use mathlib.Core.Path.{◌≡◌, refl, sym, ◌∙◌}
use mathlib.Core.Bool.{true, false}
use mathlib.Core.List.{List, [], ◌∷◌}
use Prim.Native.Nat.{ℕ, ◌+◌, ◌-◌, ◌≤◌}
use native.Mathlib.Omega.{arith}
use borrow.Author.Tests.{leb-true, leb-false}
use lib.Dec.{leb}
use lib.ListN.{length}
use Rattle.bits.specs.Bits.{field_at}
use Rattle.bits.specs.internal.Windows.{bits_in, fields_at}
use Rattle.bits.proofs.Tests.{by_cases, and_left, and_right}
use Rattle.numbers.specs.Numbers.{groups_in}
use Rattle.numbers.proofs.Counting.{count_some}
use Rattle.kinds.specs.Kind.{up_to}
use Rattle.fields.proofs.size.Bytes as counts
use Rattle.format.specs.Format.{Format, field, then}
use Rattle.format.proofs.Ways.{over_on, over_off}
use Rattle.grammar.specs.internal.rows.Rows.{row, fits}
use Rattle.format.specs.internal.Ways.{Went, Got, Over, Took}
use Rattle.packet_fields.specs.internal.Judging.{judge, verdict_at, Standing}
use Rattle.packet_fields.proofs.Steps.{took_none, took_some, past, past_off}
use Rattle.packet_fields.specs.internal.row.Values.{within, groups_all, row_bytes}
use Rattle.packet_fields.proofs.row.Rows.{fits_first, fits_rest}

module _ (s : List ℕ) (stop : ℕ) where
  -- ---- one field

  module _ (w m : ℕ) {at n : ℕ} (some : 1 ≤ w) (h : Standing s stop at n) (room : w ≤ stop - at) where
    field_in : leb (field_at s at w) m ≡ true → Took (judge s stop) (up_to w m) at n (Got.is (field_at s at w) (at + w) (n + length (groups_in (field_at s at w))))
    field_in e = took_some s stop (up_to w m) w refl h some room refl (counts.bytes_some (up_to w m) (field_at s at w) (counts.both_in 0 m (field_at s at w) (omega arith) (leb-true (field_at s at w) m e)) refl) (λ z. omega (arith, z, count_some (field_at s at w)))

    field_out : leb (field_at s at w) m ≡ false → Took (judge s stop) (up_to w m) at n (Got.off 4 at)
    field_out e = took_none s stop (up_to w m) w refl h some room refl (counts.bytes_none (up_to w m) (field_at s at w) (counts.high_out 0 m (field_at s at w) (leb-false (field_at s at w) m e))) refl

    -- what follows the field may as well be what follows its value
    known : (next : ℕ → Format) → verdict_at s stop (field (up_to w m) next) at n ≡ verdict_at s stop (then (up_to w m) (next (field_at s at w))) at n
    known next =
        by_cases (leb (field_at s at w) m)
        (λ e. let t = field_in e in t.goes next ∙ sym (t.goes (λ v. next (field_at s at w))))
        (λ e. let t = field_out e in t.goes next ∙ sym (t.goes (λ v. next (field_at s at w))))

  -- ---- a row

  -- the first field of a row, and the others
  module _ (w m : ℕ) (ws ms : List ℕ) (e : fits (w ∷ ws) (m ∷ ms) ≡ true) {at n : ℕ} (h : Standing s stop at n) (room : w + bits_in ws ≤ stop - at) where
    first_in : leb (field_at s at w) m ≡ true → Took (judge s stop) (up_to w m) at n (Got.is (field_at s at w) (at + w) (n + length (groups_in (field_at s at w))))
    first_in i = field_in w m (fits_first w m ws ms e).some h (omega arith) i

    on : leb (field_at s at w) m ≡ true → Over (judge s stop) (row ws ms) (at + w) (n + length (groups_in (field_at s at w))) (Went.on (at + w + bits_in ws) (n + length (groups_in (field_at s at w)) + groups_all (fields_at s (at + w) ws)))
        → Over (judge s stop) (row (w ∷ ws) (m ∷ ms)) at n (Went.on (at + (w + bits_in ws)) (n + (length (groups_in (field_at s at w)) + groups_all (fields_at s (at + w) ws))))
    unfolding row
    on i o =
        let p : at + w + bits_in ws ≡ at + (w + bits_in ws) = omega arith in
        let q : n + length (groups_in (field_at s at w)) + groups_all (fields_at s (at + w) ws) ≡ n + (length (groups_in (field_at s at w)) + groups_all (fields_at s (at + w) ws)) = omega arith in
        let r = over_on (past s stop (first_in i)) o in
        rw (← p, ← q) (record { goes = r.goes; stands = r.stands })

    off : leb (field_at s at w) m ≡ true → {place : ℕ} → Over (judge s stop) (row ws ms) (at + w) (n + length (groups_in (field_at s at w))) (Went.off 4 place)
        → Over (judge s stop) (row (w ∷ ws) (m ∷ ms)) at n (Went.off 4 place)
    unfolding row
    off i o = let r = over_on (past s stop (first_in i)) o in record { goes = r.goes; stands = r.stands }

    first_off : leb (field_at s at w) m ≡ false → Over (judge s stop) (row (w ∷ ws) (m ∷ ms)) at n (Went.off 4 at)
    unfolding row
    first_off i = let r = over_off {q = row ws ms} (past_off s stop (field_out w m (fits_first w m ws ms e).some h (omega arith) i)) in record { goes = r.goes; stands = r.stands }

  pub row_in : (ws ms : List ℕ) → fits ws ms ≡ true → {at n : ℕ} → Standing s stop at n → bits_in ws ≤ stop - at → within ms (fields_at s at ws) ≡ true
      → Over (judge s stop) (row ws ms) at n (Went.on (at + bits_in ws) (n + groups_all (fields_at s at ws)))
  unfolding row
  row_in [] ms e {at} {n} h room i = let p : at + 0 ≡ at = omega arith in let q : n + 0 ≡ n = omega arith in rw (p, q) (record { goes = λ f. refl; stands = h })
  row_in (w ∷ ws) [] e h room i = absurd (let z : ◌≡◌ {A = ℕ} 0 1 = cc in omega arith)
  row_in (w ∷ ws) (m ∷ ms) e {at} h room i =
      let a = and_left (leb (field_at s at w) m) (within ms (fields_at s (at + w) ws)) i in
      on w m ws ms e h room a (row_in ws ms (fits_rest w m ws ms e) (first_in w m ws ms e h room a).stands (omega arith) (and_right (leb (field_at s at w) m) (within ms (fields_at s (at + w) ws)) i))

  -- a row that is refused at one of its fields
  row_out : (ws ms : List ℕ) → fits ws ms ≡ true → {at n : ℕ} → Standing s stop at n → bits_in ws ≤ stop - at → within ms (fields_at s at ws) ≡ false
      → (place : ℕ) × Over (judge s stop) (row ws ms) at n (Went.off 4 place)
  row_out [] ms e h room i = absurd (let z : ◌≡◌ {A = ℕ} 0 1 = cc in omega arith)
  row_out (w ∷ ws) [] e h room i = absurd (let z : ◌≡◌ {A = ℕ} 0 1 = cc in omega arith)
  row_out (w ∷ ws) (m ∷ ms) e {at} h room i =
      by_cases (leb (field_at s at w) m)
      (λ a. let o = row_out ws ms (fits_rest w m ws ms e) (first_in w m ws ms e h room a).stands (omega arith) (rw a at i) in (o.0, off w m ws ms e h room a o.1))
      (λ a. (at, first_off w m ws ms e h room a))

  -- ---- a row, from the bytes of its values

  module _ (w m : ℕ) (ws ms : List ℕ) (e : fits (w ∷ ws) (m ∷ ms) ≡ true) {at n r : ℕ} (h : Standing s stop at n) (room : bits_in (w ∷ ws) ≤ stop - at)
      (er : r ≡ row_bytes (m ∷ ms) (fields_at s at (w ∷ ws))) where
    pub bytes_some : (r ≡ 0 → ⊥) → Over (judge s stop) (row (w ∷ ws) (m ∷ ms)) at n (Went.on (at + bits_in (w ∷ ws)) (n + r))
    bytes_some z =
        by_cases (within (m ∷ ms) (fields_at s at (w ∷ ws)))
        (λ i. let q : r ≡ groups_all (fields_at s at (w ∷ ws)) = er ∙ rw i in rw q (row_in (w ∷ ws) (m ∷ ms) e h room i))
        (λ i. absurd (z (er ∙ rw i)))

  -- ---- a row and a field on which what follows depends: what follows may as well be what follows the field's value

  pub row_known : (ws ms : List ℕ) → fits ws ms ≡ true → (w m : ℕ) → 1 ≤ w → {at n : ℕ} → Standing s stop at n → bits_in ws + w ≤ stop - at → (next : ℕ → Format)
      → verdict_at s stop (row ws ms (field (up_to w m) next)) at n ≡ verdict_at s stop (row ws ms (then (up_to w m) (next (field_at s (at + bits_in ws) w)))) at n
  row_known ws ms e w m some {at} h room next =
      by_cases (within ms (fields_at s at ws))
      (λ i. let o = row_in ws ms e h (omega arith) i in
      o.goes (field (up_to w m) next) ∙ known w m some o.stands (omega arith) next ∙ sym (o.goes (then (up_to w m) (next (field_at s (at + bits_in ws) w)))))
      (λ i. let o = (row_out ws ms e h (omega arith) i).1 in o.goes (field (up_to w m) next) ∙ sym (o.goes (then (up_to w m) (next (field_at s (at + bits_in ws) w)))))
