-- A temporary constraint whose bits are all present: the step over it, from the bytes of its parts.
use mathlib.Core.Path.{◌≡◌, refl, ◌∙◌}
use mathlib.Core.List.{List, [], ◌∷◌}
use Prim.Native.Nat.{ℕ, ◌+◌, ◌-◌, ◌/◌, ◌%◌, ◌≤◌}
use native.Mathlib.Omega.{arith}
use lib.Dec.{lit≤}
use Rattle.bits.specs.Bits.{field_at}
use Rattle.bits.specs.internal.Windows.{fields_at, low_parts, parts}
use Rattle.bits.proofs.Fields.{window_small}
use Rattle.bits.proofs.Windows.{low_parts_at, parts_at, part}
use Rattle.kinds.specs.Kinds.{no_current}
use Rattle.format.proofs.Ways.{over_on, value_on}
use Rattle.kinds.specs.journey.Kinds.{q_tc_type, q_tc_range, d_tc_start_location, d_tc_end_location, q_tc_front, v_speed_level, q_low_adhesion_rate}
use Rattle.grammar.specs.journey.Journey as journey
use Rattle.grammar.specs.journey.Journey.{temporary_constraint}
use Rattle.grammar.specs.internal.journey.Parts.{after_type, after_range}
use Rattle.grammar.proofs.journey.Tree.{end_width, level_width}
use Rattle.format.specs.internal.Ways.{Went, Got, Over, Took}
use Rattle.packet_fields.specs.internal.Judging.{judge, Standing}
use Rattle.packet_fields.proofs.Steps.{took_some, past}
use Rattle.packet_journey.specs.internal.constraint_bytes.Bytes.{bytes_in, both, stretch_bytes, restriction_bytes}
use Rattle.packet_journey.proofs.constraint_bytes.Both.{some_both}
use Rattle.packet_journey.proofs.constraint_bytes.Values.{stretch_most, restriction_most, one_in}
use Rattle.packet_journey.proofs.constraint.Parts.{after_start}

-- bytes counted one after another
two_counted : (n x y : ℕ) {a : ℕ} → a ≡ x + y → n + x + y ≡ n + a
two_counted n x y e = omega (arith, e)

four_counted : (n w x y z : ℕ) {a p q : ℕ} → a ≡ w + p → p ≡ x + q → q ≡ y + z → n + w + x + y + z ≡ n + a
four_counted n w x y z e f g = omega (arith, e, f, g)

module _ (s : List ℕ) (stop : ℕ) where
  -- ---- the start and the end, by the range

  module _ (range start end : ℕ) {at n : ℕ} (h : Standing s stop at n) (room : 48 ≤ stop - at) (es : start ≡ field_at s at 24) (ee : end ≡ field_at s (at + 24) 24)
      {a : ℕ} (ea : a ≡ stretch_bytes range start end) (some : a ≡ 0 → ⊥) where
    stretch_on : Over (judge s stop) (journey.stretch range) at n (Went.on (at + 48) (n + a))
    stretch_on =
        let x : ℕ = bytes_in (d_tc_start_location range) start in
        let y : ℕ = bytes_in (d_tc_end_location range start) end in
        let o = some_both x y (λ z. some (ea ∙ z)) in
        let p : at + 24 + 24 ≡ at + 48 = omega arith in
        let t = took_some s stop (d_tc_start_location range) 24 refl h (lit≤ tt) (omega arith) es refl o.first in
        rw (p, two_counted n x y (ea ∙ o.sum)) at
        (value_on (after_start range) t (past s stop (took_some s stop (d_tc_end_location range start) 24 (end_width range start) t.stands (lit≤ tt) (omega arith) ee refl o.second)))

  -- ---- Q_FRONT to the current, by the type

  module _ (type t : ℕ) {at n : ℕ} (h : Standing s stop at n) (room : 21 ≤ stop - at) (et : t ≡ field_at s at 21) {a : ℕ} (ea : a ≡ restriction_bytes type t) (some : a ≡ 0 → ⊥) where
    uses : low_parts (1 ∷ 7 ∷ 3 ∷ 10 ∷ []) t ≡ fields_at s at (1 ∷ 7 ∷ 3 ∷ 10 ∷ [])
    uses = low_parts_at s at (1 ∷ 7 ∷ 3 ∷ 10 ∷ []) et (omega (arith, h.inside, h.before))

    restriction_on : Over (judge s stop) (journey.restriction type) at n (Went.on (at + 21) (n + a))
    restriction_on =
        let w : ℕ = bytes_in (q_tc_front type) (t / 1048576 % 2) in
        let x : ℕ = bytes_in (v_speed_level type) (t / 8192 % 128) in
        let y : ℕ = bytes_in (q_low_adhesion_rate type) (t / 1024 % 8) in
        let z : ℕ = bytes_in no_current (t % 1024) in
        let o = some_both w (both x (both y z)) (λ q. some (ea ∙ q)) in
        let u = some_both x (both y z) o.second in
        let v = some_both y z u.second in
        let p : at + 1 + 7 + 3 + 10 ≡ at + 21 = omega arith in
        let i = past s stop (took_some s stop (q_tc_front type) 1 refl h (lit≤ tt) (omega arith) (part uses 0) refl o.first) in
        let j = past s stop (took_some s stop (v_speed_level type) 7 (level_width type) i.stands (lit≤ tt) (omega arith) (part uses 1) refl u.first) in
        let k = past s stop (took_some s stop (q_low_adhesion_rate type) 3 refl j.stands (lit≤ tt) (omega arith) (part uses 2) refl v.first) in
        let l = past s stop (took_some s stop no_current 10 refl k.stands (lit≤ tt) (omega arith) (part uses 3) refl v.second) in
        rw (p, four_counted n w x y z (ea ∙ o.sum) u.sum v.sum) at (over_on i (over_on j (over_on k l)))

  -- ---- the whole constraint

  module _ {at n : ℕ} (h : Standing s stop at n) (room : 73 ≤ stop - at) {t end uses : ℕ} (et : t ≡ field_at s at 28) (ee : end ≡ field_at s (at + 28) 24) (eu : uses ≡ field_at s (at + 52) 21)
      {a b : ℕ} (ea : a ≡ stretch_bytes (t / 16777216 % 4) (t % 16777216) end) (eb : b ≡ restriction_bytes (t / 67108864) uses) where
    starts : parts (2 ∷ 2 ∷ 24 ∷ []) t ≡ fields_at s at (2 ∷ 2 ∷ 24 ∷ [])
    starts = parts_at s at (2 ∷ 2 ∷ 24 ∷ []) et (omega (arith, h.inside, h.before))

    type_took : Took (judge s stop) q_tc_type at n (Got.is (t / 67108864) (at + 2) (n + 1))
    type_took = took_some s stop q_tc_type 2 refl h (lit≤ tt) (omega arith) (part starts 0) (one_in 2 3 (t / 67108864) (omega (arith, window_small s at 28 et)) (omega (arith, window_small s at 28 et))) (λ z. omega arith)

    range_took : Took (judge s stop) q_tc_range (at + 2) (n + 1) (Got.is (t / 16777216 % 4) (at + 4) (n + 2))
    range_took =
        let p : at + 2 + 2 ≡ at + 4 = omega arith in
        let q : n + 1 + 1 ≡ n + 2 = omega arith in
        rw (p, q) at (took_some s stop q_tc_range 2 refl type_took.stands (lit≤ tt) (omega arith) (part starts 1) (one_in 2 3 (t / 16777216 % 4) (omega arith) (omega arith)) (λ z. omega arith))

    pub constraint_small : a + b ≤ 30
    constraint_small = omega (arith, ea, stretch_most (t % 16777216) end (t / 16777216 % 4), eb, restriction_most uses (t / 67108864))

    pub constraint_on : (a ≡ 0 → ⊥) → (b ≡ 0 → ⊥) → Over (judge s stop) temporary_constraint at n (Went.on (at + 73) (n + (a + b + 2)))
    constraint_on za zb =
        let e : at + 28 ≡ at + 4 + 24 = omega arith in
        let f : at + 52 ≡ at + 4 + 48 = omega arith in
        let g : at + 2 + 2 ≡ at + 4 = omega arith in
        let o = stretch_on (t / 16777216 % 4) (t % 16777216) end range_took.stands (omega arith) (rw g at (part starts 2)) (rw e at ee) ea za in
        let p : at + 4 + 48 + 21 ≡ at + 73 = omega arith in
        let q : n + 2 + a + b ≡ n + (a + b + 2) = omega arith in
        rw (p, q) at (value_on after_type type_took (value_on (after_range (t / 67108864)) range_took (over_on o (restriction_on (t / 67108864) uses o.stands (omega arith) (rw f at eu) eb zb))))
