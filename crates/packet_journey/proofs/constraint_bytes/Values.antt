-- The bytes of a temporary constraint's values, several fields at once, from what the code tested and counted.
use mathlib.Core.Path.{◌≡◌, sym, ◌∙◌}
use mathlib.Core.Bool.{Bool, true, false, ◌||◌}
use Prim.Native.Nat.{ℕ, ◌+◌, ◌/◌, ◌%◌, ◌≤◌, ◌<◌}
use native.Mathlib.Omega.{arith}
use borrow.Author.Tests.{ne_eqb, eqb-true, eqb-false}
use lib.Dec.{eqb, lit<, lit≤}
use lib.ListN.{length}
use Rattle.bits.proofs.Tests.{by_cases}
use Rattle.numbers.specs.Numbers.{groups_in}
use Rattle.numbers.proofs.Counting.{count_some, count_five}
use Rattle.kinds.specs.Kind.{Kind, up_to}
use Rattle.kinds.specs.Kinds.{speed, d_end_after, no_current}
use Rattle.fields.proofs.size.Bytes.{bytes_some, bytes_none, high_out, both_in, one_byte, after_low, after_in}
use Rattle.kinds.specs.journey.Kinds.{most_where, d_tc_start_location, d_tc_end_location, q_tc_front, v_speed_level, q_low_adhesion_rate}
use Rattle.packet_journey.specs.internal.constraint_bytes.Bytes.{bytes_in, both, stretch_bytes, restriction_bytes}
use Rattle.packet_journey.proofs.constraint_bytes.Both.{first_none, second_none, both_some, both_within}

groups_some : (v : ℕ) {a : ℕ} → a ≡ length (groups_in v) → a ≡ 0 → ⊥
groups_some v e z = omega (arith, e, z, count_some v)

-- no value has more than five bytes
pub bytes_five : (k : Kind) (v : ℕ) → bytes_in k v ≤ 5
bytes_five k v = by_cases (k.allowed v) (λ e. rw e (count_five (k.raise v))) (λ e. rw e (omega arith))

-- a value above its largest one, and one of a byte
above : (width most v : ℕ) → most < v → 0 ≡ bytes_in (up_to width most) v
above width most v h = bytes_none (up_to width most) v (high_out 0 most v h)

pub one_in : (width most v : ℕ) → v ≤ most → v < 128 → 1 ≡ bytes_in (up_to width most) v
one_in width most v h l = bytes_some (up_to width most) v (both_in 0 most v (omega arith) h) (one_byte v l)

-- ---- the start and the end

module _ (start end : ℕ) where
  pub both_none : end ≤ start → 0 ≡ stretch_bytes 2 start end
  both_none h = second_none (bytes_in (d_tc_start_location 2) start) (bytes_none (d_end_after start) end (after_low start 16777215 end h))

  pub stretch_most : (range : ℕ) → stretch_bytes range start end ≤ 10
  stretch_most range = both_within (bytes_in (d_tc_start_location range) start) (bytes_in (d_tc_end_location range start) end) 5 5 (bytes_five (d_tc_start_location range) start) (bytes_five (d_tc_end_location range start) end)

  pub start_none : (range : ℕ) → most_where (eqb range 0 || eqb range 2) 16777215 < start → 0 ≡ stretch_bytes range start end
  start_none range h = first_none (bytes_in (d_tc_end_location range start) end) (above 24 (most_where (eqb range 0 || eqb range 2) 16777215) start h)

  pub end_none : (range : ℕ) → (range ≡ 2 → ⊥) → most_where (eqb range 1) 16777215 < end → 0 ≡ stretch_bytes range start end
  end_none range alone h = second_none (bytes_in (d_tc_start_location range) start) (rw (ne_eqb range 2 alone) (above 24 (most_where (eqb range 1) 16777215) end h))

  module _ {a b : ℕ} (ea : a ≡ length (groups_in start)) (eb : b ≡ length (groups_in end)) where
    start_in : (range : ℕ) → start ≤ most_where (eqb range 0 || eqb range 2) 16777215 → a ≡ bytes_in (d_tc_start_location range) start
    start_in range h = bytes_some (d_tc_start_location range) start (both_in 0 (most_where (eqb range 0 || eqb range 2) 16777215) start (omega arith) h) ea

    pub both_bytes_lem : start < 16777216 → end < 16777216 → start < end → a + b ≡ stretch_bytes 2 start end
    both_bytes_lem l m h = both_some (start_in 2 (omega arith)) (bytes_some (d_end_after start) end (after_in start 16777215 end h (omega arith)) eb) (groups_some start ea) (groups_some end eb)

    pub alone_bytes : (range : ℕ) → (range ≡ 2 → ⊥) → start ≤ most_where (eqb range 0 || eqb range 2) 16777215 → end ≤ most_where (eqb range 1) 16777215 → a + b ≡ stretch_bytes range start end
    alone_bytes range alone h l =
        both_some (start_in range h) (rw (ne_eqb range 2 alone) (bytes_some (up_to 24 (most_where (eqb range 1) 16777215)) end (both_in 0 (most_where (eqb range 1) 16777215) end (omega arith) l) eb))
        (groups_some start ea) (groups_some end eb)

-- ---- Q_FRONT to the current

-- the speed alone may have more than one byte
four : {a x y z w : ℕ} → 1 ≡ x → a ≡ y → (a ≡ 0 → ⊥) → 1 ≡ z → 1 ≡ w → a + 3 ≡ both x (both y (both z w))
four {a} ex ey n ez ew =
    let p : a + 3 ≡ 1 + (a + 2) = omega arith in
    p ∙ both_some ex (both_some ey (both_some ez ew (λ q. omega arith) (λ q. omega arith)) n (λ q. omega arith)) (λ q. omega arith) (λ q. omega arith)

where_five : (used : Bool) → most_where used 5 ≤ 5
where_five true = lit≤ tt
where_five false = lit≤ tt

module _ (t : ℕ) where
  current_in : t % 1024 ≡ 1023 → 1 ≡ bytes_in no_current (t % 1024)
  current_in e = rw e (one_byte 0 (lit< tt))

  pub restriction_most : (type : ℕ) → restriction_bytes type t ≤ 20
  restriction_most type =
      let y : ℕ = bytes_in (q_low_adhesion_rate type) (t / 1024 % 8) in
      let z : ℕ = bytes_in no_current (t % 1024) in
      let x : ℕ = bytes_in (v_speed_level type) (t / 8192 % 128) in
      both_within (bytes_in (q_tc_front type) (t / 1048576 % 2)) (both x (both y z)) 5 15 (bytes_five (q_tc_front type) (t / 1048576 % 2))
      (both_within x (both y z) 5 10 (bytes_five (v_speed_level type) (t / 8192 % 128)) (both_within y z 5 5 (bytes_five (q_low_adhesion_rate type) (t / 1024 % 8)) (bytes_five no_current (t % 1024))))

  pub current_none : (type : ℕ) → (t % 1024 ≡ 1023 → ⊥) → 0 ≡ restriction_bytes type t
  current_none type n =
      second_none (bytes_in (q_tc_front type) (t / 1048576 % 2)) (second_none (bytes_in (v_speed_level type) (t / 8192 % 128)) (second_none (bytes_in (q_low_adhesion_rate type) (t / 1024 % 8))
      (bytes_none no_current (t % 1024) (ne_eqb (t % 1024) 1023 n))))

  -- ---- where the type is a speed restriction

  pub adhesion_none : (t / 1024 % 8 ≡ 0 → ⊥) → 0 ≡ restriction_bytes 0 t
  adhesion_none n =
      second_none (bytes_in (q_tc_front 0) (t / 1048576 % 2)) (second_none (bytes_in speed (t / 8192 % 128)) (first_none (bytes_in no_current (t % 1024)) (above 3 0 (t / 1024 % 8) (omega (arith, n)))))

  module _ {a : ℕ} (ea : a ≡ bytes_in speed (t / 8192 % 128)) where
    pub speed_none : a ≡ 0 → 0 ≡ restriction_bytes 0 t
    speed_none z = second_none (bytes_in (q_tc_front 0) (t / 1048576 % 2)) (first_none (both (bytes_in (q_low_adhesion_rate 0) (t / 1024 % 8)) (bytes_in no_current (t % 1024))) (sym z ∙ ea))

    pub speed_some : t % 1024 ≡ 1023 → t / 1024 % 8 ≡ 0 → (a ≡ 0 → ⊥) → a + 3 ≡ restriction_bytes 0 t
    speed_some e h n = four (one_in 1 1 (t / 1048576 % 2) (omega arith) (omega arith)) ea n (one_in 3 0 (t / 1024 % 8) (omega arith) (omega arith)) (current_in e)

  -- ---- where the type is another

  module _ (type : ℕ) (other : type ≡ 0 → ⊥) where
    -- Q_FRONT, the speed and the adhesion
    abbrev front : ℕ
    front = bytes_in (q_tc_front type) (t / 1048576 % 2)

    abbrev level : ℕ
    level = bytes_in (v_speed_level type) (t / 8192 % 128)

    abbrev adhesion : ℕ
    adhesion = bytes_in (q_low_adhesion_rate type) (t / 1024 % 8)

    front_in : t / 1048576 % 2 ≤ 0 → 1 ≡ front
    front_in h = rw (ne_eqb type 0 other) (one_in 1 0 (t / 1048576 % 2) h (omega arith))

    front_out : (t / 1048576 % 2 ≡ 0 → ⊥) → 0 ≡ front
    front_out n = rw (ne_eqb type 0 other) (above 1 0 (t / 1048576 % 2) (omega (arith, n)))

    level_in : t / 8192 % 128 ≤ 0 → 1 ≡ level
    level_in h = rw (ne_eqb type 0 other) (one_in 7 0 (t / 8192 % 128) h (omega arith))

    level_out : (t / 8192 % 128 ≡ 0 → ⊥) → 0 ≡ level
    level_out n = rw (ne_eqb type 0 other) (above 7 0 (t / 8192 % 128) (omega (arith, n)))

    pub other_none : t < 2097152 → most_where (eqb type 1) 5 < t / 1024 → 0 ≡ restriction_bytes type t
    other_none l h =
        by_cases (eqb (t / 1048576 % 2) 0)
        (λ e. by_cases (eqb (t / 8192 % 128) 0)
        (λ f. second_none front (second_none level (first_none (bytes_in no_current (t % 1024)) (above 3 (most_where (eqb type 1) 5) (t / 1024 % 8) (omega (arith, eqb-true (t / 1048576 % 2) 0 e, eqb-true (t / 8192 % 128) 0 f))))))
        (λ f. second_none front (first_none (both adhesion (bytes_in no_current (t % 1024))) (level_out (eqb-false (t / 8192 % 128) 0 f)))))
        (λ e. first_none (both level (both adhesion (bytes_in no_current (t % 1024)))) (front_out (eqb-false (t / 1048576 % 2) 0 e)))

    pub other_some : t % 1024 ≡ 1023 → t / 1024 ≤ most_where (eqb type 1) 5 → 4 ≡ restriction_bytes type t
    other_some e h =
        let five = where_five (eqb type 1) in
        four {a = 1} (front_in (omega arith)) (level_in (omega arith)) (λ q. omega arith) (one_in 3 (most_where (eqb type 1) 5) (t / 1024 % 8) (omega arith) (omega arith)) (current_in e)
