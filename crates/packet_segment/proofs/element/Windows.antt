-- Fields that are read at once, as parts of one number; and the steps over them, from the bytes counted of each.
use mathlib.Core.Path.{◌≡◌, refl, ap, ◌∙◌}
use mathlib.Core.List.{List, [], ◌∷◌}
use Prim.Native.Nat.{ℕ, zero, suc, ◌+◌, ◌*◌, ◌-◌, ◌/◌, ◌%◌, ◌≤◌, ◌<◌}
use native.Mathlib.Omega.{arith}
use borrow.Author.Tests.{ne_eqb, lt-ltb, le-ltb}
use lib.Dec.{eqb, lit≤}
use lib.ListN.{length}
use Rattle.bits.specs.Bits.{field_at}
use Rattle.bits.specs.internal.Windows.{fields_at, parts}
use Rattle.bits.proofs.Tests.{by_cases}
use Rattle.bits.proofs.Windows.{parts_at, part}
use Rattle.numbers.proofs.Counting.{count_some, count_five}
use Rattle.kinds.specs.Kinds.{speed, q_front, n_iter, q_diff, class, m_voltage, nid_c_traction}
use Rattle.std.specs.Prelude.{Result, Ok, Err}
use Rattle.kinds.specs.declared.Item.{Item}
use Rattle.kinds.specs.Judged.{value_in_packet}
use Rattle.fields.specs.internal.size.Counts.{bytes_of}
use Rattle.fields.proofs.size.Bytes.{bytes_some, bytes_none, both_in, high_out, one_byte, class_refusal}
use Rattle.format.specs.Format.{Format, then, times}
use Rattle.format.proofs.Ways.{over_on, over_off, value_on, value_off, gave_on, gave_off, gave_took}
use Rattle.grammar.specs.segment.Segment.{entries, voltage}
use Rattle.grammar.specs.internal.segment.Parts.{entry}
use Rattle.grammar.proofs.segment.Parts.{class_width}
use Rattle.format.specs.internal.Ways.{Went, Got, Over, Took, Gave}
use Rattle.packet_fields.specs.internal.Judging.{judge, Standing, Wide}
use Rattle.packet_fields.proofs.Steps.{took_none, took_some, past, past_off}
use Rattle.packet_segment.specs.internal.element.Profile.{profile_head, both_bytes, name_bytes, past_entry}

pub class_wide : (q : ℕ) → Wide (class q)
class_wide zero = record { some = lit≤ tt; most = lit≤ tt }
class_wide (suc q) = record { some = lit≤ tt; most = lit≤ tt }

-- a value has at most five bytes, and an entry fewer than 16
bytes_five : (f : Result Item ℕ) → bytes_of f ≤ 5
bytes_five (Ok i) = count_five i.sheet
bytes_five (Err r) = omega arith

both_few : (a b : ℕ) → both_bytes a b ≤ a + b
both_few a b = by_cases (eqb a 0) (λ e. rw e (omega arith)) (λ e. by_cases (eqb b 0) (λ d. rw (e, d) (omega arith)) (λ d. rw (e, d) (omega arith)))

pub entry_few : (q c v : ℕ) {r d : ℕ} → r ≡ name_bytes q c → d ≡ bytes_of (value_in_packet speed v) → r + d < 16
entry_few q c v e g =
    let a = value_in_packet q_diff q in
    let b = value_in_packet (class q) c in
    omega (arith, e, g, both_few (bytes_of a) (bytes_of b), bytes_five a, bytes_five b, bytes_five (value_in_packet speed v))

-- Q_DIFF is refused from 3 on
q_none : (q : ℕ) → 2 < q → 0 ≡ bytes_of (value_in_packet q_diff q)
q_none q h = bytes_none q_diff q (high_out 0 2 q h)

q_some : (q : ℕ) → q ≤ 2 → bytes_of (value_in_packet q_diff q) ≡ 0 → ⊥
q_some q h z = omega (arith, z, bytes_some q_diff q (both_in 0 2 q (omega arith) h) refl, count_some q)

-- the bytes of two fields, by cases
both_cases : {C : Type 0} (a b : ℕ) → (a ≡ 0 → C) → ((a ≡ 0 → ⊥) → b ≡ 0 → C) → ((a ≡ 0 → ⊥) → (b ≡ 0 → ⊥) → both_bytes a b ≡ a + b → C) → C
both_cases zero b f g k = f refl
both_cases (suc a) zero f g k = g (λ z. omega arith) refl
both_cases (suc a) (suc b) f g k =
    k (λ z. omega arith) (λ z. omega arith) (rw (ne_eqb (suc a) 0 (λ z. omega arith), ne_eqb (suc b) 0 (λ z. omega arith)))

-- the entries are one entry as many times
entries_times : (n : ℕ) (f : Format) → entries n f ≡ times entry n f
unfolding entries times
entries_times zero f = refl
entries_times (suc n) f = ap entry (entries_times n f)

pub entries_over : (count : ℕ) {s : List ℕ} {stop at n : ℕ} {r : Went ℕ} → Over (judge s stop) (times entry count) at n r → Over (judge s stop) (entries count) at n r
entries_over count {s} {stop} {at} {n} o = record { goes = λ f. ap (λ (g : Format). (judge s stop).run g at n) (entries_times count f) ∙ o.goes f; stands = o.stands }

-- the step over an entry, from its bytes
module _ (s : List ℕ) (stop : ℕ) {at n r : ℕ} where
  pub entry_refused : Over (judge s stop) entry at n (past_entry at n r) → 16 ≤ r → Over (judge s stop) entry at n (Went.off 4 (at + (r - 16)))
  entry_refused o h = rw (le-ltb r 16 h) at o

  pub entry_passed : Over (judge s stop) entry at n (past_entry at n r) → r < 16 → Over (judge s stop) entry at n (Went.on (at + 13) (n + r))
  entry_passed o h = rw (lt-ltb r 16 h) at o

module _ (s : List ℕ) (stop : ℕ) {at n : ℕ} (h : Standing s stop at n) where
  inside : (w : ℕ) → w ≤ stop - at → at + w ≤ 8 * length s
  inside w l = omega (arith, h.inside, h.before)

  -- ---- an entry: Q_DIFF 2, class 4, V_DIFF 7

  module _ (room : 13 ≤ stop - at) {t : ℕ} (e : t ≡ field_at s at 13) {a b d : ℕ}
      (ea : a ≡ bytes_of (value_in_packet q_diff (t / 2048))) (eb : b ≡ bytes_of (value_in_packet (class (t / 2048)) (t / 128 % 16))) (ed : d ≡ bytes_of (value_in_packet speed (t % 128))) where
    entry_values : parts (2 ∷ 4 ∷ 7 ∷ []) t ≡ fields_at s at (2 ∷ 4 ∷ 7 ∷ [])
    entry_values = parts_at s at (2 ∷ 4 ∷ 7 ∷ []) e (inside 13 room)

    entry_off : a ≡ 0 → Over (judge s stop) entry at n (Went.off 4 at)
    entry_off z = value_off (λ q f. then (class q) (then speed f)) (took_none s stop q_diff 2 refl h (lit≤ tt) (omega arith) (part entry_values 0) ea z)

    module _ (za : a ≡ 0 → ⊥) where
      q_took : Took (judge s stop) q_diff at n (Got.is (t / 2048) (at + 2) (n + a))
      q_took = took_some s stop q_diff 2 refl h (lit≤ tt) (omega arith) (part entry_values 0) ea za

      class_off : b ≡ 0 → Over (judge s stop) entry at n (Went.off 4 (at + 2))
      class_off z =
          value_on (λ q f. then (class q) (then speed f)) q_took
          (over_off (past_off s stop (rw (class_refusal (t / 2048)) at (took_none s stop (class (t / 2048)) 4 (class_width (t / 2048)) q_took.stands (lit≤ tt) (omega arith) (part entry_values 1) eb z))))

      module _ (zb : b ≡ 0 → ⊥) where
        class_took : Took (judge s stop) (class (t / 2048)) (at + 2) (n + a) (Got.is (t / 128 % 16) (at + 2 + 4) (n + a + b))
        class_took = took_some s stop (class (t / 2048)) 4 (class_width (t / 2048)) q_took.stands (lit≤ tt) (omega arith) (part entry_values 1) eb zb

        speed_off : d ≡ 0 → Over (judge s stop) entry at n (Went.off 4 (at + 2 + 4))
        speed_off z =
            value_on (λ q f. then (class q) (then speed f)) q_took
            (over_on (past s stop class_took) (past_off s stop (took_none s stop speed 7 refl class_took.stands (lit≤ tt) (omega arith) (part entry_values 2) ed z)))

        entry_on : (d ≡ 0 → ⊥) → Over (judge s stop) entry at n (Went.on (at + 13) (n + (a + b + d)))
        entry_on z =
            let p : at + 2 + 4 + 7 ≡ at + 13 = omega arith in
            let m : n + a + b + d ≡ n + (a + b + d) = omega arith in
            rw (← m, ← p) (value_on (λ q f. then (class q) (then speed f)) q_took
            (over_on (past s stop class_took) (past s stop (took_some s stop speed 7 refl class_took.stands (lit≤ tt) (omega arith) (part entry_values 2) ed z))))

  -- with the bytes of Q_DIFF and class together
  module _ (room : 13 ≤ stop - at) {t : ℕ} (e : t ≡ field_at s at 13) {r d : ℕ} (er : r ≡ name_bytes (t / 128 / 16) (t / 128 % 16)) (ed : d ≡ bytes_of (value_in_packet speed (t % 128))) where
    q_bytes : ℕ
    q_bytes = bytes_of (value_in_packet q_diff (t / 2048))

    class_bytes : ℕ
    class_bytes = bytes_of (value_in_packet (class (t / 2048)) (t / 128 % 16))

    named : r ≡ both_bytes q_bytes class_bytes
    unfolding q_bytes class_bytes
    named = let q : t / 128 / 16 ≡ t / 2048 = omega arith in rw q at er

    pub q_refused : 2 < t / 2048 → Over (judge s stop) entry at n (past_entry at n 16)
    q_refused z = let p : at + 0 ≡ at = omega arith in rw p (entry_off room e (q_none (t / 2048) z) refl ed refl)

    pub class_refused : r ≡ 0 → t / 2048 ≤ 2 → Over (judge s stop) entry at n (past_entry at n 18)
    unfolding q_bytes class_bytes
    class_refused z q =
        both_cases q_bytes class_bytes (λ za. absurd (q_some (t / 2048) q za))
        (λ za zb. class_off room e refl refl ed za zb)
        (λ za zb p. absurd (za (omega (arith, named, p))))

    module _ (z : r ≡ 0 → ⊥) where
      pub speed_refused : d ≡ 0 → Over (judge s stop) entry at n (past_entry at n 22)
      unfolding q_bytes class_bytes
      speed_refused zd =
          let p : at + 2 + 4 ≡ at + 6 = omega arith in
          both_cases q_bytes class_bytes
          (λ za. absurd (z (named ∙ rw za)))
          (λ za zb. absurd (z (named ∙ rw (ne_eqb q_bytes 0 za, zb))))
          (λ za zb _. rw p at (speed_off room e refl refl ed za zb zd))

      pub entry_counted : (d ≡ 0 → ⊥) → Over (judge s stop) entry at n (past_entry at n (r + d))
      unfolding q_bytes class_bytes
      entry_counted zd =
          both_cases q_bytes class_bytes
          (λ za. absurd (z (named ∙ rw za)))
          (λ za zb. absurd (z (named ∙ rw (ne_eqb q_bytes 0 za, zb))))
          (λ za zb p. rw (lt-ltb (r + d) 16 (entry_few (t / 128 / 16) (t / 128 % 16) (t % 128) er ed), named ∙ p) (entry_on room e refl refl ed za zb zd))

  -- ---- V_STATIC 7, Q_FRONT 1, N_ITER 5: the last two may have any value

  module _ (room : 13 ≤ stop - at) {t : ℕ} (e : t ≡ field_at s at 13) {a : ℕ} (ea : a ≡ bytes_of (value_in_packet speed (t / 64))) where
    head_values : parts (7 ∷ 1 ∷ 5 ∷ []) t ≡ fields_at s at (7 ∷ 1 ∷ 5 ∷ [])
    head_values = parts_at s at (7 ∷ 1 ∷ 5 ∷ []) e (inside 13 room)

    pub head_off : a ≡ 0 → Gave (judge s stop) profile_head at n (Got.off 4 at)
    head_off z = gave_off (past_off s stop (took_none s stop speed 7 refl h (lit≤ tt) (omega arith) (part head_values 0) ea z))

    module _ (z : a ≡ 0 → ⊥) where
      static_took : Took (judge s stop) speed at n (Got.is (t / 64) (at + 7) (n + a))
      static_took = took_some s stop speed 7 refl h (lit≤ tt) (omega arith) (part head_values 0) ea z

      front_took : Took (judge s stop) q_front (at + 7) (n + a) (Got.is (t / 32 % 2) (at + 7 + 1) (n + a + 1))
      front_took =
          took_some s stop q_front 1 refl static_took.stands (lit≤ tt) (omega arith) (part head_values 1)
          (bytes_some q_front (t / 32 % 2) (both_in 0 1 (t / 32 % 2) (omega arith) (omega arith)) (one_byte (t / 32 % 2) (omega arith))) (λ u. omega arith)

      count_took : Took (judge s stop) (n_iter 31) (at + 7 + 1) (n + a + 1) (Got.is (t % 32) (at + 7 + 1 + 5) (n + a + 1 + 1))
      count_took =
          took_some s stop (n_iter 31) 5 refl front_took.stands (lit≤ tt) (omega arith) (part head_values 2)
          (bytes_some (n_iter 31) (t % 32) (both_in 0 31 (t % 32) (omega arith) (omega arith)) (one_byte (t % 32) (omega arith))) (λ u. omega arith)

      pub head_on : Gave (judge s stop) profile_head at n (Got.is (t % 32) (at + 13) (n + a + 2))
      head_on =
          let p : at + 7 + 1 + 5 ≡ at + 13 = omega arith in
          let m : n + a + 1 + 1 ≡ n + a + 2 = omega arith in
          rw (p, m) at (gave_on (past s stop static_took) (gave_on (past s stop front_took) (gave_took count_took)))

  -- ---- M_VOLTAGE 4, NID_CTRACTION 10

  module _ (room : 14 ≤ stop - at) {t : ℕ} (e : t ≡ field_at s at 14) {a b : ℕ}
      (ea : a ≡ bytes_of (value_in_packet m_voltage (t / 1024))) (eb : b ≡ bytes_of (value_in_packet (nid_c_traction (t / 1024)) (t % 1024))) where
    wire_values : parts (4 ∷ 10 ∷ []) t ≡ fields_at s at (4 ∷ 10 ∷ [])
    wire_values = parts_at s at (4 ∷ 10 ∷ []) e (inside 14 room)

    pub volts_off : a ≡ 0 → Over (judge s stop) voltage at n (Went.off 4 at)
    volts_off z = value_off (λ u f. then (nid_c_traction u) f) (took_none s stop m_voltage 4 refl h (lit≤ tt) (omega arith) (part wire_values 0) ea z)

    module _ (za : a ≡ 0 → ⊥) where
      volts_took : Took (judge s stop) m_voltage at n (Got.is (t / 1024) (at + 4) (n + a))
      volts_took = took_some s stop m_voltage 4 refl h (lit≤ tt) (omega arith) (part wire_values 0) ea za

      pub traction_off : b ≡ 0 → Over (judge s stop) voltage at n (Went.off 4 (at + 4))
      traction_off z =
          value_on (λ u f. then (nid_c_traction u) f) volts_took
          (past_off s stop (took_none s stop (nid_c_traction (t / 1024)) 10 refl volts_took.stands (lit≤ tt) (omega arith) (part wire_values 1) eb z))

      pub wire_on : (b ≡ 0 → ⊥) → Over (judge s stop) voltage at n (Went.on (at + 14) (n + a + b))
      wire_on z =
          let p : at + 4 + 10 ≡ at + 14 = omega arith in
          rw p at (value_on (λ u f. then (nid_c_traction u) f) volts_took
          (past s stop (took_some s stop (nid_c_traction (t / 1024)) 10 refl volts_took.stands (lit≤ tt) (omega arith) (part wire_values 1) eb z)))
