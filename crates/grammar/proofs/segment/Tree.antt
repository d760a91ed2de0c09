-- The segment's tree, measured once for any costs of its kinds; so its kinds are lawful, and its size is known in any medium.
use mathlib.Core.Path.{◌≡◌}
use mathlib.Core.Bool.{true}
use Prim.Native.Nat.{ℕ, zero, suc, ◌+◌, ◌*◌, ◌^◌, ◌≤◌, ◌<◌}
use native.Mathlib.Nat.{mul-le-mul_right}
use native.Mathlib.Omega.{arith}
use borrow.Author.Tests.{leb-true}
use lib.Dec.{leb, lit<, lit≤}
use Rattle.bits.proofs.Tests.{and_right}
use Rattle.kinds.specs.Kind.{Kind}
use Rattle.kinds.specs.Kinds.{nid_packet_ato, nid_operational, nid_engine, t_timestamp_date, t_timestamp_seconds, n_packet_counter, nid_c, nid_sp, m_sp_version, l_sp, d_eoa_offset, q_utc_offset, m_sp_altitude, speed, q_front, n_iter, q_diff, class, d_location, m_voltage, nid_c_traction, m_current}
use Rattle.fields.proofs.Lawful.{LawfulKind, narrow, value_small, range_lawful, up_to_lawful, operational_lawful, location_lawful, traction_lawful, speed_lawful, current_lawful, voltage_lawful, class_lawful}
use Rattle.format.specs.Format.{Format, field}
use Rattle.format.proofs.Sized.{Measured, over, plus, within}
use Rattle.grammar.specs.segment.Segment.{entries, profile, voltage, current, changes, part, lists, body, fields, sheet_fields}

-- bounds of the kinds that depend on an earlier value or on the limit
pub record Costs (lo hi : Kind → ℕ) : Type 0 where
  pub class_low : ℕ
  pub class_high : ℕ
  pub traction_low : ℕ
  pub traction_high : ℕ
  pub location_high : ℕ
  pub iter_low : ℕ
  pub iter_high : ℕ
  pub class_low_lem : (q : ℕ) → class_low ≤ lo (class q)
  pub class_high_lem : (q : ℕ) → hi (class q) ≤ class_high
  pub traction_low_lem : (u : ℕ) → traction_low ≤ lo (nid_c_traction u)
  pub traction_high_lem : (u : ℕ) → hi (nid_c_traction u) ≤ traction_high
  pub location_high_lem : (last lsp : ℕ) → hi (d_location last lsp) ≤ location_high
  pub iter_low_lem : (n : ℕ) → iter_low ≤ lo (n_iter n)
  pub iter_high_lem : (n : ℕ) → n ≤ 31 → hi (n_iter n) ≤ iter_high

-- a count of a list, with what follows it for each count up to the limit
count : (n limit : ℕ) → (n_iter limit).allowed n ≡ true → n ≤ limit
count n limit e = leb-true n limit (and_right (leb 0 n) (leb n limit) e)

module _ {lo hi : Kind → ℕ} (c : Costs lo hi) where
  abbrev pub entry_high : ℕ
  entry_high = hi q_diff + (c.class_high + hi speed)

  abbrev pub profile_low : ℕ
  profile_low = lo speed + (lo q_front + c.iter_low)

  abbrev pub profile_high : ℕ
  profile_high = hi speed + (hi q_front + (c.iter_high + 31 * entry_high))

  abbrev pub voltage_low : ℕ
  voltage_low = lo m_voltage + c.traction_low

  abbrev pub voltage_high : ℕ
  voltage_high = hi m_voltage + c.traction_high

  -- a start of a list, in front of any format
  pub record Start (start : Format → Format) (a b : ℕ) : Type 0 where
    pub starts : {f : Format} {low high : ℕ} → Measured lo hi f low high → Measured lo hi (start f) (a + low) (b + high)

  iter_measured : {next : ℕ → Format} {a b : ℕ} (limit : ℕ) → limit ≤ 31 → ((n : ℕ) → n ≤ limit → Measured lo hi (next n) a b)
      → Measured lo hi (field (n_iter limit) next) (c.iter_low + a) (c.iter_high + b)
  iter_measured {a = a} {b = b} limit h rest =
      within (c.iter_low + a) (c.iter_high + b) (plus (up_to_lawful 5 limit (narrow tt) (omega arith)) λ n e. rest n (count n limit e))
      (omega (arith, c.iter_low_lem limit)) (omega (arith, c.iter_high_lem limit h))

  entries_measured : {f : Format} {a b : ℕ} → Measured lo hi f a b → (n : ℕ) → Measured lo hi (entries n f) a (n * entry_high + b)
  unfolding entries
  entries_measured {a = a} {b = b} m zero = within a (0 * entry_high + b) m (omega arith) (omega arith)
  entries_measured {a = a} {b = b} m (suc n) =
      within a (suc n * entry_high + b)
      (plus (up_to_lawful 2 2 (narrow tt) (lit< tt)) λ q _. within a (c.class_high + (hi speed + (n * entry_high + b)))
      (plus (class_lawful q) λ _ _. plus speed_lawful λ _ _. entries_measured m n) (omega arith) (omega (arith, c.class_high_lem q)))
      (omega arith) (omega arith)

  profile_measured : Start profile profile_low profile_high
  profile_measured = record {
    starts = λ {f} {low} {high} m.
        within (profile_low + low) (profile_high + high)
        (plus speed_lawful λ _ _. plus (up_to_lawful 1 1 (narrow tt) (lit< tt)) λ _ _. iter_measured 31 (lit≤ tt) λ n h.
        within low (31 * entry_high + high) (entries_measured m n) (omega arith) (omega (arith, mul-le-mul_right entry_high h))) (omega arith) (omega arith);
  }

  voltage_measured : Start voltage voltage_low voltage_high
  voltage_measured = record {
    starts = λ {f} {low} {high} m.
        within (voltage_low + low) (voltage_high + high)
        (plus voltage_lawful λ u _. within (c.traction_low + low) (c.traction_high + high) (plus (traction_lawful u) λ _ _. m)
        (omega (arith, c.traction_low_lem u)) (omega (arith, c.traction_high_lem u))) (omega arith) (omega arith);
  }

  current_measured : Start current (lo m_current) (hi m_current)
  current_measured = record { starts = λ m. plus current_lawful λ _ _. m }

  changes_measured : {start : Format → Format} {a b : ℕ} → Start start a b → {f : Format} {low high : ℕ} → Measured lo hi f low high
      → (lsp : ℕ) → lsp < 2 ^ 24 → (n last : ℕ) → Measured lo hi (changes start lsp last n f) low (n * (c.location_high + b) + high)
  unfolding changes
  changes_measured {b = b} s {low = low} {high = high} m lsp h zero last = within low (0 * (c.location_high + b) + high) m (omega arith) (omega arith)
  changes_measured {b = b} s {low = low} {high = high} m lsp h (suc n) last =
      within low (suc n * (c.location_high + b) + high) (plus (location_lawful last lsp h) λ x _. s.starts (changes_measured s m lsp h n x)) (omega arith) (omega (arith, c.location_high_lem last lsp))

  part_measured : {start : Format → Format} {a b : ℕ} → Start start a b → {f : Format} {low high : ℕ} → Measured lo hi f low high
      → (lsp : ℕ) → lsp < 2 ^ 24 → (limit : ℕ) → limit ≤ 31
      → Measured lo hi (part start limit lsp f) (a + (c.iter_low + low)) (b + (c.iter_high + (limit * (c.location_high + b) + high)))
  part_measured {b = b} s {low = low} {high = high} m lsp h limit k =
      s.starts (iter_measured limit k λ n l. within low (limit * (c.location_high + b) + high) (changes_measured s m lsp h n 0) (omega arith) (omega (arith, mul-le-mul_right (c.location_high + b) l)))

  abbrev pub lists_low : ℕ
  lists_low = profile_low + (c.iter_low + (voltage_low + (c.iter_low + (lo m_current + (c.iter_low + 0)))))

  abbrev pub lists_high : ℕ → ℕ
  lists_high limit =
      profile_high + (c.iter_high + (31 * (c.location_high + profile_high)
      + (voltage_high + (c.iter_high + (limit * (c.location_high + voltage_high)
      + (hi m_current + (c.iter_high + (limit * (c.location_high + hi m_current) + 0))))))))

  lists_measured : (limit lsp : ℕ) → limit ≤ 31 → lsp < 2 ^ 24 → Measured lo hi (lists limit lsp) lists_low (lists_high limit)
  unfolding lists
  lists_measured limit lsp k h =
      part_measured profile_measured (part_measured voltage_measured (part_measured current_measured over lsp h limit k) lsp h limit k) lsp h 31 (lit≤ tt)

  -- the fields before the lists
  abbrev pub body_sum : (Kind → ℕ) → ℕ → ℕ
  body_sum w rest = w nid_c + (w nid_sp + (w m_sp_version + (w m_sp_version + (w l_sp + (w d_eoa_offset + (w q_utc_offset + (w m_sp_altitude + rest)))))))

  abbrev pub header_sum : (Kind → ℕ) → ℕ → ℕ
  header_sum w rest = w nid_operational + (w nid_engine + (w t_timestamp_date + (w t_timestamp_seconds + (w n_packet_counter + rest))))

  pub body_measured : (limit : ℕ) → limit ≤ 31 → Measured lo hi (body limit) (body_sum lo lists_low) (body_sum hi (lists_high limit))
  unfolding body
  body_measured limit k =
      plus (up_to_lawful 10 1023 (narrow tt) (lit< tt)) λ _ _. plus (up_to_lawful 32 4294967295 (narrow tt) (lit< tt)) λ _ _.
      plus (up_to_lawful 8 255 (narrow tt) (lit< tt)) λ _ _. plus (up_to_lawful 8 255 (narrow tt) (lit< tt)) λ _ _.
      plus length_lawful λ lsp e. plus (up_to_lawful 24 16777215 (narrow tt) (lit< tt)) λ _ _.
      plus (up_to_lawful 7 112 (narrow tt) (lit< tt)) λ _ _. plus (up_to_lawful 20 1048575 (narrow tt) (lit< tt)) λ _ _.
      lists_measured limit lsp k (value_small length_lawful lsp e)
    where
      length_lawful : LawfulKind l_sp
      length_lawful = range_lawful 24 1 16777215 4 (narrow tt) (lit< tt)

  pub fields_measured : (limit : ℕ) → limit ≤ 31 → Measured lo hi (fields limit) (header_sum lo (body_sum lo lists_low)) (header_sum hi (body_sum hi (lists_high limit)))
  unfolding fields
  fields_measured limit k =
      plus operational_lawful λ _ _. plus (up_to_lawful 24 16777215 (narrow tt) (lit< tt)) λ _ _. plus (up_to_lawful 15 32767 (narrow tt) (lit< tt)) λ _ _.
      plus (up_to_lawful 17 86399 (narrow tt) (lit< tt)) λ _ _. plus (up_to_lawful 8 255 (narrow tt) (lit< tt)) λ _ _. body_measured limit k

  pub sheet_fields_measured : (limit : ℕ) → limit ≤ 31
      → Measured lo hi (sheet_fields limit) (lo nid_packet_ato + header_sum lo (body_sum lo lists_low)) (hi nid_packet_ato + header_sum hi (body_sum hi (lists_high limit)))
  unfolding sheet_fields
  sheet_fields_measured limit k = plus (range_lawful 8 6 6 2 (narrow tt) (lit< tt)) λ _ _. fields_measured limit k
