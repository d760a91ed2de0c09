-- A field judged at a place of a sheet, from the number that is read there.
use Rattle.std.proofs.Common.{◌≡◌, ◌⊎◌, inl, inr, ℕ, zero, suc, ◌+◌, ◌%◌, ◌^◌, ◌<◌, ◌≤◌, true, false, ltb, List, [], ◌∷◌, length, drop, sym, refl, ap, arith, length-append, length-drop, le-ltb, lt-ltb, ne_eqb, le-leb}
use mathlib.Core.Option.{Option, none, some}
use borrow.Author.Tests.{lt-leb}
use Rattle.bits.specs.Bits.{Bytes, bits_of}
use Rattle.bits.proofs.Spelling.{length_bits}
use Rattle.bits.proofs.Tests.{by_cases}
use Rattle.numbers.specs.Numbers.{number_in}
use Rattle.numbers.specs.declared.Found.{Found}
use Rattle.numbers.specs.internal.Groups.{found}
use Rattle.numbers.proofs.Reading.{found_value, found_none, number_only}
use Rattle.kinds.specs.declared.Item.{Item}
use Rattle.kinds.specs.Kind.{Kind, range}
use Rattle.kinds.specs.Kinds.{digits, nid_operational, d_location, d_end_after, no_current}
use Rattle.fields.proofs.Lawful.{LawfulKind}
use Rattle.fields.specs.internal.lower.Lowered.{value_or, lowered}
use Rattle.fields.proofs.lower.Lowering.{lowered_none}
use Rattle.format.specs.Format.{then}
use Rattle.format.specs.internal.Places.{Taken, number_taken}
use Rattle.format.specs.internal.Ways.{Way, Went, Got, Over, Took}
use Rattle.format.proofs.Places.{number_found, number_none}
use Rattle.format.proofs.Passing.{sheet_seen}
use Rattle.format.proofs.Ways.{value_on, value_off, over_none, took_is, took_off}
use Rattle.sheet_fields.specs.internal.Judging.{judge, judging, Standing, lowers}

-- what is left of a list of bytes is bytes
bytes_drop : (s : List ℕ) (at : ℕ) → Bytes s → Bytes (drop at s)
bytes_drop s zero h = h
bytes_drop [] (suc at) h = h
bytes_drop (b ∷ s) (suc at) h = bytes_drop s at h.1

module _ (s : List ℕ) {at : ℕ} (h : Standing s at) {a : Found} (e : a ≡ found (number_in (drop at s))) (k : Kind) where
  -- no number
  pub reads_none : {n : ℕ} → a.count ≡ 0 → Took (judge s) k at n (Got.off 9 at)
  reads_none z = took_off (sheet_seen s) judging (λ at n. Standing s at) k tt (number_none k s at (found_none (drop at s) a e z))

  module _ (z : a.count ≡ 0 → ⊥) where
    -- the groups of a number that is read lie in the sheet
    groups_inside : at + a.count ≤ length s
    groups_inside =
        let c = found_value (drop at s) a e z in
        let l = ap length (number_only (drop at s) a.value (bytes_drop s at h.bytes) c.value).bytes in
        omega (arith, c.groups, h.inside, length-drop at s, simp length-append at l)

    -- a number, taken or refused by the kind
    pub reads_some : {n m : ℕ} → m ≡ (n + k.width) % 2 ^ 32 → Took (judge s) k at n (lowers (k.refusal a.value) at (record { at = at + a.count; n = m }) (k.lower a.value))
    reads_some {n} {m} q = go (k.lower a.value) refl
      where
        go : (l : Option ℕ) → k.lower a.value ≡ l → Took (judge s) k at n (lowers (k.refusal a.value) at (record { at = at + a.count; n = m }) l)
        go none o =
            took_off (sheet_seen s) judging (λ at n. Standing s at) k tt (rw o at (number_found k s at (found_value (drop at s) a e z).value))
        go (some v) o =
            let c = found_value (drop at s) a e z in
            let i : Item = record { sheet = a.value; packet = v } in
            let f : Taken.Is i (at + a.count) ≡ number_taken k s at = rw (o, c.groups) at (number_found k s at c.value) in
            let t : Took (judge s) k at n (Got.is v (at + a.count) ((n + length (bits_of k.width v)) % 2 ^ 32)) =
            took_is (sheet_seen s) judging (λ at n. Standing s at) k tt f (record { bytes = h.bytes; inside = groups_inside }) in
            rw q (rw (length_bits k.width v) at t)

-- a number, from the value v that it lowers to, or 2 to the width where it lowers to none
module _ (k : Kind) {a v : ℕ} (l : v ≡ lowered k a) where
  pub low_none : LawfulKind k → v ≡ 2 ^ k.width → k.lower a ≡ none
  low_none w o = lowered_none k a v w l (omega arith)

  pub low_some : (v ≡ 2 ^ k.width → ⊥) → k.lower a ≡ some v
  low_some o = go (k.lower a) l
    where
      go : (r : Option ℕ) → v ≡ value_or (2 ^ k.width) r → r ≡ some v
      go none e = absurd (o e)
      go (some u) e = ap (λ (m : ℕ). some m) (sym e)

-- a field on whose value nothing depends
module _ {X B : Type 0} {w : Way X B} {k : Kind} {at : ℕ} {x : X} where
  pub plain_off : {r place : ℕ} → Took w k at x (Got.off r place) → Over w (then k) at x (Went.off r place)
  plain_off t = value_off (λ v f. f) t

  pub plain_on : {v to : ℕ} {y : X} → Took w k at x (Got.is v to y) → Over w (then k) at x (Went.on to y)
  plain_on t = value_on (λ v f. f) t (over_none t.stands)

-- ---- ranges, and locations

module _ (width least largest refusal v : ℕ) where
  pub range_out : (v < least) ⊎ ((least ≤ v) × (largest < v)) → (range width least largest refusal).lower v ≡ none
  range_out (inl h) = rw (lt-leb least v h)
  range_out (inr (h, l)) = rw (le-leb least v h, lt-leb v largest l)

  pub range_in : least ≤ v → v ≤ largest → (range width least largest refusal).lower v ≡ some v
  range_in h l = rw (le-leb least v h, le-leb v largest l)

module _ (last lsp v : ℕ) where
  pub location_out : (v ≤ last) ⊎ ((last < v) × (lsp ≤ v)) → (d_location last lsp).lower v ≡ none
  location_out (inl h) = rw (le-ltb last v h)
  location_out (inr (h, l)) = rw (lt-ltb last v h, le-ltb v lsp l)

  pub location_in : last < v → v < lsp → (d_location last lsp).lower v ≡ some v
  location_in h l = rw (lt-ltb last v h, lt-ltb v lsp l)

-- ---- the end of a temporary constraint, and no current

module _ (start v : ℕ) where
  pub after_wide : 16777215 < v → (d_end_after start).lower v ≡ none
  after_wide h = by_cases (ltb start v) (λ d. rw (d, lt-leb v 16777215 h)) (λ d. rw d)

  pub after_low : v ≤ start → (d_end_after start).lower v ≡ none
  after_low h = rw (le-ltb start v h)

  pub after_in : start < v → v ≤ 16777215 → (d_end_after start).lower v ≡ some v
  after_in h l = rw (lt-ltb start v h, le-leb v 16777215 l)

  -- 4 for an end of more than 24 bits, else 5
  pub wide_refusal : 16777215 < v → (d_end_after start).refusal v ≡ 4
  wide_refusal h = rw (lt-leb v 16777215 h)

  pub low_refusal : v ≤ 16777215 → (d_end_after start).refusal v ≡ 5
  low_refusal h = rw (le-leb v 16777215 h)

pub unused_in : (v : ℕ) → v ≡ 0 → no_current.lower v ≡ some 1023
unused_in v e = rw e

pub unused_out : (v : ℕ) → (v ≡ 0 → ⊥) → no_current.lower v ≡ none
unused_out v e = rw (ne_eqb v 0 e)

-- ---- the digits of NID_OPERATIONAL

pub operational_in : (a : ℕ) → digits 8 a ≡ true → nid_operational.lower a ≡ some a
operational_in a e = rw e

pub operational_out : (a : ℕ) → digits 8 a ≡ false → nid_operational.lower a ≡ none
operational_out a e = rw e
