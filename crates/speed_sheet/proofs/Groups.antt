-- The groups of a number one after another: each but the last says that another follows.
use mathlib.Core.Path.{◌≡◌, refl, sym, ap, ◌∙◌}
use mathlib.Core.List.{List, [], ◌∷◌}
use Prim.Native.Nat.{ℕ, zero, suc, ◌+◌, ◌-◌, ◌/◌, ◌%◌, ◌^◌, ◌≤◌, ◌<◌}
use native.Mathlib.Omega.{arith}
use borrow.Author.Tests.{ltb-true, ltb-false}
use lib.Dec.{ltb}
use lib.ListN.{length, drop, get_or, length-append, length-drop, get_or-append}
use lib.Seq.{get_or-drop}
use Rattle.bits.specs.Bits.{Bytes}
use Rattle.bits.proofs.Tests.{by_cases}
use Rattle.numbers.specs.Numbers.{groups_of, groups_in}
use Rattle.numbers.specs.internal.Groups.{counted}
use Rattle.numbers.proofs.Counting.{last_group, more_groups, fewer, some_group, count_some}
use Rattle.numbers.proofs.Reading.{Spelled, number_only}
use Rattle.format.proofs.Media.{bytes_drop}
use Rattle.speed_sheet.specs.internal.Asking.{counted_at, NumberHere}

-- of n groups, the one at i is the byte b
pub record Group (n i b : ℕ) : Type 0 where
  pub last : b < 128 → i + 1 ≡ n
  pub more : 128 ≤ b → i + 1 < n

some_groups : (g m : ℕ) → 0 < m → m < 128 ^ g → 1 ≤ length (groups_of g m)
some_groups zero m p h = absurd (omega arith)
some_groups (suc g) m p h = some_group g m

alone : (v i : ℕ) → i < 1 → v < 128 → Group 1 i (get_or (v ∷ []) i 0)
alone v zero l h = record { last = λ b. refl; more = λ b. absurd (omega arith) }
alone v (suc i) l h = absurd (omega arith)

-- a group before others
before : (b : ℕ) (l : List ℕ) → 128 ≤ b → 1 ≤ length l → ((i : ℕ) → i < length l → Group (length l) i (get_or l i 0)) → (i : ℕ) → i < suc (length l)
    → Group (suc (length l)) i (get_or (b ∷ l) i 0)
before b l h some r zero m = record { last = λ x. absurd (omega arith); more = λ x. omega arith }
before b l h some r (suc i) m = let q = r i (omega arith) in record { last = λ x. omega (arith, q.last x); more = λ x. omega (arith, q.more x) }

group_of : (g v : ℕ) → v < 128 ^ g → (i : ℕ) → i < length (groups_of g v) → Group (length (groups_of g v)) i (get_or (groups_of g v) i 0)
group_of zero v h i l = absurd (omega arith)
group_of (suc g) v h i l = go (group_of g (v / 128) (fewer g v h))
  where
    go : ((j : ℕ) → j < length (groups_of g (v / 128)) → Group (length (groups_of g (v / 128))) j (get_or (groups_of g (v / 128)) j 0))
        → Group (length (groups_of (suc g) v)) i (get_or (groups_of (suc g) v) i 0)
    go r =
        by_cases (ltb v 128)
        (λ d. let e = last_group g v (ltb-true v 128 d) in rw e (alone v i (rw e at l) (ltb-true v 128 d)))
        (λ d.
        let p = ltb-false v 128 d in
        let e = more_groups g v p in
        rw e (before (128 + v % 128) (groups_of g (v / 128)) (omega arith) (some_groups g (v / 128) (omega arith) (fewer g v h)) r i (rw e at l)))

group_in : (v i : ℕ) → v < 2 ^ 32 → i < length (groups_in v) → Group (length (groups_in v)) i (get_or (groups_in v) i 0)
unfolding groups_in
group_in v i h l = group_of 5 v (omega arith) i l

module _ (s : List ℕ) (at : ℕ) (ok : Bytes s) (h : NumberHere s at) where
  value : ℕ
  value = counted_at s at % 4294967296

  spelled : Spelled (drop at s) value
  unfolding value
  spelled = number_only (drop at s) (counted_at s at % 4294967296) (bytes_drop at s ok) h

  groups : counted_at s at / 4294967296 ≡ length (groups_in value)
  unfolding value
  groups = omega (arith, ap counted h, spelled.small)

  pub number_some : 1 ≤ counted_at s at / 4294967296
  number_some = rw groups (count_some value)

  pub number_inside : at + counted_at s at / 4294967296 ≤ length s
  number_inside =
      let long = ap length spelled.bytes ∙ length-append (groups_in value) (drop (length (groups_in value)) (drop at s)) in
      omega (arith, long, length-drop at s, groups, count_some value)

  -- the byte at a place among them
  pub group_at : (to : ℕ) → at ≤ to → to < at + counted_at s at / 4294967296 → Group (counted_at s at / 4294967296) (to - at) (get_or s to 0)
  group_at to a b =
      let i : to - at < length (groups_in value) = omega (arith, groups) in
      let p : at + (to - at) ≡ to = omega arith in
      let e : get_or s to 0 ≡ get_or (groups_in value) (to - at) 0 =
      ap (λ (m : ℕ). get_or s m 0) (sym p) ∙ sym (get_or-drop at s (to - at) 0) ∙ ap (λ (m : List ℕ). get_or m (to - at) 0) spelled.bytes
      ∙ get_or-append (groups_in value) (drop (length (groups_in value)) (drop at s)) 0 (to - at) i in
      rw (groups, e) (group_in value (to - at) spelled.small i)
