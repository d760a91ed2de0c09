-- The bytes of a value in the sheet: 0 exactly where it is refused.
use Rattle.std.proofs.Common.{◌≡◌, ℕ, zero, suc, ◌+◌, ◌*◌, ◌/◌, ◌<◌, ◌≤◌, Bool, true, false, cond, ◌&&◌, eqb, ltb, leb, List, length, get_or, sym, refl, ap, ◌∙◌, arith, lit<, le-ltb, lt-ltb, ne_eqb, eqb-true, le-leb, leb-false, leb-true}
use mathlib.Core.Bool.{and-false}
use borrow.Author.Tests.{lt-leb}
use mir.Val.{bool_byte}
use Rattle.bits.proofs.Tests.{by_cases, each_at}
use Rattle.numbers.specs.Numbers.{groups_in}
use Rattle.numbers.proofs.Counting.{last_group, more_groups}
use Rattle.kinds.specs.Kind.{Kind}
use Rattle.kinds.specs.Kinds.{nc_cd_diff, nc_diff, class}
use Rattle.kinds.specs.Tables.{cant_figures, volts}
use Rattle.kinds.specs.Judged.{value_in_packet}
use Rattle.fields.specs.internal.size.Counts.{bytes_of, most_class}

module _ (k : Kind) (v : ℕ) where
  -- a value that is allowed, and one that is not
  pub bytes_some : {r : ℕ} → k.allowed v ≡ true → r ≡ length (groups_in (k.raise v)) → r ≡ bytes_of (value_in_packet k v)
  bytes_some a e = rw a e

  pub bytes_none : k.allowed v ≡ false → 0 ≡ bytes_of (value_in_packet k v)
  bytes_none a = rw a

-- ---- the tests of the kinds

pub high_out : (least largest v : ℕ) → largest < v → (leb least v && leb v largest) ≡ false
high_out least largest v h = rw (lt-leb v largest h) (and-false (leb least v))

pub both_in : (least largest v : ℕ) → least ≤ v → v ≤ largest → (leb least v && leb v largest) ≡ true
both_in least largest v h l = rw (le-leb least v h, le-leb v largest l)

-- ---- the figures' bytes

pub cant_bytes : (v : ℕ) → v < 11 → cond (ltb v 2) 1 2 ≡ length (groups_in (get_or cant_figures v 0))
unfolding groups_in
cant_bytes v h = eqb-true (cond (ltb v 2) 1 2) (length (groups_in (get_or cant_figures v 0))) (each_at 11 (λ u. eqb (cond (ltb u 2) 1 2) (length (groups_in (get_or cant_figures u 0)))) refl v h)

pub volts_bytes : (v : ℕ) → v < 6 → cond (eqb v 0) 1 (cond (eqb v 1) 3 2) ≡ length (groups_in (get_or volts v 0))
unfolding groups_in
volts_bytes v h =
    eqb-true (cond (eqb v 0) 1 (cond (eqb v 1) 3 2)) (length (groups_in (get_or volts v 0)))
    (each_at 6 (λ u. eqb (cond (eqb u 0) 1 (cond (eqb u 1) 3 2)) (length (groups_in (get_or volts u 0)))) refl v h)

pub one_byte : (v : ℕ) → v < 128 → 1 ≡ length (groups_in v)
unfolding groups_in
one_byte v h = sym (ap length (last_group 4 v h))

pub two_bytes : (v : ℕ) → 128 ≤ v → v < 16384 → 2 ≡ length (groups_in v)
unfolding groups_in
two_bytes v h l = sym (ap length (more_groups 4 v h) ∙ ap (λ (g : List ℕ). suc (length g)) (last_group 3 (v / 128) (omega arith)))

-- the end of a temporary constraint
module _ (start most v : ℕ) where
  pub after_low : v ≤ start → (ltb start v && leb v most) ≡ false
  after_low h = rw (le-ltb start v h)

  pub after_in : start < v → v ≤ most → (ltb start v && leb v most) ≡ true
  after_in h l = rw (lt-ltb start v h, le-leb v most l)

pub class_refusal : (q v : ℕ) → (class q).refusal v ≡ 4
class_refusal zero v = refl
class_refusal (suc q) v = refl

pub speed_bytes : (v : ℕ) → v < 121 → cond (ltb v 26) 1 2 ≡ length (groups_in (v * 5))
unfolding groups_in
speed_bytes v h = eqb-true (cond (ltb v 26) 1 2) (length (groups_in (v * 5))) (each_at 121 (λ u. eqb (cond (ltb u 26) 1 2) (length (groups_in (u * 5)))) refl v h)

-- ---- the class, with no branch on Q_DIFF

-- what the class adds fits
pub both_small : (a b : Bool) → bool_byte a * bool_byte b < 2
both_small true true = lit< tt
both_small true false = lit< tt
both_small false b = let e : 0 * bool_byte b ≡ 0 = omega arith in omega arith

pub class_in : (q v : ℕ) → v ≤ most_class q → 1 + bool_byte (eqb q 0) * bool_byte (leb 2 v) ≡ bytes_of (value_in_packet (class q) v)
class_in zero v h =
    bytes_some nc_cd_diff v (lt-ltb v 11 (omega arith))
    (by_cases (leb 2 v)
    (λ d. rw d (rw (le-ltb v 2 (leb-true 2 v d)) at (cant_bytes v (omega arith))))
    (λ d. rw d (rw (lt-ltb v 2 (leb-false 2 v d)) at (cant_bytes v (omega arith)))))
class_in (suc q) v h =
    let e : 1 + 0 * bool_byte (leb 2 v) ≡ 1 = omega arith in
    rw (ne_eqb (suc q) 0 (λ z. omega arith)) (bytes_some nc_diff v (both_in 0 2 v (omega arith) h) (e ∙ one_byte v (omega arith)))
