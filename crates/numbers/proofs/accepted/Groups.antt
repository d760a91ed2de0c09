-- A number read group by group: the groups that are left, and the value of the groups so far.
use mathlib.Core.Path.{◌≡◌, refl, sym, ◌∙◌}
use mathlib.Core.List.{List}
use Prim.Native.Nat.{ℕ, zero, suc, ◌+◌, ◌*◌, ◌/◌, ◌%◌, ◌-◌, ◌^◌, ◌≤◌, ◌<◌}
use native.Mathlib.Nat.{mul-le-mul_left, mul-add, mul_assoc, mul_comm}
use native.Mathlib.Omega.{arith}
use borrow.Author.Tests.{ltb-true, ltb-false}
use lib.Dec.{ltb}
use lib.ListN.{length, drop, get_or}
use Rattle.bits.proofs.Tests.{by_cases}
use Rattle.std.specs.Prelude.{Some, None, Option}
use Rattle.numbers.specs.Numbers.{joined, groups_at, below, number_of, number_in, groups_in}
use Rattle.numbers.specs.internal.accepted.Accepted.{There, Reads}
use Rattle.numbers.proofs.Counting.{last_count, count_more}
use Rattle.numbers.proofs.Reading.{number_none, number_end_lem, number_last, number_more}

bad : {C : Type 0} {v : ℕ} → None ≡ Some v → C
bad e = absurd (let z : ◌≡◌ {A = ℕ} 0 1 = cc in omega arith)

below_is : {C : Type 0} (n : Option ℕ) (v : ℕ) → below n ≡ Some v → (n ≡ Some v → v < 2 ^ 32 → C) → C
below_is None v e f = absurd (let z : ◌≡◌ {A = ℕ} 0 1 = cc in omega arith)
below_is (Some n) v e f =
    by_cases (ltb n 4294967296)
    (λ d. let g : Some n ≡ Some v = rw d at e in let q : n ≡ v = cc in f g (omega (arith, ltb-true n 4294967296 d)))
    (λ d. let g : None ≡ Some v = rw d at e in absurd (let z : ◌≡◌ {A = ℕ} 0 1 = cc in omega arith))

joined_is : {C : Type 0} (b : ℕ) (n : Option ℕ) (v : ℕ) → joined b n ≡ Some v → ((u : ℕ) → n ≡ Some (suc u) → v ≡ b - 128 + 128 * suc u → C) → C
joined_is b None v e f = absurd (let z : ◌≡◌ {A = ℕ} 0 1 = cc in omega arith)
joined_is b (Some zero) v e f = absurd (let z : ◌≡◌ {A = ℕ} 0 1 = cc in omega arith)
joined_is b (Some (suc u)) v e f = f u refl (cc)

spread : (value scale c u : ℕ) → value + scale * (c + 128 * u) ≡ value + c * scale + scale * 128 * u
spread value scale c u = rw (mul-add scale c (128 * u), mul_comm c scale, mul_assoc scale 128 u) (omega arith)

-- The rest of the number v at a place, with the group b in front: the value of the groups before it, and what a group here counts.
pub record Rest (s : List ℕ) (from at value scale b : ℕ) : Type 0 where
  pub v : ℕ
  pub whole : number_in (drop from s) ≡ Some v
  pub small : v < 2 ^ 32
  pub most : ℕ
  pub left : most + at ≡ from + 5
  pub rest : ℕ
  pub is : number_of most (drop at s) ≡ Some rest
  pub parts : v ≡ value + scale * rest
  pub place : at + length (groups_in rest) ≡ from + length (groups_in v)
  pub group : b ≡ get_or s at 0
  pub byte : b < 256

pos : {n : ℕ} → (n ≡ 0 → ⊥) → 0 < n
pos z = omega arith

inside : (s : List ℕ) (at most v : ℕ) → number_of most (drop at s) ≡ Some v → at < length s
inside s at most v e = by_cases (ltb at (length s)) (λ d. ltb-true at (length s) d) (λ d. bad (number_end_lem s at most (ltb-false at (length s) d) ∙ e))

pub there_inside : {s : List ℕ} {at : ℕ} → There s at → at < length s
unfolding number_of
there_inside {s} {at} t = inside s at 5 t.value t.is

pub rest_start : (s : List ℕ) (at v b : ℕ) → number_in (drop at s) ≡ Some v → b ≡ get_or s at 0 → b < 256 → Rest s at at 0 1 b
unfolding number_of
rest_start s at v b e g h =
    below_is (groups_at 5 (drop at s)) v e λ _ l.
    record { v = v; whole = e; small = l; most = 5; left = omega arith; rest = v; is = e; parts = omega arith; place = refl; group = g; byte = h }

-- the group as the code reads it
pub rest_group : {s : List ℕ} {from at value scale b : ℕ} → Rest s from at value scale (get_or s at 0) → b ≡ get_or s at 0 → Rest s from at value scale b
rest_group r e = rw e r

module _ {s : List ℕ} {from at value scale b : ℕ} (r : Rest s from at value scale b) where
  some : r.most ≡ 0 → ⊥
  some z = bad (number_none s at r.most z ∙ r.is)

  -- "a number has at most five groups"
  pub rest_few : at < from + 5
  rest_few = omega (arith, r.left, pos some)

  pub rest_inside : at < length s
  rest_inside = inside s at r.most r.rest r.is

  pub rest_last : b < 128 → (r.v ≡ value + b * scale) × (at + 1 ≡ from + length (groups_in r.v))
  rest_last h =
      let e : Some b ≡ Some r.rest = rw r.group (number_last s at r.most some rest_inside (rw r.group at h) ∙ r.is) in
      let q : r.rest ≡ b = cc in
      (rw (← mul_comm scale b) (rw q at r.parts), omega (arith, rw q at r.place, last_count b h))

  pub rest_reads : {n to : ℕ} → r.v ≡ n → to ≡ from + length (groups_in r.v) → Reads s from (record { value = n; next = to })
  rest_reads q p = record { is = rw q at r.whole; next = rw q at p }

  module _ (h : 128 ≤ b) where
    -- what follows the group
    after : {C : Type 0} → ((u : ℕ) → number_of (r.most - 1) (drop (at + 1) s) ≡ Some (suc u) → r.rest ≡ b - 128 + 128 * suc u → r.rest < 2 ^ 32 → C) → C
    after f =
        let e = rw (← r.group) at (number_more s at r.most some rest_inside (rw r.group at h)) in
        below_is (joined b (number_of (r.most - 1) (drop (at + 1) s))) r.rest (e ∙ r.is) λ d l.
        joined_is b (number_of (r.most - 1) (drop (at + 1) s)) r.rest d λ u n q. f u n q l

    pub rest_value : value + (b - 128) * scale ≤ r.v
    rest_value = after λ u n q l. omega (arith, r.parts, mul_comm (b - 128) scale, mul-le-mul_left {m = b - 128} {n = r.rest} scale (omega arith))

    pub rest_scale : scale * 128 ≤ r.v
    rest_scale = after λ u n q l. omega (arith, r.parts, mul-le-mul_left {m = 128} {n = r.rest} scale (omega arith))

    pub rest_next : at + 1 < length s
    rest_next = after λ u n q l. inside s (at + 1) (r.most - 1) (suc u) n

    pub rest_more : (a : ℕ) → a ≡ get_or s (at + 1) 0 → a < 256 → Rest s from (at + 1) (value + (b - 128) * scale) (scale * 128) a
    rest_more a e k =
        after λ u n q l.
        record {
          v = r.v;
          whole = r.whole;
          small = r.small;
          most = r.most - 1;
          left = omega (arith, r.left, pos some);
          rest = suc u;
          is = n;
          parts = rw q at r.parts ∙ spread value scale (b - 128) (suc u);
          place = omega (arith, rw q at r.place, count_more b (suc u) h r.byte (λ z. omega arith) (omega arith));
          group = e;
          byte = k;
        }

-- one or two groups: the second place that is read is the first where the number has one group
module _ {s : List ℕ} {from b : ℕ} (t : There s from) (g : b ≡ get_or s from 0) (h : get_or s from 0 < 256) where
  start : Rest s from from 0 1 b
  start = rest_start s from t.value b t.is g (omega arith)

  -- a number below 128 is its byte
  pub single_reads : t.value < 128 → Reads s from (record { value = b; next = from + 1 })
  single_reads k =
      let e : Some start.v ≡ Some t.value = sym start.whole ∙ t.is in
      let q : start.v ≡ t.value = cc in
      by_cases (ltb b 128)
      (λ d. let w = rest_last start (ltb-true b 128 d) in rest_reads start (omega (arith, w.0)) (omega (arith, w.1)))
      (λ d. absurd (omega (arith, rest_scale start (ltb-false b 128 d))))

  one_or_two : {C : Type 0} → (b < 128 → b / 128 ≡ 0 → C) → (128 ≤ b → b / 128 ≡ 1 → C) → C
  one_or_two f k =
      by_cases (ltb b 128)
      (λ d. let l = ltb-true b 128 d in f l (omega arith))
      (λ d. let l = ltb-false b 128 d in k l (omega arith))

  pub short_inside : from + b / 128 < length s
  short_inside = one_or_two (λ l o. omega (arith, rest_inside start)) (λ l o. omega (arith, rest_next start l))

  pub short_small : (a : ℕ) → a < 128 → a * (b / 128 * 128) < 16384
  short_small a k = one_or_two (λ l o. rw o (omega arith)) (λ l o. rw o (omega arith))

  pub short_reads : (a : ℕ) → a ≡ get_or s (from + b / 128) 0 → a < 128 → Reads s from (record { value = b % 128 + a * (b / 128 * 128); next = from + 1 + b / 128 })
  short_reads a e k =
      one_or_two
      (λ l o. let w = rest_last start l in rest_reads start (rw o (omega (arith, w.0))) (rw o (omega (arith, w.1))))
      (λ l o.
      let r = rest_more start l a (rw o at e) (omega arith) in
      let w = rest_last r k in
      let q : a * (b / 128 * 128) ≡ a * 128 = rw o in
      rest_reads r (omega (arith, w.0, q)) (omega (arith, w.1)))
