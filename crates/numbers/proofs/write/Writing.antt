-- The loop that writes a number: what is written, and what is left to write from the place i on, make the whole number.
use mathlib.Core.Path.{◌≡◌, refl, sym, ap, ◌∙◌}
use mathlib.Core.List.{List, [], ◌∷◌}
use Prim.Native.Nat.{ℕ, suc, ◌+◌, ◌*◌, ◌-◌, ◌/◌, ◌%◌, ◌^◌, ◌≤◌, ◌<◌}
use native.Mathlib.Nat.{lt_of_not-le}
use native.Mathlib.Numerals.{add-one}
use native.Mathlib.Omega.{arith}
use borrow.Author.Tests.{leb-true, leb-false}
use mir.Val.{bool_byte}
use lib.Dec.{leb}
use lib.ListN.{length, set, length-set}
use lib.Seq.{sets, set-set, set_comm}
use Rattle.bits.proofs.Tests.{by_cases}
use Rattle.numbers.specs.Numbers.{groups_of, groups_in}
use Rattle.numbers.specs.internal.Groups.{Put, put_number}
use Rattle.numbers.proofs.Counting.{last_group, more_groups, fewer}

not_one : (g x : ℕ) → g ≡ 0 → 128 ≤ x → x < 128 ^ suc g → ⊥
not_one g x e h l = let l' : x < 128 ^ 1 = rw e at l in omega arith

pub record Rest (s₀ : List ℕ) (at v : ℕ) (s : List ℕ) (x i : ℕ) : Type 0 where
  pub from : at ≤ i
  pub room : i < at + 5
  pub small : x < 128 ^ (at + 5 - i)
  pub long : length s ≡ length s₀
  pub next : i + length (groups_of (at + 5 - i) x) ≡ at + length (groups_in v)
  pub bytes : sets s i (groups_of (at + 5 - i) x) ≡ sets s₀ at (groups_in v)

pub rest_start : (s : List ℕ) (at v : ℕ) → v < 2 ^ 32 → Rest s at v s v at
unfolding groups_in
rest_start s at v h =
    let e : at + 5 - at ≡ 5 = omega arith in
    record { from = omega arith; room = omega arith; small = rw e (omega arith); long = refl; next = rw e; bytes = rw e }

module _ {s₀ : List ℕ} {at v : ℕ} {s : List ℕ} {x i : ℕ} (r : Rest s₀ at v s x i) where
  shape : at + 5 - i ≡ suc (at + 4 - i)
  shape = let h : i < at + 5 = r.room in omega arith

  pub rest_more : 128 ≤ x → Rest s₀ at v (set s i (x % 128 + 128)) (x / 128) (i + 1)
  rest_more h =
      let k : ℕ = at + 4 - i in
      let e : at + 5 - (i + 1) ≡ k = omega arith in
      let b : x % 128 + 128 ≡ 128 + x % 128 = omega arith in
      let sm : x < 128 ^ suc k = rw shape at r.small in
      let g : groups_of (at + 5 - i) x ≡ (128 + x % 128) ∷ groups_of k (x / 128) = rw shape (more_groups k x h) in
      record {
        from = omega arith;
        room = lt_of_not-le (λ l. not_one k x (omega arith) h sm);
        small = rw e (fewer k x sm);
        long = length-set s i (x % 128 + 128) ∙ r.long;
        next = rw e (omega (arith, ap length g, r.next));
        bytes = rw (e, add-one i, b) (ap (sets s i) (sym g) ∙ r.bytes);
      }

-- ---- a number of at most two groups

module _ (s : List ℕ) (at v : ℕ) (h : v < 16384) where
  -- what is written of a number that has 1 + m groups
  abbrev pub short : ℕ → Put
  short m = record { next = at + 1 + m; bytes = set (set s (at + m) (v / 128)) at (v % 128 + 128 * m) }

  one_group : v < 128 → groups_in v ≡ v ∷ []
  unfolding groups_in
  one_group l = last_group 4 v l

  two_groups : 128 ≤ v → groups_in v ≡ (128 + v % 128) ∷ v / 128 ∷ []
  unfolding groups_in
  two_groups l = more_groups 4 v l ∙ ap (λ (t : List ℕ). (128 + v % 128) ∷ t) (last_group 3 (v / 128) (omega arith))

  short_one : v < 128 → short 0 ≡ put_number s at v
  short_one l =
      let n : at + 1 + 0 ≡ at + 1 = omega arith in
      let i : at + 0 ≡ at = omega arith in
      let b : v % 128 + 128 * 0 ≡ v = omega arith in
      rw (one_group l, n, i, b, set-set s at (v / 128) v)

  short_two : 128 ≤ v → short 1 ≡ put_number s at v
  short_two l =
      let n : at + 1 + 1 ≡ at + 2 = omega arith in
      let b : v % 128 + 128 * 1 ≡ 128 + v % 128 = omega arith in
      rw (two_groups l, n, b, add-one at, set_comm s (suc at) at (v / 128) (128 + v % 128) (λ e. omega arith))

  pub short_put : short (bool_byte (leb 128 v)) ≡ put_number s at v
  short_put = by_cases (leb 128 v) (λ d. rw d (short_two (leb-true 128 v d))) (λ d. rw d (short_one (leb-false 128 v d)))

  pub short_next : at + 1 + bool_byte (leb 128 v) ≡ at + length (groups_in v)
  short_next = ap (λ (p : Put). p.next) short_put
