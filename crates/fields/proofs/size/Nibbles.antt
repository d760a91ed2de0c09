-- All digits of a number tested at once: a digit above nine has its top bit and, of its three others, 2 or more; F has 7.
use Rattle.std.proofs.Common.{◌≡◌, ℕ, zero, suc, ◌+◌, ◌*◌, ◌/◌, ◌%◌, ◌^◌, ◌<◌, ◌≤◌, Bool, true, false, ◌&&◌, eqb, sym, refl, ap, ◌∙◌, arith, lit<, lit≤, eq-eqb, ne_eqb, eqb-true}
use native.Mathlib.Nat.{pow-succ'}
use borrow.Author.Tests.{eqb-false}
use lib.Bits.{bit_and, and_block, and_le_l, and_le_r, and_zero_r}
use Rattle.bits.proofs.Tests.{by_cases, each_at}
use Rattle.kinds.specs.Kinds.{digit, digits}

-- a one in each of n digits
abbrev pub ones : ℕ → ℕ
ones zero = 0
ones (suc n) = ones n * 16 + 1

-- the top bits of the digits whose other bits and u come to eight or more
abbrev pub tops : ℕ → ℕ → ℕ → ℕ
tops n v u = bit_and (bit_and v (bit_and v (ones n * 7) + ones n * u)) (ones n * 8)

-- one digit
abbrev top : ℕ → ℕ → ℕ
top d u = bit_and (bit_and d (bit_and d 7 + u)) 8

top_small : (d u : ℕ) → top d u < 16
top_small d u = omega (arith, and_le_r (bit_and d (bit_and d 7 + u)) 8)

tops_more : (n q d u : ℕ) → d < 16 → u ≤ 8 → tops (suc n) (q * 16 + d) u ≡ tops n q u * 16 + top d u
tops_more n q d u h l =
    let o : ℕ = ones n in
    let x : ℕ = bit_and q (o * 7) + o * u in
    let y : ℕ = bit_and d 7 + u in
    let e7 : (o * 16 + 1) * 7 ≡ o * 7 * 16 + 7 = omega arith in
    let e8 : (o * 16 + 1) * 8 ≡ o * 8 * 16 + 8 = omega arith in
    let b7 : bit_and (q * 16 + d) (o * 7 * 16 + 7) ≡ bit_and q (o * 7) * 16 + bit_and d 7 = and_block 4 q (o * 7) d 7 h (lit< tt) in
    let s : bit_and q (o * 7) * 16 + bit_and d 7 + (o * 16 + 1) * u ≡ x * 16 + y = omega arith in
    let by : bit_and (q * 16 + d) (x * 16 + y) ≡ bit_and q x * 16 + bit_and d y = and_block 4 q x d y h (omega (arith, and_le_r d 7)) in
    let b8 : bit_and (bit_and q x * 16 + bit_and d y) (o * 8 * 16 + 8) ≡ bit_and (bit_and q x) (o * 8) * 16 + bit_and (bit_and d y) 8 =
    and_block 4 (bit_and q x) (o * 8) (bit_and d y) 8 (omega (arith, and_le_l d y)) (lit< tt) in
    rw (e7, b7, s, by, e8) b8

-- two numbers are the same where their last digits and the others are
same_digits : (a b x y : ℕ) → x < 16 → y < 16 → eqb (a * 16 + x) (b * 16 + y) ≡ (eqb x y && eqb a b)
same_digits a b x y h l =
    by_cases (eqb x y)
    (λ e. by_cases (eqb a b)
    (λ f. rw (e, f) (eq-eqb (a * 16 + x) (b * 16 + y) (omega (arith, eqb-true x y e, eqb-true a b f))))
    (λ f. rw (e, f) (ne_eqb (a * 16 + x) (b * 16 + y) (λ z. eqb-false a b f (omega arith)))))
    (λ e. rw e (ne_eqb (a * 16 + x) (b * 16 + y) (λ z. eqb-false x y e (omega arith))))

one_digit : (d : ℕ) → d < 16 → eqb (top d 6) (top d 1) ≡ digit d
one_digit d h = same (eqb (top d 6) (top d 1)) (digit d) (each_at 16 (λ u. alike (eqb (top u 6) (top u 1)) (digit u)) refl d h)
  where
    alike : Bool → Bool → Bool
    alike true b = b
    alike false true = false
    alike false false = true

    same : (a b : Bool) → alike a b ≡ true → a ≡ b
    same true true e = refl
    same true false e = sym e
    same false true e = e
    same false false e = refl

pub tops_digits : (n v : ℕ) → v < 16 ^ n → eqb (tops n v 6) (tops n v 1) ≡ digits n v
unfolding digits
tops_digits zero v h =
    let z : v ≡ 0 = omega arith in
    rw (and_zero_r (bit_and v (bit_and v 0 + 0)), z)
tops_digits (suc n) v h =
    let q : ℕ = v / 16 in
    let d : ℕ = v % 16 in
    let e : v ≡ q * 16 + d = omega arith in
    let l : d < 16 = omega arith in
    ap (λ (u : ℕ). eqb (tops (suc n) u 6) (tops (suc n) u 1)) e
    ∙ rw (tops_more n q d 6 l (lit≤ tt), tops_more n q d 1 l (lit≤ tt), same_digits (tops n q 6) (tops n q 1) (top d 6) (top d 1) (top_small d 6) (top_small d 1), one_digit d l)
    (ap (λ (b : Bool). digit d && b) (tops_digits n q (omega (arith, pow-succ' 16 n))))
