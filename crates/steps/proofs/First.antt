-- The first wrong centimetre, counted, is the first wrong one.
use mathlib.Core.Path.{◌≡◌, refl, ap, ap₂, ◌∙◌}
use mathlib.Core.Bool.{Bool, true, false, cond}
use mathlib.Core.Option.{Option, none, some}
use Prim.Native.Nat.{ℕ, zero, suc, ◌+◌, ◌≤◌, ◌<◌}
use native.Mathlib.Omega.{arith}
use borrow.Author.Tests.{eqb-true, eqb-false, ltb-true, ltb-false}
use lib.Dec.{eqb, ltb}
use Rattle.bits.proofs.Tests.{by_cases}
use Rattle.steps.specs.Steps.{first_wrong, Everywhere, FirstWrong}

contrary : {C : Type 0} {b : Bool} → b ≡ true → b ≡ false → C
contrary e f = absurd (let z : ◌≡◌ {A = ℕ} 0 1 = cc in omega arith)

module _ (p : ℕ → Bool) where
  pub record From (n at c : ℕ) : Type 0 where
    pub low : at ≤ c
    pub high : c < at + n
    pub wrong : p c ≡ false
    pub before : (d : ℕ) → at ≤ d → d < c → p d ≡ true

  from_none : (n at : ℕ) → first_wrong n at p ≡ none → (d : ℕ) → at ≤ d → d < at + n → p d ≡ true
  unfolding first_wrong
  from_none zero at e d a b = absurd (omega arith)
  from_none (suc n) at e d a b =
      by_cases (p at)
      (λ q. by_cases (eqb d at) (λ i. rw (eqb-true d at i) q) (λ i. from_none n (at + 1) (rw q at e) d (omega (arith, eqb-false d at i)) (omega arith)))
      (λ q. let z : some at ≡ none = rw q at e in absurd (let y : ◌≡◌ {A = ℕ} 0 1 = cc in omega arith))

  from_some : (n at c : ℕ) → first_wrong n at p ≡ some c → From n at c
  unfolding first_wrong
  from_some zero at c e = absurd (let y : ◌≡◌ {A = ℕ} 0 1 = cc in omega arith)
  from_some (suc n) at c e =
      by_cases (p at)
      (λ q. let r = from_some n (at + 1) c (rw q at e) in
      record {
        low = omega (arith, r.low);
        high = omega (arith, r.high);
        wrong = r.wrong;
        before = λ d a b. by_cases (eqb d at) (λ i. rw (eqb-true d at i) q) (λ i. r.before d (omega (arith, eqb-false d at i)) b);
      })
      (λ q. let z : some at ≡ some c = rw q at e in let i : at ≡ c = cc in
      record { low = omega arith; high = omega arith; wrong = rw i at q; before = λ d a b. absurd (omega arith) })

  pub counted_none : (n : ℕ) → first_wrong n 0 p ≡ none → Everywhere n p
  counted_none n e c h = from_none n 0 e c (omega arith) (omega arith)

  pub counted_some : (n c : ℕ) → first_wrong n 0 p ≡ some c → FirstWrong n p c
  counted_some n c e =
      let r = from_some n 0 c e in
      record { inside = omega (arith, r.high); wrong = r.wrong; before = λ d h. r.before d (omega arith) h }

  -- and so the other way: right everywhere, or wrong first at one place
  pub everywhere_counted : (n : ℕ) → Everywhere n p → first_wrong n 0 p ≡ none
  everywhere_counted n h = go (first_wrong n 0 p) refl
    where
      go : (o : Option ℕ) → first_wrong n 0 p ≡ o → first_wrong n 0 p ≡ none
      go none e = e
      go (some c) e = let r = counted_some n c e in contrary (h c r.inside) r.wrong

  pub first_counted : (n c : ℕ) → FirstWrong n p c → first_wrong n 0 p ≡ some c
  first_counted n c w = go (first_wrong n 0 p) refl
    where
      go : (o : Option ℕ) → first_wrong n 0 p ≡ o → first_wrong n 0 p ≡ some c
      go none e = contrary (counted_none n e c w.inside) w.wrong
      go (some d) e =
          let r = counted_some n d e in
          by_cases (ltb c d)
          (λ q. contrary (r.before c (ltb-true c d q)) w.wrong)
          (λ q. by_cases (ltb d c)
          (λ s. contrary (w.before d (ltb-true d c s)) r.wrong)
          (λ s. let i : d ≡ c = omega (arith, ltb-false c d q, ltb-false d c s) in e ∙ ap some i))

-- one test in place of another that gives the same
pub wrong_same : {p q : ℕ → Bool} → ((c : ℕ) → p c ≡ q c) → (n at : ℕ) → first_wrong n at p ≡ first_wrong n at q
unfolding first_wrong
wrong_same h zero at = refl
wrong_same h (suc n) at = ap₂ (λ (b : Bool) (o : Option ℕ). cond b o (some at)) (h at) (wrong_same h n (at + 1))
