-- The numbers in the sheet of a class and of a current.
use Rattle.std.proofs.Common.{◌≡◌, ℕ, zero, suc, ◌<◌, ◌≤◌, true, eqb, ltb, leb, get_or, refl, arith, ltb-true, eqb-true, leb-true}
use Rattle.bits.proofs.Tests.{by_cases, and_right, each_at}
use Rattle.kinds.specs.Kinds.{class, m_current}
use Rattle.kinds.specs.Tables.{cant_figures}

-- ---- a class

-- the number of a category is below 3
pub category_raised : (q v : ℕ) → 0 < q → (class q).allowed v ≡ true → (class q).raise v < 3
category_raised zero v h e = absurd (omega arith)
category_raised (suc q) v h e = omega (arith, leb-true v 2 (and_right (leb 0 v) (leb v 2) e))

-- the number of a class has at most two groups
pub class_short : (q v : ℕ) → (class q).allowed v ≡ true → (class q).raise v < 16384
class_short zero v e = ltb-true (get_or cant_figures v 0) 16384 (each_at 11 (λ u. ltb (get_or cant_figures u 0) 16384) refl v (ltb-true v 11 e))
class_short (suc q) v e = omega (arith, category_raised (suc q) v (omega arith) e)

-- ---- a current

pub current_small : (v : ℕ) → m_current.allowed v ≡ true → v ≤ 1023
current_small v e = by_cases (leb v 1000) (λ a. omega (arith, leb-true v 1000 a)) (λ a. omega (arith, eqb-true v 1023 (rw a at e)))

pub current_short : (v : ℕ) → m_current.allowed v ≡ true → m_current.raise v < 16384
current_short v e = by_cases (eqb v 1023) (λ d. rw d (omega arith)) (λ d. rw d (omega (arith, current_small v e)))
