-- A table looked up, one entry after the other; and its rule: a figure stands where it is found, and its place is found again.
use Rattle.std.proofs.Common.{◌≡◌, ℕ, zero, suc, ◌+◌, ◌-◌, ◌<◌, ◌≤◌, Bool, true, false, not, ◌&&◌, eqb, List, [], ◌∷◌, length, get_or, sym, refl, ap, ◌∙◌, arith, eq-eqb, ne_eqb, eqb-true}
use mathlib.Core.Option.{some}
use Rattle.bits.proofs.Tests.{by_cases, and_left, and_right}
use Rattle.kinds.specs.Tables.{cant_figures, volts, greatest, place}

pub place_small : (i : ℕ) (table : List ℕ) (a v : ℕ) → place i table a ≡ some v → v < i + length table
unfolding place
place_small i [] a v e = cc
place_small i (t ∷ ts) a v e =
    by_cases (eqb a t)
    (λ d. let f : some i ≡ some v = rw d at e in let q : i ≡ v = cc in omega arith)
    (λ d. omega (arith, place_small (suc i) ts a v (rw d at e)))

pub place_top : (i : ℕ) (table : List ℕ) (a v : ℕ) → place i table a ≡ some v → a ≤ greatest table
unfolding place
place_top i [] a v e = cc
place_top i (t ∷ ts) a v e =
    by_cases (eqb a t)
    (λ d. omega (arith, eqb-true a t d))
    (λ d. omega (arith, place_top (suc i) ts a v (rw d at e)))

abbrev absent : ℕ → List ℕ → Bool
absent a [] = true
absent a (t ∷ ts) = not (eqb a t) && absent a ts

-- no figure stands at two places of a table
abbrev pub distinct : List ℕ → Bool
distinct [] = true
distinct (t ∷ ts) = absent t ts && distinct ts

absent_at : (a : ℕ) (table : List ℕ) → absent a table ≡ true → (v : ℕ) → v < length table → get_or table v 0 ≡ a → ⊥
absent_at a [] t v h e = omega arith
absent_at a (x ∷ xs) t zero h e =
    let n : not (eqb a x) ≡ true = and_left (not (eqb a x)) (absent a xs) t in
    let f : false ≡ true = rw (eq-eqb a x (sym e)) at n in
    cc
absent_at a (x ∷ xs) t (suc v) h e = absent_at a xs (and_right (not (eqb a x)) (absent a xs) t) v (omega arith) e

found_again : (i : ℕ) (table : List ℕ) → distinct table ≡ true → (v : ℕ) → v < length table → place i table (get_or table v 0) ≡ some (i + v)
unfolding place
found_again i [] t v h = absurd (omega arith)
found_again i (x ∷ xs) t zero h = rw (eq-eqb x x refl) (ap (λ (n : ℕ). some n) (omega arith))
found_again i (x ∷ xs) t (suc v) h =
    let n : i + suc v ≡ suc i + v = omega arith in
    let a : ℕ = get_or xs v 0 in
    rw (ne_eqb a x (absent_at x xs (and_left (absent x xs) (distinct xs) t) v (omega arith)), n)
    (found_again (suc i) xs (and_right (absent x xs) (distinct xs) t) v (omega arith))

-- the place of the figure at v is v
pub place_again : (table : List ℕ) → distinct table ≡ true → (v : ℕ) → v < length table → place 0 table (get_or table v 0) ≡ some v
place_again table t v h = found_again 0 table t v h ∙ ap (λ (n : ℕ). some n) (omega arith)

-- the one computed test: the entries of both tables are distinct
tables_distinct : (distinct cant_figures && distinct volts) ≡ true
tables_distinct = refl

pub cants_distinct : distinct cant_figures ≡ true
cants_distinct = and_left (distinct cant_figures) (distinct volts) tables_distinct

pub volts_distinct : distinct volts ≡ true
volts_distinct = and_right (distinct cant_figures) (distinct volts) tables_distinct

-- a figure stands where it is found
pub place_stands : (i : ℕ) (table : List ℕ) (a v : ℕ) → place i table a ≡ some v → get_or table (v - i) 0 ≡ a
unfolding place
place_stands i [] a v e = cc
place_stands i (t ∷ ts) a v e =
    by_cases (eqb a t)
    (λ d. let f : some i ≡ some v = rw d at e in
    let q : i ≡ v = cc in
    let z : v - i ≡ 0 = omega arith in
    rw z (sym (eqb-true a t d)))
    (λ d. let h : place (suc i) ts a ≡ some v = rw d at e in
    let l : suc i ≤ v = place_from_lem (suc i) ts a v h in
    let z : v - i ≡ suc (v - suc i) = omega arith in
    rw z (place_stands (suc i) ts a v h))
  where
    place_from_lem : (j : ℕ) (us : List ℕ) (b w : ℕ) → place j us b ≡ some w → j ≤ w
    place_from_lem j [] b w p = cc
    place_from_lem j (u ∷ us) b w p =
        by_cases (eqb b u)
        (λ d. let f : some j ≡ some w = rw d at p in let q : j ≡ w = cc in omega arith)
        (λ d. omega (arith, place_from_lem (suc j) us b w (rw d at p)))
