-- What the code's tests make of a number is what its kind makes of it; and what is known of the one number that is made.
use Rattle.std.proofs.Common.{◌≡◌, ℕ, ◌+◌, ◌-◌, ◌/◌, ◌%◌, ◌^◌, ◌<◌, ◌≤◌, Bool, true, ◌&&◌, eqb, leb, get_or, refl, ap, ◌∙◌, arith, eqb-true, leb-true}
use mathlib.Core.Option.{Option, none, some}
use Rattle.bits.proofs.Tests.{and_left, and_right, each_at}
use Rattle.kinds.specs.Kind.{Kind}
use Rattle.kinds.specs.Tables.{cant_figures, volts, place}
use Rattle.kinds.specs.Kinds.{nc_cd_diff, m_voltage}
use Rattle.fields.proofs.Lawful.{LawfulKind, value_small}
use Rattle.fields.proofs.Lookup.{place_small, place_again, place_stands, cants_distinct, volts_distinct}
use Rattle.fields.specs.internal.lower.Lowered.{value_or, lowered}

-- ---- a value, or none

module _ (k : Kind) (a v : ℕ) (w : LawfulKind k) (e : v ≡ lowered k a) where
  go : {C : Type 0} (o : Option ℕ) → k.lower a ≡ o → ((u : ℕ) → o ≡ some u → C) → (o ≡ none → C) → C
  go none p f g = g refl
  go (some u) p f g = f u refl

  -- where a number is made that the field holds, it is the value
  pub lowered_is : v < 2 ^ k.width → k.lower a ≡ some v
  lowered_is h =
      go (k.lower a) refl
      (λ u p. let q : v ≡ u = e ∙ ap (value_or (2 ^ k.width)) p in rw q p)
      (λ p. absurd (let q : v ≡ 2 ^ k.width = e ∙ ap (value_or (2 ^ k.width)) p in omega arith))

  pub lowered_none : 2 ^ k.width ≤ v → k.lower a ≡ none
  lowered_none h =
      go (k.lower a) refl
      (λ u p. absurd (let q : v ≡ u = e ∙ ap (value_or (2 ^ k.width)) p in omega (arith, value_small w u (w.into a u p))))
      (λ p. p)

-- ---- cant figures

pub cant_at : (a i : ℕ) → i < 11 → get_or cant_figures i 0 ≡ a → i ≡ lowered nc_cd_diff a
cant_at a i h e = let p : place 0 cant_figures a ≡ some i = rw e at (place_again cant_figures cants_distinct i h) in rw p

-- the one computed test: each figure stands at the place where it is looked for
near_place : (v : ℕ) → v < 11 → (67 ≤ get_or cant_figures v 0) × ((get_or cant_figures v 0 - 67) / 22 ≡ v)
near_place v h = (leb-true 67 (get_or cant_figures v 0) (and_left (high v) (near v) t), eqb-true ((get_or cant_figures v 0 - 67) / 22) v (and_right (high v) (near v) t))
  where
    high : ℕ → Bool
    high u = leb 67 (get_or cant_figures u 0)

    near : ℕ → Bool
    near u = eqb ((get_or cant_figures u 0 - 67) / 22) u

    t : (high v && near v) ≡ true
    t = each_at 11 (λ u. high u && near u) refl v h

-- d is a - 67, round 2 to the 32
pub cant_none : (a d i : ℕ) → d < 2 ^ 32 → (d + 67) % 2 ^ 32 ≡ a → (d / 22 ≤ 10 → i ≡ d / 22) → (get_or cant_figures i 0 ≡ a → ⊥) → 16 ≡ lowered nc_cd_diff a
cant_none a d i small e there n = go (place 0 cant_figures a) refl
  where
    go : (o : Option ℕ) → place 0 cant_figures a ≡ o → 16 ≡ lowered nc_cd_diff a
    go none p = rw p
    go (some v) p =
        let h : v < 11 = place_small 0 cant_figures a v p in
        let z : v - 0 ≡ v = omega arith in
        let s : get_or cant_figures v 0 ≡ a = rw z at (place_stands 0 cant_figures a v p) in
        let q : (67 ≤ a) × ((a - 67) / 22 ≡ v) = rw s at (near_place v h) in
        let m : d ≡ a - 67 = omega (arith, q.0) in
        let r : d / 22 ≡ v = ap (λ (x : ℕ). x / 22) m ∙ q.1 in
        let j : i ≡ v = there (omega arith) ∙ r in
        absurd (n (ap (λ (x : ℕ). get_or cant_figures x 0) j ∙ s))

-- ---- voltages

pub volts_at : (a i : ℕ) → i < 6 → get_or volts i 0 ≡ a → i ≡ lowered m_voltage a
volts_at a i h e = let p : place 0 volts a ≡ some i = rw e at (place_again volts volts_distinct i h) in rw p

-- no voltage is a
pub volts_none : (a : ℕ) → ((i : ℕ) → i < 6 → get_or volts i 0 ≡ a → ⊥) → 16 ≡ lowered m_voltage a
volts_none a n = stands (place 0 volts a) refl
  where
    stands : (o : Option ℕ) → place 0 volts a ≡ o → 16 ≡ lowered m_voltage a
    stands none p = rw p
    stands (some v) p = let z : v - 0 ≡ v = omega arith in absurd (n v (place_small 0 volts a v p) (rw z at (place_stands 0 volts a v p)))
