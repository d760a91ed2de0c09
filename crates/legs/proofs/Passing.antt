-- Passed over from the permitted speed on, leg by leg, what is left at the end is the restricted speed. Legs past the run's count play no part.
use mathlib.Core.Path.{◌≡◌, refl, sym, ap, ◌∙◌}
use mathlib.Core.Bool.{Bool, true, false, cond}
use mathlib.Core.List.{List, [], ◌∷◌, ◌++◌}
use Prim.Native.Nat.{ℕ, zero, suc, ◌+◌, ◌≤◌, min}
use native.Mathlib.Omega.{arith}
use lib.ListN.{length, take}
use Rattle.speed.specs.declared.Train.{Train}
use Rattle.speed.specs.Speed.{limited, lowest, segment_length}
use Rattle.speed.specs.Run.{last_start, speed_in_run}
use Rattle.legs.specs.Legs.{Constraint, Leg}
use Rattle.legs.specs.Restricted.{holds_at, held_in, held_restrictions, restricted_in_run}
use Rattle.legs.specs.Travelled.{leg_refusal, first_refusal, legs_refusal}
use Rattle.legs.specs.internal.Passing.{passed_over, LegsPassed, over, one}

lowest_append : (v : ℕ) (l m : List ℕ) → lowest v (l ++ m) ≡ lowest (lowest v l) m
lowest_append v [] m = refl
lowest_append v (w ∷ l) m = lowest_append (min v w) l m

chosen : (b : Bool) (v w : ℕ) (l : List ℕ) → lowest v (cond b (w ∷ l) l) ≡ lowest (cond b (min v w) v) l
chosen true v w l = refl
chosen false v w l = refl

-- a segment's constraints
pub leg_passed : (t : Train) (lsp y v : ℕ) (l : List Constraint) → passed_over t lsp y v l ≡ lowest v (held_in t lsp y l)
leg_passed t lsp y v [] = refl
leg_passed t lsp y v (c ∷ l) =
    leg_passed t lsp y (cond (holds_at t lsp y c) (min v c.speed) v) l ∙ sym (chosen (holds_at t lsp y c) v c.speed (held_in t lsp y l))

-- a run's segments, from the speed v on
pub legs_passed : (t : Train) (x : ℕ) {r : List (List ℕ)} {g : List Leg} {v out : ℕ} → LegsPassed t x r g v out → out ≡ lowest v (held_restrictions t x r g)
legs_passed t x over = refl
legs_passed t x (one {s = s} {r = r} {g = g} {l = l} {v = v} e p) =
    let y = last_start 0 (s ∷ r) + x in
    legs_passed t x p
    ∙ ap (λ (u : ℕ). lowest u (held_restrictions t x r l)) (e ∙ leg_passed t (segment_length s) y v g.constraints)
    ∙ sym (lowest_append v (held_in t (segment_length s) y g.constraints) (held_restrictions t x r l))

pub restricted_passed : (t : Train) (x out : ℕ) (r : List (List ℕ)) (g : List Leg) → LegsPassed t x r g (limited t (speed_in_run t x r)) out → out ≡ restricted_in_run t x r g
restricted_passed t x out r g p = legs_passed t x p

-- ---- as many legs as the run has segments

pub held_taken : (t : Train) (x n : ℕ) (r : List (List ℕ)) (g : List Leg) → length r ≤ n → held_restrictions t x r (take n g) ≡ held_restrictions t x r g
held_taken t x n [] g h = refl
held_taken t x zero (s ∷ r) g h = absurd (omega arith)
held_taken t x (suc n) (s ∷ r) [] h = refl
held_taken t x (suc n) (s ∷ r) (g ∷ l) h =
    ap (λ (k : List ℕ). held_in t (segment_length s) (last_start 0 (s ∷ r) + x) g.constraints ++ k) (held_taken t x n r l (omega arith))

pub refusal_taken : (n : ℕ) (r : List (List ℕ)) (g : List Leg) → length r ≤ n → legs_refusal r (take n g) ≡ legs_refusal r g
refusal_taken n [] g h = refl
refusal_taken zero (s ∷ r) g h = absurd (omega arith)
refusal_taken (suc n) (s ∷ r) [] h = refl
refusal_taken (suc n) (s ∷ r) (g ∷ l) h = ap (first_refusal (leg_refusal s g)) (refusal_taken n r l (omega arith))
