-- The card's maximum: the profile's speed is the same under any, one within its range changes no refusal, and it is one step above the profile's speed.
use mathlib.Core.Path.{◌≡◌, refl, sym, ap, ap₂, ◌∙◌}
use mathlib.Core.Bool.{Bool, true, cond, ◌&&◌}
use mathlib.Core.List.{List, [], ◌∷◌}
use Prim.Native.Nat.{ℕ, ◌+◌, ◌≤◌, min}
use native.Mathlib.Omega.{arith}
use borrow.Author.Tests.{leb-true, leb-false, le-leb}
use lib.Dec.{ltb, leb}
use Rattle.bits.proofs.Tests.{by_cases, and_left, and_right}
use Rattle.format.specs.Grounds.{Among, first, later}
use Rattle.speed.specs.declared.Train.{Train}
use Rattle.speed.specs.Speed.{Element, figure, valid_train, limited, instead, end_before, holds, held_speeds}
use Rattle.speed.specs.Run.{run_elements, run_end, last_start, speed_in_run}
use Rattle.speed.proofs.Faster.{speed_same}
use Rattle.speed_question.specs.Question.{judged_speed}
use Rattle.promises.specs.Promised.{with_maximum, answer_limited, LowestOf}
use Rattle.promises.proofs.Held.{lowest_of}

-- ---- the profile's speed

module _ (m : ℕ) (t : Train) where
  held_same : (lsp x : ℕ) (l : List Element) → held_speeds (with_maximum m t) lsp x l ≡ held_speeds t lsp x l
  held_same lsp x [] = refl
  held_same lsp x (e ∷ l) = ap₂ (λ (v : ℕ) (r : List ℕ). cond (holds t e (end_before lsp l) x) (v ∷ r) r) (speed_same (with_maximum m t) t (record { cant = refl; in_p = refl; in_g = refl; passengers = refl }) e) (held_same lsp x l)

  -- the profile's speed is the same whatever the maximum is
  pub profile_same : (x : ℕ) (r : List (List ℕ)) → speed_in_run (with_maximum m t) x r ≡ speed_in_run t x r
  profile_same x r = ap (instead 0) (held_same (run_end 0 r) (last_start 0 r + x) (run_elements 0 r))

-- ---- its range

-- a valid train has a maximum within its range
pub valid_maximum : (t : Train) → valid_train t ≡ true → (1 ≤ t.maximum) × (t.maximum ≤ 600)
valid_maximum t e =
    let fast = leb t.maximum 600 && figure t.cant in
    let own = leb 1 t.maximum && fast in
    let both : own ≡ true = and_right (leb t.length 150000) own (and_right (leb 1 t.length) (leb t.length 150000 && own) e) in (
      leb-true 1 t.maximum (and_left (leb 1 t.maximum) fast both),
      leb-true t.maximum 600 (and_left (leb t.maximum 600) (figure t.cant) (and_right (leb 1 t.maximum) fast both)),
    )

-- with a maximum within its range a train is as valid as with 600
pub valid_same : (t : Train) → 1 ≤ t.maximum → t.maximum ≤ 600 → valid_train t ≡ valid_train (with_maximum 600 t)
valid_same t h g =
    ap₂ (λ (a b : Bool). leb 1 t.length && (leb t.length 150000 && (a && (b && figure t.cant)))) (le-leb 1 t.maximum h) (le-leb t.maximum 600 g)

-- ---- the step

-- the lower of the maximum and the lowest of some speeds is the lowest of all
pub limited_lowest : (t : Train) {v : ℕ} {l : List ℕ} → LowestOf v l → LowestOf (limited t v) (t.maximum ∷ l)
limited_lowest t {v} {l} o = record { one = one; lowest = under }
  where
    one : Among (limited t v) (t.maximum ∷ l)
    one =
        by_cases (leb t.maximum v)
        (λ d. let h = leb-true t.maximum v d in let e : limited t v ≡ t.maximum = omega arith in rw e first)
        (λ d. let h = leb-false t.maximum v d in let e : limited t v ≡ v = omega arith in rw e (later o.one))

    under : (w : ℕ) → Among w (t.maximum ∷ l) → limited t v ≤ w
    under w first = omega arith
    under w (later a) = omega (arith, o.lowest w a)

-- "the lower of that and the profile's"
pub limited_lower : (t : Train) (v : ℕ) → LowestOf (limited t v) (t.maximum ∷ v ∷ [])
limited_lower t v = limited_lowest t (lowest_of v [])

-- an answer to a train with a maximum within its range is that to the train with 600, limited
pub judged_limited : (t : Train) (x lsp : ℕ) (v w : ℕ) → 1 ≤ t.maximum → t.maximum ≤ 600 → w ≡ v
    → judged_speed t x lsp (limited t v) ≡ answer_limited t (judged_speed (with_maximum 600 t) x lsp (limited (with_maximum 600 t) w))
judged_limited t x lsp v w h g e =
    let none : min t.maximum 0 ≡ 0 = omega arith in
    let step : min t.maximum v ≡ min t.maximum (min 600 w) = omega arith in
    by_cases (valid_train t)
    (λ d. let f = sym (valid_same t h g) ∙ d in by_cases (ltb x lsp) (λ b. rw (d, f, b, step)) (λ b. rw (d, f, b, none)))
    (λ d. let f = sym (valid_same t h g) ∙ d in rw (d, f, none))
