-- A run is accepted exactly when each segment is, and refused exactly on the ground of the first segment that is not.
use mathlib.Core.Path.{◌≡◌, refl, ap, ap₂, subst}
use mathlib.Core.List.{List, [], ◌∷◌, map}
use Prim.Native.Nat.{ℕ}
use native.Mathlib.Omega.{arith}
use Rattle.bits.specs.Bits.{Bytes}
use Rattle.kinds.specs.declared.Item.{Item}
use Rattle.format.specs.Format.{Read}
use Rattle.speed.specs.Run.{Each}
use Rattle.speed_question.specs.Question.{RunRead, accepted, refused, in_front, judged_run}
use Rattle.speed_question.specs.Grounds.{RunGround, here, later}

module _ (judge : List ℕ → Read) (Good : List Item → Type 0) (input : List Item → List ℕ) where
  pub run_taken : ((l : List Item) → Good l → judge (input l) ≡ Read.accepted l) → (r : List (List Item)) → Each Good r → judged_run judge (map input r) ≡ accepted r
  run_taken again [] c = refl
  run_taken again (l ∷ r) c = ap₂ in_front (again l c.0) (run_taken again r c.1)

  -- one more in front
  front_values : (s : List ℕ) (r : List (List ℕ)) (v : List (List Item)) (o : Read) (p : RunRead)
      → ((l : List Item) → o ≡ Read.accepted l → Good l × (s ≡ input l)) → ((w : List (List Item)) → p ≡ accepted w → Each Good w × (r ≡ map input w))
      → in_front o p ≡ accepted v → Each Good v × (s ∷ r ≡ map input v)
  front_values s r v (Read.refused q place) p first rest e = absurd (let z : ◌≡◌ {A = ℕ} 0 1 = cc in omega arith)
  front_values s r v (Read.accepted l) (refused q place) first rest e = absurd (let z : ◌≡◌ {A = ℕ} 0 1 = cc in omega arith)
  front_values s r v (Read.accepted l) (accepted w) first rest e =
      let i : l ∷ w ≡ v = cc in
      let a = first l refl in
      let b = rest w refl in
      subst (λ (u : List (List Item)). Each Good u × (s ∷ r ≡ map input u)) i ((a.0, b.0), ap₂ (λ (f : List ℕ) (g : List (List ℕ)). f ∷ g) a.1 b.1)

  -- what is taken was written of good values
  pub run_values : ((s : List ℕ) (l : List Item) → Bytes s → judge s ≡ Read.accepted l → Good l × (s ≡ input l))
      → (r : List (List ℕ)) (v : List (List Item)) → Each Bytes r → judged_run judge r ≡ accepted v → Each Good v × (r ≡ map input v)
  run_values only [] v ok e = let q : [] ≡ v = cc in subst (λ (u : List (List Item)). Each Good u × (◌≡◌ {A = List (List ℕ)} [] (map input u))) q (tt, refl)
  run_values only (s ∷ r) v ok e = front_values s r v (judge s) (judged_run judge r) (λ l d. only s l ok.0 d) (λ w d. run_values only r w ok.1 d) e

-- "Each refusal is given then and not otherwise": of a run on the ground of its first segment that is not taken
module _ (judge : List ℕ → Read) (Own : List ℕ → ℕ → ℕ → Type 0) (Taken : List ℕ → Type 0) (q place : ℕ) where
  front_ground : (s : List ℕ) (r : List (List ℕ)) (o : Read) (p : RunRead) → (o ≡ Read.refused q place → Own s q place) → ((l : List Item) → o ≡ Read.accepted l → Taken s)
      → (p ≡ refused q place → RunGround Own Taken q place r) → in_front o p ≡ refused q place → RunGround Own Taken q place (s ∷ r)
  front_ground s r (Read.refused a b) p own taken rest e =
      let i : a ≡ q = cc in let j : b ≡ place = cc in
      here (own (ap₂ Read.refused i j))
  front_ground s r (Read.accepted l) (refused a b) own taken rest e = later (taken l refl) (rest e)
  front_ground s r (Read.accepted l) (accepted w) own taken rest e = absurd (let z : ◌≡◌ {A = ℕ} 0 1 = cc in omega arith)

  pub run_refused : ((s : List ℕ) → Bytes s → judge s ≡ Read.refused q place → Own s q place) → ((s : List ℕ) (l : List Item) → Bytes s → judge s ≡ Read.accepted l → Taken s)
      → (r : List (List ℕ)) → Each Bytes r → judged_run judge r ≡ refused q place → RunGround Own Taken q place r
  run_refused own taken [] ok e = absurd (let z : ◌≡◌ {A = ℕ} 0 1 = cc in omega arith)
  run_refused own taken (s ∷ r) ok e =
      front_ground s r (judge s) (judged_run judge r) (own s ok.0) (λ l d. taken s l ok.0 d) (λ d. run_refused own taken r ok.1 d) e

  pub run_grounded : ((s : List ℕ) → Bytes s → Own s q place → judge s ≡ Read.refused q place)
      → ((s : List ℕ) → Bytes s → Taken s → (l : List Item) × (judge s ≡ Read.accepted l))
      → (r : List (List ℕ)) → Each Bytes r → RunGround Own Taken q place r → judged_run judge r ≡ refused q place
  run_grounded own taken r ok (here {s = s} {r = rest} g) = ap (λ (o : Read). in_front o (judged_run judge rest)) (own s ok.0 g)
  run_grounded own taken r ok (later {s = s} {r = rest} g more) =
      let a = taken s ok.0 g in
      ap₂ in_front a.1 (run_grounded own taken rest ok.1 more)
