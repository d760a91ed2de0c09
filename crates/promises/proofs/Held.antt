-- The permitted speed in a run, below L_SP of the last segment, is the lowest speed of the elements that hold, and some element holds.
use mathlib.Core.Path.{◌≡◌, sym, subst}
use mathlib.Core.List.{List, [], ◌∷◌}
use Prim.Native.Nat.{ℕ, ◌≤◌, ◌<◌, min}
use native.Mathlib.Omega.{arith}
use borrow.Author.Tests.{leb-true, leb-false}
use lib.Dec.{leb}
use Rattle.bits.proofs.Tests.{by_cases}
use Rattle.format.specs.Grounds.{Among, first, later}
use Rattle.speed.specs.declared.Train.{Train}
use Rattle.speed.specs.Speed.{lowest, instead, segment_length}
use Rattle.speed.specs.Run.{last_of, held_in_run, speed_in_run}
use Rattle.speed.proofs.Runs.{run_holds}
use Rattle.promises.specs.Promised.{LowestOf}

lowest_front : (v : ℕ) (l : List ℕ) → lowest v l ≤ v
lowest_front v [] = omega arith
lowest_front v (w ∷ l) = omega (arith, lowest_front (min v w) l)

lowest_under : (w v : ℕ) {l : List ℕ} → Among w l → lowest v l ≤ w
lowest_under w v (first {l = l}) = omega (arith, lowest_front (min v w) l)
lowest_under w v (later {b = b} a) = lowest_under w (min v b) a

lowest_among : (v : ℕ) (l : List ℕ) → Among (lowest v l) (v ∷ l)
lowest_among v [] = first
lowest_among v (w ∷ l) =
    by_cases (leb v w)
    (λ d. let h = leb-true v w d in let e : min v w ≡ v = omega arith in rw e (front (lowest_among v l)))
    (λ d. let h = leb-false v w d in let e : min v w ≡ w = omega arith in rw e (later (lowest_among w l)))
  where
    front : {m : ℕ} → Among m (v ∷ l) → Among m (v ∷ w ∷ l)
    front first = first
    front (later a) = later (later a)

pub lowest_of : (v : ℕ) (l : List ℕ) → LowestOf (lowest v l) (v ∷ l)
lowest_of v l = record { one = lowest_among v l; lowest = under }
  where
    under : (w : ℕ) → Among w (v ∷ l) → lowest v l ≤ w
    under w first = lowest_front w l
    under w (later a) = lowest_under w v a

pub lowest_held : (t : Train) (x : ℕ) (r : List (List ℕ)) → x < segment_length (last_of r) → LowestOf (speed_in_run t x r) (held_in_run t x r)
lowest_held t x [] h = absurd (omega arith)
lowest_held t x (s ∷ r) h = run_holds t x s r h λ v m e. subst (λ (l : List ℕ). LowestOf (instead 0 l) l) (sym e) (lowest_of v m)
