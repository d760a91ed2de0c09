-- The ground of a run's refusal. No operation is run.
use Rattle.std.specs.Prelude.{List, ◌∷◌, ℕ}

-- "each segment is then judged in order (place within it)": the ground of the first segment that is refused, after segments that are accepted
pub data RunGround (Own : List ℕ → ℕ → ℕ → Type 0) (Taken : List ℕ → Type 0) (q place : ℕ) : List (List ℕ) → Type 0 where
  here : {s : List ℕ} {r : List (List ℕ)} → Own s q place → RunGround Own Taken q place (s ∷ r)
  later : {s : List ℕ} {r : List (List ℕ)} → Taken s → RunGround Own Taken q place r → RunGround Own Taken q place (s ∷ r)
