-- What the definitions of a conversion give, by one table: a room with a byte left, one that just holds the result, one that is a byte too short, and a refusal.
use mathlib.Core.Path.{◌≡◌, refl}
use mathlib.Core.List.{List, [], ◌∷◌}
use Prim.Native.Nat.{ℕ}
use Rattle.format.specs.Format.{refused}
use Rattle.convert.specs.Convert.{Outcome, fitted, converted}

abbrev outcome : ℕ → ℕ → ℕ → List ℕ → Outcome
outcome r place n room = record { answer = record { refusal = r; place = place; length = n }; room = room }

pub conversion_cases : fitted (1 ∷ 2 ∷ []) (7 ∷ 8 ∷ 9 ∷ []) ∷ fitted (1 ∷ 2 ∷ []) (7 ∷ 8 ∷ []) ∷ fitted (1 ∷ 2 ∷ []) (7 ∷ []) ∷ converted (λ l. 1 ∷ []) (refused 6 305) (7 ∷ []) ∷ []
    ≡ outcome 0 0 2 (1 ∷ 2 ∷ 9 ∷ []) ∷ outcome 0 0 2 (1 ∷ 2 ∷ []) ∷ outcome 8 0 0 (7 ∷ []) ∷ outcome 6 305 0 (7 ∷ []) ∷ []
conversion_cases = refl
