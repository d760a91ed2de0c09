-- "Check the supplier's speed steps": said of every centimetre.
use Rattle.std.specs.Prelude.{◌≡◌, Bool, true, false, cond, ◌&&◌, List, [], ◌∷◌, ℕ, zero, suc, ◌+◌, ◌<◌, eqb, ltb, leb, length}
use Rattle.std.proofs.Math.Option.{Option, none, some}
use Rattle.kinds.specs.declared.Item.{Item}
use Rattle.speed.specs.declared.Train.{Train}
use Rattle.speed.specs.Speed.{valid_train, limited, segment_length}
use Rattle.speed.specs.Run.{numbers_of, last_of, speed_in_run}
use Rattle.speed_question.specs.Question.{lent, run_asked}
use Rattle.steps.specs.declared.Checked.{Checked}

-- ---- "count or starts, or unequal numbers of starts and speeds"

-- "the first starts at 0"
abbrev pub starts_at_zero : List ℕ → Bool
starts_at_zero [] = false
starts_at_zero (a ∷ l) = eqb a 0

-- "starts rise strictly and lie below L_SP"
abbrev pub rising_below : ℕ → List ℕ → Bool
rising_below lsp [] = true
rising_below lsp (a ∷ []) = ltb a lsp
rising_below lsp (a ∷ b ∷ l) = ltb a b && rising_below lsp (b ∷ l)

-- "it has 1 to 128 steps, the first starts at 0, starts rise strictly and lie below L_SP"; "unequal numbers of starts and speeds"
abbrev pub stepped : ℕ → List ℕ → List ℕ → Bool
stepped lsp starts speeds =
    leb 1 (length starts) && (leb (length starts) 128 && (eqb (length starts) (length speeds) && (starts_at_zero starts && rising_below lsp starts)))

-- ---- "at every centimetre the last step at or before it gives our permitted speed"

-- "the last step at or before it": its speed, where v is that of a step before these
abbrev pub step_speed : ℕ → ℕ → List ℕ → List ℕ → ℕ
step_speed v x [] speeds = v
step_speed v x (a ∷ starts) [] = v
step_speed v x (a ∷ starts) (w ∷ speeds) = step_speed (cond (leb a x) w v) x starts speeds

-- "the last step at or before it gives our permitted speed", at one centimetre
abbrev pub right : (ℕ → ℕ) → List ℕ → List ℕ → ℕ → Bool
right ours starts speeds c = eqb (step_speed 0 c starts speeds) (ours c)

-- "the first wrong centimetre" of n from the place at on. No abbreviation: over a segment it would be computed centimetre by centimetre
unfoldable pub first_wrong : ℕ → ℕ → (ℕ → Bool) → Option ℕ
first_wrong zero at p = none
first_wrong (suc n) at p = cond (p at) (first_wrong n (at + 1) p) (some at)

-- ---- as statements, with no count of centimetres

-- "at every centimetre"
abbrev pub Everywhere : ℕ → (ℕ → Bool) → Type 0
Everywhere n p = (c : ℕ) → c < n → p c ≡ true

-- "the first wrong centimetre"
pub record FirstWrong (n : ℕ) (p : ℕ → Bool) (c : ℕ) : Type 0 where
  pub inside : c < n
  pub wrong : p c ≡ false
  pub before : (d : ℕ) → d < c → p d ≡ true

-- ---- the answer

-- a refusal with its place
abbrev pub not_checked : ℕ → ℕ → Checked
not_checked r place = record { refusal = r; place = place }

-- "then 19 for a wrong speed, with the first wrong centimetre"
abbrev pub wrong_at : Option ℕ → Checked
wrong_at none = record { refusal = 0; place = 0 }
wrong_at (some c) = not_checked 19 c

-- "then 18 for count or starts, or unequal numbers of starts and speeds; then 19"
abbrev pub checked_steps : ℕ → (ℕ → ℕ) → List ℕ → List ℕ → Checked
checked_steps lsp ours starts speeds = cond (stepped lsp starts speeds) (wrong_at (first_wrong lsp 0 (right ours starts speeds))) (not_checked 18 0)

-- "our permitted speed", at x of the last segment of a run with these values
abbrev pub our_speed : Train → List (List Item) → ℕ → ℕ
our_speed t r x = limited t (speed_in_run t x (numbers_of r))

-- "Refusals: those of the speed question without 11; then 18": of a run, 10
abbrev pub steps_of_run : Train → List ℕ → List ℕ → List (List Item) → Checked
steps_of_run t starts speeds r =
    cond (valid_train t) (checked_steps (segment_length (last_of (numbers_of r))) (our_speed t r) starts speeds) (not_checked 10 0)

-- "for a segment and a train, a list of starts in centimetres and speeds": 15, 16, each segment's own, 10, 18, 19
unfoldable pub check_steps : ℕ → ℕ → List ℕ → List ℕ → List ℕ → List ℕ → Train → List ℕ → List ℕ → Checked
check_steps medium count first second third fourth t starts speeds =
    run_asked not_checked (steps_of_run t starts speeds) medium count (lent count first second third fourth)
