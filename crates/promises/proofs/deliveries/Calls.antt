-- Any list of calls of the intake, from a fresh state and with one room lent throughout: when the sheet can be asked for, and what is answered else.
use mathlib.Core.Path.{◌≡◌}
use mathlib.Core.Bool.{Bool, true, false}
use mathlib.Core.List.{List, [], ◌∷◌}
use mathlib.Core.Logic.{◌⊎◌, inl, inr, ◌↔◌}
use Prim.Native.Nat.{ℕ, ◌+◌, ◌≤◌, ◌<◌}
use native.Mathlib.Omega.{arith}
use borrow.Author.Tests.{ne_eqb}
use lib.Dec.{eqb}
use lib.ListN.{length}
use Rattle.bits.specs.Bits.{Bytes}
use Rattle.bits.proofs.Tests.{by_cases}
use Rattle.convert.specs.Convert.{refused_with}
use Rattle.intake.specs.declared.Intake.{Intake}
use Rattle.intake.specs.Intake.{gathered, holds, Delivered, delivered, asked}
use Rattle.promises.specs.deliveries.Refused.{Judged}
use Rattle.promises.specs.deliveries.Calls.{Call, deliver, complete, ask, called, called_all, state_after, opens, opens_all, can_be_asked}
use Rattle.promises.proofs.deliveries.Completed.{completed_judged}
use Rattle.promises.proofs.deliveries.Asked.{asked_14, asked_returns}

-- whether the sheet can be asked for says whether the state has a verdict
record Opened (b : Bool) (i : Intake) : Type 0 where
  pub judged : b ≡ true → Judged i
  pub gathers : b ≡ false → i.phase ≡ 2 → ⊥

-- a delivery with bytes leaves no verdict
delivered_gathers : (i : Intake) (d : ℕ) (ds room : List ℕ) → (delivered i (d ∷ ds) room).intake.phase ≡ 2 → ⊥
unfolding delivered
delivered_gathers i d ds room e =
    let some = ne_eqb (length (d ∷ ds)) 0 (λ z. omega arith) in
    by_cases (eqb i.phase 1)
    (λ p. let z : ◌≡◌ {A = ℕ} 1 2 = rw (some, p) at e in omega arith)
    (λ p. by_cases (holds room (gathered i + length (d ∷ ds)))
    (λ h. let z : ◌≡◌ {A = ℕ} 0 2 = rw (some, p, h) at e in omega arith)
    (λ h. let z : ◌≡◌ {A = ℕ} 1 2 = rw (some, p, h) at e in omega arith))

opened_on : (b : Bool) (x : Delivered) (c : Call) → Opened b x.intake → Opened (opens b c) (called x c).intake
unfolding delivered
opened_on b x (deliver []) o = o
opened_on b x (deliver (d ∷ ds)) o = record { judged = λ e. absurd (let z : ◌≡◌ {A = ℕ} 0 1 = cc in omega arith); gathers = λ e. delivered_gathers x.intake d ds x.room }
opened_on b x complete o = record { judged = λ e. completed_judged x.intake x.room; gathers = λ e. absurd (let z : ◌≡◌ {A = ℕ} 0 1 = cc in omega arith) }
opened_on b x ask o = o

opened_all : (b : Bool) (x : Delivered) (cs : List Call) → Opened b x.intake → Opened (opens_all b cs) (called_all x cs).intake
opened_all b x [] o = o
opened_all b x (c ∷ cs) o = opened_all (opens b c) (called x c) cs (opened_on b x c o)

module _ (room : List ℕ) (cs : List Call) where
  abbrev state : Intake
  state = state_after room cs

  opened : Opened (can_be_asked cs) state
  opened = opened_all false _ cs (record { judged = λ e. absurd (let z : ◌≡◌ {A = ℕ} 0 1 = cc in omega arith); gathers = λ e p. omega arith })

  -- "At any other time asking is refused": 14 exactly then, or "after a verdict that was no refusal, with the packet's room cut short"
  pub calls_14 : (taken out : List ℕ) → Bytes taken
      → ((asked (state_after room cs) taken out).answer.refusal ≡ 14) ↔ ((can_be_asked cs ≡ false) ⊎ (((state_after room cs).refusal ≡ 0) × (length taken < (state_after room cs).length)))
  calls_14 taken out ok = (λ d. only ((asked_14 state taken out ok).0 d), λ g. (asked_14 state taken out ok).1 (given g))
    where
      only : (Judged state → ⊥) ⊎ ((state.refusal ≡ 0) × (length taken < state.length)) → (can_be_asked cs ≡ false) ⊎ ((state.refusal ≡ 0) × (length taken < state.length))
      only (inl n) = by_cases (can_be_asked cs) (λ e. absurd (n (opened.judged e))) (λ e. inl e)
      only (inr p) = inr p

      given : (can_be_asked cs ≡ false) ⊎ ((state.refusal ≡ 0) × (length taken < state.length)) → (Judged state → ⊥) ⊎ ((state.refusal ≡ 0) × (length taken < state.length))
      given (inl e) = inl (λ j. opened.gathers e j.phase)
      given (inr p) = inr p

  -- "where the verdict was a refusal, asking returns that number again", until the next delivery with bytes or the next completion
  pub calls_returned : can_be_asked cs ≡ true → 1 ≤ (state_after room cs).refusal → (taken out : List ℕ) → asked (state_after room cs) taken out ≡ refused_with (state_after room cs).refusal (state_after room cs).place out
  calls_returned e h taken out = asked_returns state taken out (opened.judged e) h
