-- The segments of a run as they are lent, four of them with a count: each is accepted, and the head of the last is known.
use mathlib.Core.Path.{◌≡◌, refl, sym, ◌∙◌, subst}
use mathlib.Core.List.{List, []}
use Prim.Native.Nat.{ℕ, zero, suc, ◌-◌, ◌≤◌, ◌<◌}
use native.Mathlib.Omega.{arith}
use lib.ListN.{length, get_or}
use Rattle.speed.specs.Run.{Each}
use Rattle.speed_question.specs.Question.{Brought, lent}
use Rattle.speed_question.specs.declared.run.LastSegment.{LastSegment}
use Rattle.speed_question.specs.internal.Run.{AcceptedAs, HeadOf, nth, LastRead}
use Rattle.speed_question.proofs.Runs.{one_accepted, last_head}

module _ (p q u v : List ℕ) where
  pub lent_length : (count : ℕ) → count ≤ 4 → count ≡ length (lent count p q u v)
  lent_length zero m = refl
  lent_length (suc zero) m = refl
  lent_length (suc (suc zero)) m = refl
  lent_length (suc (suc (suc zero))) m = refl
  lent_length (suc (suc (suc (suc zero)))) m = refl
  lent_length (suc (suc (suc (suc (suc n))))) m = absurd (omega arith)

  pub lent_nth : (count i : ℕ) → i < count → count ≤ 4 → nth i p q u v ≡ get_or (lent count p q u v) i []
  lent_nth zero i h m = absurd (omega arith)
  lent_nth (suc n) zero h m = refl
  lent_nth (suc zero) (suc i) h m = absurd (omega arith)
  lent_nth (suc (suc n)) (suc zero) h m = refl
  lent_nth (suc (suc zero)) (suc (suc i)) h m = absurd (omega arith)
  lent_nth (suc (suc (suc n))) (suc (suc zero)) h m = refl
  lent_nth (suc (suc (suc zero))) (suc (suc (suc i))) h m = absurd (omega arith)
  lent_nth (suc (suc (suc (suc n)))) (suc (suc (suc zero))) h m = refl
  lent_nth (suc (suc (suc (suc n)))) (suc (suc (suc (suc i)))) h m = absurd (omega arith)

  -- a segment s that was found by its number
  module _ (b : Brought) (count i : ℕ) (few : count ≤ 4) (h : i < count) {s : List ℕ} (e : s ≡ nth i p q u v) where
    abbrev all : List (List ℕ)
    all = lent count p q u v

    pub found : s ≡ get_or all i []
    found = e ∙ lent_nth count i h few

    pub found_accepted : Each (AcceptedAs b) all → AcceptedAs b s
    found_accepted c = subst (AcceptedAs b) (sym found) (one_accepted b all i (omega (arith, lent_length count few)) c)

    pub found_last : count - i ≡ 1 → {l : LastSegment} → LastRead b all l → HeadOf b s l.head.lsp l.head.profile
    found_last z {l} k =
        let n = lent_length count few in
        subst (λ (m : List ℕ). HeadOf b m l.head.lsp l.head.profile) (sym found) (last_head b all (omega (arith, n)) i (omega (arith, n, z)) k)
