-- The board after one card more, case by case.
use mathlib.Core.Path.{◌≡◌, sym, ◌∙◌}
use Prim.Native.Nat.{ℕ, ◌≤◌, ◌<◌}
use borrow.Author.Tests.{eq-eqb, ne_eqb, le-leb, lt-leb}
use Rattle.speed_question.specs.declared.Speed.{Speed}
use Rattle.fleet.specs.declared.Board.{Board}
use Rattle.fleet.specs.Fleet.{no_board, alone, after}
use Rattle.fleet.specs.internal.Turns.{turned}

module _ (i : ℕ) (s : Speed) where
  pub alone_speed : s.refusal ≡ 0 → alone i s ≡ record { refusal = 0; place = 0; card = i; speed = s.speed }
  unfolding alone
  alone_speed q = simp (eq-eqb s.refusal 0 q)

  pub alone_refusal : (s.refusal ≡ 0 → ⊥) → alone i s ≡ no_board s.refusal s.place
  unfolding alone
  alone_refusal q = simp (ne_eqb s.refusal 0 q)

module _ (b : Board) (i : ℕ) (s : Speed) where
  pub after_first : i ≡ 0 → after b i s ≡ alone i s
  unfolding after
  after_first h = simp (eq-eqb i 0 h)

  pub turned_stays : (b.refusal ≡ 0 → ⊥) → turned b i s ≡ b
  unfolding turned
  turned_stays p = simp (ne_eqb b.refusal 0 p)

  module _ (h : i ≡ 0 → ⊥) where
    pub after_stays : (b.refusal ≡ 0 → ⊥) → after b i s ≡ b
    unfolding after
    after_stays p = simp (ne_eqb i 0 h, ne_eqb b.refusal 0 p)

    module _ (p : b.refusal ≡ 0) where
      pub after_keeps : s.refusal ≡ 0 → b.speed ≤ s.speed → after b i s ≡ b
      unfolding after
      after_keeps q l = simp (ne_eqb i 0 h, eq-eqb b.refusal 0 p, eq-eqb s.refusal 0 q, le-leb b.speed s.speed l)

      pub after_takes : s.refusal ≡ 0 → s.speed < b.speed → after b i s ≡ alone i s
      unfolding after
      after_takes q l = simp (ne_eqb i 0 h, eq-eqb b.refusal 0 p, eq-eqb s.refusal 0 q, lt-leb b.speed s.speed l)

      pub after_refused : (s.refusal ≡ 0 → ⊥) → after b i s ≡ alone i s
      unfolding after
      after_refused q = simp (ne_eqb i 0 h, eq-eqb b.refusal 0 p, ne_eqb s.refusal 0 q)

  module _ (p : b.refusal ≡ 0) where
    -- with no refusal before it, a card is asked
    pub turned_on : turned b i s ≡ after b i s
    unfolding turned
    turned_on = simp (eq-eqb b.refusal 0 p)

    pub turned_to : {r : Board} → after b i s ≡ r → r ≡ turned b i s
    turned_to e = sym (turned_on ∙ e)
