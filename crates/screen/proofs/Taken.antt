-- A cards file is taken exactly if it is the groups of good numbers; then each card has its line, or the board's refusal is the whole text.
use mathlib.Core.Path.{◌≡◌, refl, ap, ◌∙◌, subst}
use mathlib.Core.List.{List, [], ◌∷◌, ◌++◌}
use mathlib.Core.Logic.{◌↔◌}
use Prim.Native.Nat.{ℕ, zero, suc, ◌+◌, ◌%◌, ◌≤◌}
use native.Mathlib.Omega.{arith}
use borrow.Author.Tests.{eq-eqb, ne_eqb, eqb-true}
use lib.Dec.{eqb}
use lib.ListN.{length, drop, length-append}
use lib.Seq.{drop-append_seam}
use Rattle.bits.specs.Bits.{Bytes}
use Rattle.bits.proofs.Tests.{by_cases}
use Rattle.std.specs.Prelude.{Some, None, Option}
use Rattle.numbers.specs.Numbers.{number_in, groups_in}
use Rattle.numbers.proofs.Counting.{count_some}
use Rattle.numbers.proofs.Reading.{number_again, number_only}
use Rattle.format.proofs.Media.{bytes_drop}
use Rattle.text.specs.Listing.{refused_line}
use Rattle.fleet.specs.Fleet.{board}
use Rattle.screen.specs.File.{Numbers, accepted, refused, in_front, wrong, judged, ended, numbers_from, file_numbers, cards_of}
use Rattle.screen.specs.Promised.{GoodFrom, GoodCards, file_of}
use Rattle.screen.specs.Screen.{lines_after, shown_of, screen_of}

abbrev Taken : ℕ → ℕ → List ℕ → List ℕ → Type 0
Taken left k s l = GoodFrom left k l × (s ≡ file_of l)

-- ---- what is taken is such a file

ended_taken : (left k at : ℕ) (l : List ℕ) → ended k at ≡ accepted l → Taken left k [] l
ended_taken left k at l e =
    by_cases (eqb (k % 7) 0)
    (λ d. let f : accepted [] ≡ accepted l = rw d at e in let z : [] ≡ l = cc in subst (Taken left k []) z (eqb-true (k % 7) 0 d, refl))
    (λ d. let f : refused 9 at ≡ accepted l = rw d at e in absurd (let z : ◌≡◌ {A = ℕ} 0 1 = cc in omega arith))

front_taken : {C : Type 0} (v : ℕ) (o : Numbers) (l : List ℕ) → in_front v o ≡ accepted l → ((m : List ℕ) → o ≡ accepted m → v ∷ m ≡ l → C) → C
front_taken v (accepted m) l e f = f m refl (cc)
front_taken v (refused r place) l e f = absurd (let z : ◌≡◌ {A = ℕ} 0 1 = cc in omega arith)

only : (left k at : ℕ) (s l : List ℕ) → Bytes s → numbers_from left k at s ≡ accepted l → Taken left k s l
only zero k at [] l ok e = ended_taken zero k at l e
only zero k at (b ∷ s) l ok e = absurd (let z : ◌≡◌ {A = ℕ} 0 1 = cc in omega arith)
only (suc left) k at [] l ok e = ended_taken (suc left) k at l e
only (suc left) k at (b ∷ s) l ok e =
    go (λ v m h. only left (suc k) (at + length (groups_in v)) (drop (length (groups_in v)) (b ∷ s)) m (bytes_drop (length (groups_in v)) (b ∷ s) ok) h) (number_in (b ∷ s)) refl e
  where
    rest : ℕ → Numbers
    rest v = numbers_from left (suc k) (at + length (groups_in v)) (drop (length (groups_in v)) (b ∷ s))

    go : ((v : ℕ) (m : List ℕ) → rest v ≡ accepted m → Taken left (suc k) (drop (length (groups_in v)) (b ∷ s)) m)
        → (n : Option ℕ) → number_in (b ∷ s) ≡ n → judged n k at rest ≡ accepted l → Taken (suc left) k (b ∷ s) l
    go next None d f = absurd (let z : ◌≡◌ {A = ℕ} 0 1 = cc in omega arith)
    go next (Some v) d f =
        by_cases (wrong k v)
        (λ w. let g : refused 4 at ≡ accepted l = rw w at f in absurd (let z : ◌≡◌ {A = ℕ} 0 1 = cc in omega arith))
        (λ w. front_taken v (rest v) l (rw w at f) λ m h p.
        let t = next v m h in
        let n = number_only (b ∷ s) v ok d in
        subst (Taken (suc left) k (b ∷ s)) p ((n.small, w, t.0), n.bytes ∙ ap (λ (r : List ℕ). groups_in v ++ r) t.1))

-- ---- such a file is taken

step : (left k at : ℕ) (s : List ℕ) → 1 ≤ length s
    → numbers_from (suc left) k at s ≡ judged (number_in s) k at (λ v. numbers_from left (suc k) (at + length (groups_in v)) (drop (length (groups_in v)) s))
step left k at [] h = absurd (omega arith)
step left k at (b ∷ s) h = refl

taken : (left k at : ℕ) (l : List ℕ) → GoodFrom left k l → numbers_from left k at (file_of l) ≡ accepted l
taken zero k at [] g = rw (eq-eqb (k % 7) 0 g)
taken zero k at (v ∷ l) g = absurd g
taken (suc left) k at [] g = rw (eq-eqb (k % 7) 0 g)
taken (suc left) k at (v ∷ l) g =
    step left k at (file_of (v ∷ l)) (omega (arith, length-append (groups_in v) (file_of l), count_some v))
    ∙ rw (number_again v (file_of l) g.0, g.1, drop-append_seam (groups_in v) (file_of l), taken left (suc k) (at + length (groups_in v)) l g.2)

-- "The cards file is judged first, number by number": its numbers are those of which it is the groups, and it has them exactly if they are good
pub file_taken : (s l : List ℕ) → Bytes s → (file_numbers s ≡ accepted l) ↔ (GoodCards l × (s ≡ file_of l))
unfolding file_numbers
file_taken s l ok = (only 448 0 0 s l ok, λ g. ap (numbers_from 448 0 0) g.1 ∙ taken 448 0 0 l g.0)

-- ---- what is shown of it

module _ (packet l : List ℕ) (good : GoodCards l) where
  shown : screen_of (file_of l) packet ≡ shown_of packet (accepted l)
  unfolding screen_of file_numbers
  shown = ap (shown_of packet) (taken 448 0 0 l good)

  -- "a line a card": with the lines of all cards, where the board is answered
  pub screen_shows : (board packet (cards_of l)).refusal ≡ 0 → screen_of (file_of l) packet ≡ lines_after packet (cards_of l) (length (cards_of l))
  screen_shows e = shown ∙ rw (eq-eqb (board packet (cards_of l)).refusal 0 e)

  -- "or the listing's refusal line": with that line alone, where it is refused
  pub screen_refuses : ((board packet (cards_of l)).refusal ≡ 0 → ⊥) → screen_of (file_of l) packet ≡ refused_line (board packet (cards_of l)).refusal (board packet (cards_of l)).place
  screen_refuses h = shown ∙ rw (ne_eqb (board packet (cards_of l)).refusal 0 h)
