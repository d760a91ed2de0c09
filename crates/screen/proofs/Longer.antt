-- The program reads 2,241 bytes of the cards file and 8,208 of the packet: what is past them changes nothing.
use mathlib.Core.Path.{◌≡◌, refl, sym, ap, ap₂, ◌∙◌}
use mathlib.Core.Bool.{cond}
use mathlib.Core.List.{List, [], ◌∷◌, ◌++◌}
use Prim.Native.Nat.{ℕ, zero, suc, ◌+◌, ◌-◌, ◌*◌, ◌≤◌, ◌<◌}
use native.Mathlib.Omega.{arith}
use borrow.Author.Tests.{leb-true, leb-false}
use lib.Dec.{eqb, leb}
use lib.ListN.{length, take, drop, get_or}
use lib.Seq.{take_all, take-nil}
use Rattle.bits.proofs.Tests.{by_cases}
use Rattle.numbers.specs.Numbers.{groups_at, below, number_of, number_in, groups_in}
use Rattle.numbers.proofs.Counting.{count_five}
use Rattle.format.specs.Format.{Read}
use Rattle.grammar.specs.segment.Segment.{wire_changes}
use Rattle.grammar.specs.segment.Judgement.{from_packet}
use Rattle.speed_question.specs.declared.Speed.{Speed}
use Rattle.speed_question.specs.Question.{no_speed, RunRead, in_front, answer_of_run, speed_of_run, permitted_speed}
use Rattle.text.specs.Listing.{refused_line}
use Rattle.text.proofs.Longer.{packet_front}
use Rattle.fleet.specs.declared.Board.{Board}
use Rattle.fleet.specs.declared.Card.{Card}
use Rattle.fleet.specs.Fleet.{no_card, answer_of, after, board_after}
use Rattle.screen.specs.File.{Numbers, accepted, refused, judged, numbers_from, file_numbers, cards_of}
use Rattle.screen.specs.Screen.{card_line, lines_after, text_of, shown_of, screen_of}

-- ---- a cards file: 448 numbers of at most five bytes, and one byte more

groups_front : (g m : ℕ) (s : List ℕ) → g ≤ m → groups_at g (take m s) ≡ groups_at g s
groups_front zero m s h = refl
groups_front (suc g) zero s h = absurd (omega arith)
groups_front (suc g) (suc m) [] h = refl
groups_front (suc g) (suc m) (b ∷ s) h = rw (groups_front g m s (omega arith))

number_front : (m : ℕ) (s : List ℕ) → 5 ≤ m → number_in (take m s) ≡ number_in s
unfolding number_of
number_front m s h = ap below (groups_front 5 m s h)

drop_front : (n m k : ℕ) (s : List ℕ) → k ≡ n + m → drop n (take k s) ≡ take m (drop n s)
drop_front zero m k s e = let z : k ≡ m = omega arith in ap (λ (i : ℕ). take i s) z
drop_front (suc n) m zero s e = absurd (omega arith)
drop_front (suc n) m (suc k) [] e = sym (take-nil m)
drop_front (suc n) m (suc k) (b ∷ s) e = drop_front n m k s (omega arith)

-- with no number left, and with some
none_front : (m k at : ℕ) (s : List ℕ) → 0 < m → numbers_from 0 k at (take m s) ≡ numbers_from 0 k at s
none_front zero k at s h = absurd (omega arith)
none_front (suc m) k at [] h = refl
none_front (suc m) k at (b ∷ s) h = refl

some_front : (left m k at : ℕ) (s : List ℕ) → 5 < m
    → ((n : ℕ) → n ≤ 5 → numbers_from left (suc k) (at + n) (take (m - n) (drop n s)) ≡ numbers_from left (suc k) (at + n) (drop n s))
    → numbers_from (suc left) k at (take m s) ≡ numbers_from (suc left) k at s
some_front left zero k at s h next = absurd (omega arith)
some_front left (suc m) k at [] h next = refl
some_front left (suc m) k at (b ∷ s) h next =
    ap₂ (λ n (r : ℕ → Numbers). judged n k at r) (number_front (suc m) (b ∷ s) (omega arith)) (λ i v. rest v i)
  where
    rest : (v : ℕ) → numbers_from left (suc k) (at + length (groups_in v)) (drop (length (groups_in v)) (take (suc m) (b ∷ s)))
        ≡ numbers_from left (suc k) (at + length (groups_in v)) (drop (length (groups_in v)) (b ∷ s))
    rest v =
        let n = length (groups_in v) in
        let few = count_five v in
        ap (numbers_from left (suc k) (at + n)) (drop_front n (suc m - n) (suc m) (b ∷ s) (omega arith)) ∙ next n few

numbers_front : (left m k at : ℕ) (s : List ℕ) → 5 * left < m → numbers_from left k at (take m s) ≡ numbers_from left k at s
numbers_front zero m k at s h = none_front m k at s (omega arith)
numbers_front (suc left) m k at s h = some_front left m k at s (omega arith) (λ n few. numbers_front left (m - n) (suc k) (at + n) (drop n s) (omega arith))

file_front : (s : List ℕ) → file_numbers (take 2241 s) ≡ file_numbers s
unfolding file_numbers
file_front s = numbers_front 448 2241 0 0 s (omega arith)

-- ---- a packet

judged_front : (p : List ℕ) → from_packet wire_changes (take 8208 p) ≡ from_packet wire_changes p
judged_front p =
    by_cases (leb 8208 (length p)) (λ e. packet_front p (leb-true 8208 (length p) e))
    (λ e. ap (from_packet wire_changes) (take_all 8208 p (omega (arith, leb-false 8208 (length p) e))))

-- one judgement, so one answer for each card, and one text
module _ (p q : List ℕ) (same : from_packet wire_changes p ≡ from_packet wire_changes q) where
  answer_same : (c : Card) → answer_of p c ≡ answer_of q c
  unfolding answer_of permitted_speed
  answer_same c = ap (λ (r : Read). answer_of_run no_speed (speed_of_run c.train c.location) (in_front r (RunRead.accepted []))) same

  board_same : (cards : List Card) (n : ℕ) → board_after p cards n ≡ board_after q cards n
  unfolding board_after
  board_same cards zero = refl
  board_same cards (suc i) = ap₂ (λ (b : Board) (s : Speed). after b i s) (board_same cards i) (answer_same (get_or cards i no_card))

  lines_same : (cards : List Card) (n : ℕ) → lines_after p cards n ≡ lines_after q cards n
  unfolding lines_after
  lines_same cards zero = refl
  lines_same cards (suc i) =
      ap₂ (λ (l : List ℕ) (s : Speed). l ++ card_line i (get_or cards i no_card).location s.speed) (lines_same cards i) (answer_same (get_or cards i no_card))

  text_same : (cards : List Card) → text_of p cards ≡ text_of q cards
  text_same cards = ap₂ (λ (b : Board) (l : List ℕ). cond (eqb b.refusal 0) l (refused_line b.refusal b.place)) (board_same cards _) (lines_same cards (length cards))

  shown_same : (o : Numbers) → shown_of p o ≡ shown_of q o
  shown_same (accepted l) = text_same (cards_of l)
  shown_same (refused r place) = refl

-- the screen of the bytes that the program reads is the screen of both files, however long
pub screen_front : (cards packet : List ℕ) → screen_of (take 2241 cards) (take 8208 packet) ≡ screen_of cards packet
unfolding screen_of
screen_front cards packet = ap (shown_of (take 8208 packet)) (file_front cards) ∙ shown_same (take 8208 packet) packet (judged_front packet) (file_numbers cards)
