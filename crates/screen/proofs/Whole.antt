-- The whole text of the screen: it fits the room, and what is written of the room is the text.
use mathlib.Core.Path.{◌≡◌, sym, ap, ◌∙◌}
use mathlib.Core.Bool.{true}
use mathlib.Core.List.{List, ◌++◌}
use Prim.Native.Nat.{ℕ, ◌+◌, ◌≤◌}
use native.Mathlib.Omega.{arith}
use borrow.Author.Tests.{eq-eqb, ne_eqb, eqb-true, ltb-false}
use lib.Dec.{eqb, ltb}
use lib.ListN.{length, take, drop, length-append}
use lib.Seq.{sets, sets-eq, take-append_seam}
use Rattle.bits.proofs.Tests.{by_cases}
use Rattle.text.specs.words.Words.{Laid}
use Rattle.text.specs.Listing.{refused_line, Listed}
use Rattle.text.proofs.words.Putting.{decimal_short}
use Rattle.speed_packet.specs.internal.Asking.{AcceptedPacket}
use Rattle.fleet.specs.declared.Board.{Board}
use Rattle.fleet.specs.declared.Card.{Card}
use Rattle.fleet.specs.Fleet.{asked_of, board_after, board}
use Rattle.fleet.proofs.Facts.{came_accepted, came_last}
use Rattle.std.specs.Prelude.{Ok, Err}
use Rattle.kinds.specs.declared.refusals.Refused.{Refused}
use Rattle.kinds.specs.Refusals.{refusal_number}
use Rattle.screen.specs.File.{Numbers, accepted, refused, file_numbers, cards_from, cards_of}
use Rattle.screen.specs.Screen.{lines_after, text_of, shown_of, screen_of, screen_in}
use Rattle.screen.specs.internal.Reading.{Read}
use Rattle.screen.proofs.Cards.{cards_count, cards_of_lem, asked_count}
use Rattle.screen.proofs.Lines.{lines_short}

-- ---- the text from the board

-- all cards of the file are asked
pub board_all : (packet : List ℕ) (n : ℕ) (l : List ℕ) → n ≤ 64 → board packet (cards_from n 0 l) ≡ board_after packet (cards_from n 0 l) n
board_all packet n l few = ap (board_after packet (cards_from n 0 l)) (ap asked_of (cards_count n 0 l) ∙ asked_count n few)

module _ (packet : List ℕ) (cards : List Card) {b : Board} (e : b ≡ board packet cards) where
  pub refused_text : (b.refusal ≡ 0 → ⊥) → refused_line b.refusal b.place ≡ text_of packet cards
  refused_text h = ap (λ (d : Board). refused_line d.refusal d.place) e ∙ sym (off (λ z. h (ap (λ (d : Board). d.refusal) e ∙ z)))
    where
      off : ((board packet cards).refusal ≡ 0 → ⊥) → text_of packet cards ≡ refused_line (board packet cards).refusal (board packet cards).place
      off m = rw (ne_eqb (board packet cards).refusal 0 m)

  module _ (z : b.refusal ≡ 0) where
    none : (board packet cards).refusal ≡ 0
    none = sym (ap (λ (d : Board). d.refusal) e) ∙ z

    pub accepted_packet : AcceptedPacket packet
    accepted_packet = let n = asked_of (length cards) in came_accepted n packet cards n (ap (λ (d : Board). d.refusal) (came_last packet cards n) ∙ none)

    pub accepted_text : lines_after packet cards (length cards) ≡ text_of packet cards
    accepted_text = sym on
      where
        on : text_of packet cards ≡ lines_after packet cards (length cards)
        on = rw (eq-eqb (board packet cards).refusal 0 none)

-- ---- the text from the file

pub file_refused : (s packet : List ℕ) {f : Refused ℕ} {values : List ℕ} → Read s (Err f) values → refused_line (refusal_number f.0) f.1 ≡ screen_of s packet
unfolding screen_of
file_refused s packet e = ap (shown_of packet) e.says

pub file_cards : (s packet : List ℕ) {n : ℕ} {values : List ℕ} → length values ≡ 448 → Read s (Ok n) values → text_of packet (cards_from n 0 values) ≡ screen_of s packet
unfolding screen_of
file_cards s packet {n} {values} h e = ap (text_of packet) (sym (cards_of_lem n values (omega (arith, e.few)))) ∙ ap (shown_of packet) e.says

-- ---- the room

refused_short : (r place : ℕ) → length (refused_line r place) ≤ 33
refused_short r place = simp length-append (omega (arith, decimal_short r, decimal_short place))

-- a board of more than 64 cards is refused
shown_few : (packet : List ℕ) (cards : List Card) → (board packet cards).refusal ≡ 0 → length cards ≤ 64
unfolding asked_of board_after
shown_few packet cards e = by_cases (ltb 64 (length cards)) (λ a. absurd (long a)) (ltb-false 64 (length cards))
  where
    long : ltb 64 (length cards) ≡ true → ⊥
    long a = let z : ◌≡◌ {A = ℕ} 20 0 = rw a at e in omega arith

text_short : (packet : List ℕ) (cards : List Card) → length (text_of packet cards) ≤ 3008
text_short packet cards =
    by_cases (eqb (board packet cards).refusal 0)
    (λ e. rw e (omega (arith, lines_short packet cards (length cards), shown_few packet cards (eqb-true (board packet cards).refusal 0 e))))
    (λ e. rw e (omega (arith, refused_short (board packet cards).refusal (board packet cards).place)))

-- a text has at most 3,008 bytes: at most 64 lines of at most 47
pub screen_short : (s packet : List ℕ) → length (screen_of s packet) ≤ 3008
unfolding screen_of
screen_short s packet = go (file_numbers s)
  where
    go : (o : Numbers) → length (shown_of packet o) ≤ 3008
    go (accepted l) = text_short packet (cards_of l)
    go (refused r place) = omega (arith, refused_short r place)

pub screen_laid : (s packet room t : List ℕ) {r : ℕ} {cells : List ℕ} → 3008 ≤ length room → Laid room 0 t r cells → t ≡ screen_of s packet
    → record { length = r; room = cells } ≡ screen_in s packet room
unfolding screen_in
screen_laid s packet room t {r} {cells} h e d =
    let whole = screen_of s packet in
    let n : r ≡ length whole = omega (arith, e.place, ap length d) in
    let z : 0 + length whole ≡ length whole = omega arith in
    let b : cells ≡ whole ++ drop (length whole) room = e.bytes ∙ ap (sets room 0) d ∙ sets-eq whole room 0 (omega (arith, screen_short s packet)) ∙ rw z in
    λ j. record { length = n j; room = b j }

-- the length that is returned is at most the room's
pub screen_inside : (s packet room : List ℕ) {r : ℕ} {cells : List ℕ} → record { length = r; room = cells } ≡ screen_in s packet room → r ≤ length cells
unfolding screen_in
screen_inside s packet room e =
    let t = screen_of s packet in
    omega (arith, ap (λ (x : Listed). x.length) e, ap (λ (x : Listed). length x.room) e ∙ length-append t (drop (length t) room))

-- the bytes of the room up to the length that is returned are the text
pub screen_written : (s packet room : List ℕ) {r : ℕ} {cells : List ℕ} → record { length = r; room = cells } ≡ screen_in s packet room → take r cells ≡ screen_of s packet
unfolding screen_in
screen_written s packet room e =
    let t = screen_of s packet in
    rw (ap (λ (x : Listed). x.length) e, ap (λ (x : Listed). x.room) e) (take-append_seam t (drop (length t) room))
