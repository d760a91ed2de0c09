-- The fleet board is what the document says: the first card with the lowest of the answers that the public question gives, or a refusal exactly on its ground.
use mathlib.Core.Path.{◌≡◌, refl, sym, ap, ◌∙◌, subst}
use mathlib.Core.Bool.{true, false, ◌&&◌}
use mathlib.Core.List.{List, [], ◌∷◌}
use mathlib.Core.Logic.{◌↔◌}
use Prim.Native.Nat.{ℕ, zero, suc, ◌≤◌, ◌<◌}
use native.Mathlib.Omega.{arith}
use borrow.Author.Tests.{leb-true, leb-false, ltb-true, ltb-false, lt-ltb, le-ltb}
use lib.Dec.{leb, ltb}
use lib.ListN.{length}
use Rattle.bits.specs.Bits.{Bytes}
use Rattle.bits.proofs.Tests.{by_cases, and_left, and_right}
use Rattle.kinds.specs.declared.Item.{Item}
use Rattle.format.specs.Format.{Read, accepted, refused, sheet_numbers}
use Rattle.format.specs.Grounds.{OneEnding, first, later}
use Rattle.grammar.specs.segment.Segment.{wire_changes}
use Rattle.grammar.specs.segment.Judgement.{from_packet}
use Rattle.speed.specs.declared.Train.{Train}
use Rattle.speed.specs.Speed.{valid_train, figure, limited, segment_length}
use Rattle.speed.specs.Run.{speed_in_run}
use Rattle.speed_question.specs.declared.Speed.{Speed}
use Rattle.speed_question.specs.Question.{Brought, no_speed, permitted_speed}
use Rattle.promises.specs.Promised.{SegmentOfValues}
use Rattle.promises.specs.Refused.{Refuses}
use Rattle.promises.specs.Ranges.{OneOutcome}
use Rattle.promises.proofs.Values.{segments}
use Rattle.promises.proofs.Refused.{segments_on, of_values, taken, own_refused, one_ending, one_outcome}
use Rattle.promises.proofs.Ranges.{own_listed, late_listed}
use Rattle.fleet.specs.declared.Board.{Board}
use Rattle.fleet.specs.declared.Card.{Card}
use Rattle.fleet.specs.Fleet.{asked_of, answer_of, no_board, board_after, board}
use Rattle.fleet.proofs.Facts.{answer_refused, answer_accepted, refused_not_0}
use Rattle.fleet_promises.specs.Promised.{card_of, Listed, Lowest, Runs, Showable, FirstNot, BoardGround, BoardEnds}
use Rattle.fleet_promises.proofs.Lowest.{FirstRefused, lowest_some, refused as first_refused}

abbrev said : Board → ℕ × ℕ
said b = (b.refusal, b.place)

-- ---- one card, on the segment of an accepted packet

module _ (packet : List ℕ) {l : List Item} (e : from_packet wire_changes packet ≡ accepted l) (c : Card) where
  card_runs : Runs l c → answer_of packet c ≡ record { refusal = 0; place = 0; speed = limited c.train (speed_in_run c.train c.location (sheet_numbers l ∷ [])) }
  card_runs r = answer_accepted packet c e ∙ rw (r.0, lt-ltb c.location (segment_length (sheet_numbers l)) r.1)

  card_bad : valid_train c.train ≡ false → answer_of packet c ≡ no_speed 10 0
  card_bad v = answer_accepted packet c e ∙ rw v

  card_past : valid_train c.train ≡ true → segment_length (sheet_numbers l) ≤ c.location → answer_of packet c ≡ no_speed 11 0
  card_past v h = answer_accepted packet c e ∙ rw (v, le-ltb c.location (segment_length (sheet_numbers l)) h)

  -- a card is allowed, or has its 10 or its 11
  card_cases : {C : Type 0} → (Runs l c → C) → (valid_train c.train ≡ false → C) → (valid_train c.train ≡ true → segment_length (sheet_numbers l) ≤ c.location → C) → C
  card_cases f g h =
      by_cases (valid_train c.train)
      (λ v. by_cases (ltb c.location (segment_length (sheet_numbers l))) (λ d. f (v, ltb-true c.location (segment_length (sheet_numbers l)) d)) (λ d. h v (ltb-false c.location (segment_length (sheet_numbers l)) d)))
      g

-- "1 to 600 km/h"
maximum_most : (t : Train) → valid_train t ≡ true → t.maximum ≤ 600
maximum_most t v =
    let a = and_right (leb 1 t.length) (leb t.length 150000 && (leb 1 t.maximum && (leb t.maximum 600 && figure t.cant))) v in
    let b = and_right (leb t.length 150000) (leb 1 t.maximum && (leb t.maximum 600 && figure t.cant)) a in
    let d = and_right (leb 1 t.maximum) (leb t.maximum 600 && figure t.cant) b in
    leb-true t.maximum 600 (and_left (leb t.maximum 600) (figure t.cant) d)

module _ (packet : List ℕ) (cards : List Card) where
  abbrev shown : Board
  shown = board packet cards

  abbrev answer : ℕ → Speed
  answer i = answer_of packet (card_of cards i)

  -- ---- the list

  asked_none : (Listed cards → ⊥) → asked_of (length cards) ≡ 0
  unfolding asked_of
  asked_none h =
      by_cases (ltb 64 (length cards)) (λ d. rw d)
      (λ d. by_cases (leb 1 (length cards)) (λ e. absurd (h (leb-true 1 (length cards) e, ltb-false 64 (length cards) d))) (λ e. rw d (omega (arith, leb-false 1 (length cards) e))))

  asked_all : Listed cards → asked_of (length cards) ≡ length cards
  unfolding asked_of
  asked_all h = rw (le-ltb 64 (length cards) h.1)

  board_unlisted : (Listed cards → ⊥) → shown ≡ no_board 20 0
  unfolding board_after
  board_unlisted h = ap (board_after packet cards) (asked_none h)

  -- ---- the board from the answers

  board_first : Listed cards → (k : ℕ) → FirstRefused answer (length cards) k → shown ≡ no_board (answer k).refusal (answer k).place
  board_first h k w = ap (board_after packet cards) (asked_all h) ∙ first_refused packet cards (length cards) k w

  board_own : Listed cards → {q place : ℕ} → from_packet wire_changes packet ≡ refused q place → shown ≡ no_board q place
  board_own h {q} {place} e =
      let a = answer_refused packet (card_of cards 0) e in
      board_first h 0 (record { within = omega (arith, h.0); refused = λ z. refused_not_0 packet e (sym (ap (λ (s : Speed). s.refusal) a) ∙ z); before = λ j l. absurd (omega arith) })
      ∙ ap (λ (s : Speed). no_board s.refusal s.place) a

  module _ {l : List Item} (e : from_packet wire_changes packet ≡ accepted l) (h : Listed cards) where
    -- the first card that is not allowed gives its refusal
    board_not : (k : ℕ) → FirstNot l cards k → {q : ℕ} → 1 ≤ q → answer k ≡ no_speed q 0 → shown ≡ no_board q 0
    board_not k w {q} some a =
        board_first h k (record {
          within = w.within;
          refused = λ z. omega (arith, ap (λ (s : Speed). s.refusal) a);
          before = λ j d. ap (λ (s : Speed). s.refusal) (card_runs packet e (card_of cards j) (w.before j d));
        })
        ∙ ap (λ (s : Speed). no_board s.refusal s.place) a

    board_runs : ((j : ℕ) → j < length cards → Runs l (card_of cards j)) → Lowest answer (length cards) shown
    board_runs r =
        subst (λ (m : ℕ). Lowest answer (length cards) (board_after packet cards m)) (sym (asked_all h))
        (lowest_some packet cards (length cards) h.0 (λ j d. ap (λ (s : Speed). s.refusal) (card_runs packet e (card_of cards j) (r j d))))

    -- all of the first n cards are allowed, or one of them is the first that is not
    search : {C : Type 0} (n : ℕ) → n ≤ length cards → (((j : ℕ) → j < n → Runs l (card_of cards j)) → C)
        → ((k : ℕ) → FirstNot l cards k → (Runs l (card_of cards k) → C) → C) → C
    search zero m f g = f (λ j d. absurd (omega arith))
    search (suc n) m f g =
        search n (omega arith)
        (λ all. g n (record { within = omega arith; before = all }) (λ r. f (λ j d. by_cases (ltb j n) (λ b. all j (ltb-true j n b)) (λ b. subst (λ (i : ℕ). Runs l (card_of cards i)) (omega (arith, ltb-false j n b)) r))))
        g

  module _ (ok : Bytes packet) where
    abbrev values : (l : List Item) → from_packet wire_changes packet ≡ accepted l → SegmentOfValues Brought.packet packet
    values l e = of_values (segments Brought.packet) (segments_on Brought.packet) packet ok l e

    abbrev read : (w : SegmentOfValues Brought.packet packet) → from_packet wire_changes packet ≡ accepted w.values
    read w = taken (segments Brought.packet) (segments_on Brought.packet) packet ok w

    -- every board can be shown, or has a ground and is refused with it
    ends : {C : Type 0} → (Showable packet cards → C) → ((r place : ℕ) → BoardGround packet cards r place → shown ≡ no_board r place → 1 ≤ r → C) → C
    ends {C} f g =
        by_cases (leb 1 (length cards))
        (λ a. by_cases (leb (length cards) 64) (λ b. go (leb-true 1 (length cards) a, leb-true (length cards) 64 b) (from_packet wire_changes packet) refl) (λ b. not (λ h. omega (arith, leb-false (length cards) 64 b, h.1))))
        (λ a. not (λ h. omega (arith, leb-false 1 (length cards) a, h.0)))
      where
        not : (Listed cards → ⊥) → C
        not h = g 20 0 (BoardGround.unlisted h refl refl) (board_unlisted h) (omega arith)

        go : Listed cards → (o : Read) → from_packet wire_changes packet ≡ o → C
        go h (refused q place) e =
            let own = ((segments_on Brought.packet).refused_on packet q place ok).0 e in
            g q place (BoardGround.own h own) (board_own h e) (own_refused (segments Brought.packet) (segments_on Brought.packet) packet ok q place own).1
        go h (accepted l) e =
            let w = values l e in
            search e h (length cards) (omega arith) (λ r. f (record { listed = h; of = w; runs = r }))
            (λ k n rest. card_cases packet e (card_of cards k) rest
            (λ v. g 10 0 (BoardGround.bad_train h w k n v refl refl) (board_not e h k n (omega arith) (card_bad packet e (card_of cards k) v)) (omega arith))
            (λ v d. g 11 0 (BoardGround.past_end h w k n v d refl refl) (board_not e h k n (omega arith) (card_past packet e (card_of cards k) v d)) (omega arith)))

    -- "The board answers the number and speed of the first card with the lowest permitted speed": of the answers that the public question gives
    pub board_lowest : Showable packet cards → Lowest (λ i. permitted_speed 0 1 packet packet packet packet (card_of cards i).train (card_of cards i).location) (length cards) shown
    unfolding answer_of
    board_lowest c = board_runs (read c.of) c.listed c.runs

    -- each card's question is then answered
    pub board_each : Showable packet cards → (j : ℕ) → j < length cards → (permitted_speed 0 1 packet packet packet packet (card_of cards j).train (card_of cards j).location).refusal ≡ 0
    unfolding answer_of
    board_each c j h = ap (λ (s : Speed). s.refusal) (card_runs packet (read c.of) (card_of cards j) (c.runs j h))

    -- a board is answered exactly for a list of 1 to 64 cards, a packet of good values and cards that are allowed on its segment
    pub board_answered : (shown.refusal ≡ 0) ↔ Showable packet cards
    board_answered = (
      λ d. ends (λ c. c) (λ r place g e h. absurd (omega (arith, ap (λ (b : Board). b.refusal) e))),
      λ c. (board_lowest c).accepted,
    )

    -- "Refusals: 20 for an empty or longer list .., before all else; for the board then the segment's own, then each card's 10 or 11, first card first"
    pub board_refused : (r place : ℕ) → Refuses (shown.refusal, shown.place) r place ↔ BoardGround packet cards r place
    board_refused r place = (only, given)
      where
        only : Refuses (said shown) r place → BoardGround packet cards r place
        only q =
            let h = q.1 in
            ends (λ c. absurd (omega (arith, (board_lowest c).accepted, ap (λ (u : ℕ × ℕ). u.0) q.0)))
            (λ n p g e _. subst (λ (u : ℕ × ℕ). BoardGround packet cards u.0 u.1) (sym (ap said e) ∙ q.0) g)

        given : BoardGround packet cards r place → Refuses (said shown) r place
        given (BoardGround.unlisted h e p) = (ap said (board_unlisted h) ∙ rw (e, p), omega arith)
        given (BoardGround.own h g) =
            let a = own_refused (segments Brought.packet) (segments_on Brought.packet) packet ok r place g in
            (ap said (board_own h a.0), a.1)
        given (BoardGround.bad_train h w k n v e p) = (ap said (board_not (read w) h k n (omega arith) (card_bad packet (read w) (card_of cards k) v)) ∙ rw (e, p), omega arith)
        given (BoardGround.past_end h w k n v d e p) = (ap said (board_not (read w) h k n (omega arith) (card_past packet (read w) (card_of cards k) v d)) ∙ rw (e, p), omega arith)

    -- "an answer or the one refusal"
    pub board_ending : OneEnding (Showable packet cards) {I = ℕ × ℕ} (λ p. BoardGround packet cards p.0 p.1)
    board_ending = one_ending (said shown) board_answered board_refused

    -- "one possible outcome for every input": a card of the list and its speed, or a listed refusal
    pub board_outcome : OneOutcome shown (BoardEnds cards)
    board_outcome = one_outcome shown (ends success (λ r place g e h. rw e (on r place g)))
      where
        success : Showable packet cards → BoardEnds cards shown
        success c =
            let b = board_runs (read c.of) c.listed c.runs in
            let k = card_of cards shown.card in
            let r = c.runs shown.card b.within in
            let v = ap (λ (s : Speed). s.speed) (card_runs packet (read c.of) k r) in
            BoardEnds.success b.accepted b.placeless b.within (omega (arith, b.speed, v, maximum_most k.train r.0))

        on : (r place : ℕ) → BoardGround packet cards r place → BoardEnds cards (no_board r place)
        on r place (BoardGround.unlisted h e p) = BoardEnds.refusal (rw e first) refl refl
        on r place (BoardGround.own h g) = BoardEnds.refusal (later (own_listed Brought.packet packet r place g)) refl refl
        on r place (BoardGround.bad_train h w k n v e p) = BoardEnds.refusal (rw e (later (late_listed Brought.packet).0)) refl refl
        on r place (BoardGround.past_end h w k n v d e p) = BoardEnds.refusal (rw e (later (late_listed Brought.packet).1)) refl refl
