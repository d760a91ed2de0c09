-- A cards file: its numbers, judged one by one, and its cards.
use Rattle.std.specs.Prelude.{Bool, cond, ◌&&◌, List, [], ◌∷◌, ℕ, zero, suc, ◌+◌, ◌*◌, ◌/◌, ◌%◌, eqb, leb, ltb, length, drop, get_or, Some, None, Option}
use Rattle.numbers.specs.Numbers.{number_in, groups_in}
use Rattle.fleet.specs.declared.Card.{Card}

-- the numbers of a file, or the first refusal and its place, "the first byte of the number"
pub data Numbers : Type 0 where
  accepted : List ℕ → Numbers
  refused : ℕ → ℕ → Numbers

-- a number in front of those after it
abbrev pub in_front : ℕ → Numbers → Numbers
in_front v (accepted l) = accepted (v ∷ l)
in_front v (refused r place) = refused r place

-- "length, cant deficiency, three memberships, maximum, location": v is the number k of a file, counted from 0; "a membership not 0 or 1"
abbrev pub wrong : ℕ → ℕ → Bool
wrong k v = leb 2 (k % 7) && leb (k % 7) 4 && ltb 1 v

-- "number by number: 9, or 4 for a membership not 0 or 1": the number k, at the byte `at`, and what is made of those after it
abbrev pub judged : Option ℕ → ℕ → ℕ → (ℕ → Numbers) → Numbers
judged None k at rest = refused 9 at
judged (Some v) k at rest = cond (wrong k v) (refused 4 at) (in_front v (rest v))

-- "seven sheet numbers each": a file that ends with a card, or within one
abbrev pub ended : ℕ → ℕ → Numbers
ended k at = cond (eqb (k % 7) 0) (accepted []) (refused 9 at)

-- the numbers from the number k on, at most `left`, of what stands at the byte `at`: "bytes after 64 cards give 20"
abbrev pub numbers_from : ℕ → ℕ → ℕ → List ℕ → Numbers
numbers_from zero k at [] = ended k at
numbers_from zero k at (b ∷ s) = refused 20 0
numbers_from (suc left) k at [] = ended k at
numbers_from (suc left) k at (b ∷ s) = judged (number_in (b ∷ s)) k at λ v. numbers_from left (suc k) (at + length (groups_in v)) (drop (length (groups_in v)) (b ∷ s))

-- "The cards file is judged first, number by number": seven numbers for each of 64 cards
unfoldable pub file_numbers : List ℕ → Numbers
file_numbers s = numbers_from 448 0 0 s

-- "seven sheet numbers each: length, cant deficiency, three memberships, maximum, location": card i of a file's numbers
abbrev pub card_at : List ℕ → ℕ → Card
card_at l i = record {
  train = record {
    length = get_or l (7 * i) 0;
    cant = get_or l (7 * i + 1) 0;
    maximum = get_or l (7 * i + 5) 0;
    freight_p = eqb (get_or l (7 * i + 2) 0) 1;
    freight_g = eqb (get_or l (7 * i + 3) 0) 1;
    passenger = eqb (get_or l (7 * i + 4) 0) 1;
  };
  location = get_or l (7 * i + 6) 0;
}

-- n cards from card i on
abbrev pub cards_from : ℕ → ℕ → List ℕ → List Card
cards_from zero i l = []
cards_from (suc n) i l = card_at l i ∷ cards_from n (suc i) l

-- "seven sheet numbers each": the cards of a file's numbers
abbrev pub cards_of : List ℕ → List Card
cards_of l = cards_from (length l / 7) 0 l
