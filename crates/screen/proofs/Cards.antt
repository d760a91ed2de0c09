-- The cards of a file's numbers.
use mathlib.Core.Path.{◌≡◌, refl, sym, ap, ap₂, ◌∙◌}
use mathlib.Core.List.{List, [], ◌∷◌, ◌++◌}
use Prim.Native.Nat.{ℕ, zero, suc, ◌+◌, ◌*◌, ◌/◌, ◌≤◌, ◌<◌}
use native.Mathlib.Omega.{arith}
use borrow.Author.Tests.{le-ltb}
use lib.Dec.{eqb}
use lib.ListN.{length, take, get_or, set}
use lib.Seq.{get_or-take, length-take-le, take-suc-set}
use Rattle.fleet.specs.declared.Card.{Card}
use Rattle.fleet.specs.Fleet.{asked_of}
use Rattle.screen.specs.File.{card_at, cards_from, cards_of}

pub cards_count : (n i : ℕ) (l : List ℕ) → length (cards_from n i l) ≡ n
cards_count zero i l = refl
cards_count (suc n) i l = ap suc (cards_count n (suc i) l)

-- one card more
pub cards_snoc : (n i : ℕ) (l : List ℕ) → cards_from n i l ++ card_at l (i + n) ∷ [] ≡ cards_from (suc n) i l
cards_snoc zero i l = let e : i + 0 ≡ i = omega arith in ap (λ (k : ℕ). card_at l k ∷ []) e
cards_snoc (suc n) i l = let e : suc i + n ≡ i + suc n = omega arith in ap (λ (r : List Card). card_at l i ∷ r) (ap (λ (k : ℕ). cards_from n (suc i) l ++ card_at l k ∷ []) (sym e) ∙ cards_snoc n (suc i) l)

-- the first n cards of an array are those of a file's numbers, and one more is put
pub cards_put : (n : ℕ) (l : List ℕ) (cards : List Card) {c : Card} → n < length cards → take n cards ≡ cards_from n 0 l → c ≡ card_at l n → take (n + 1) (set cards n c) ≡ cards_from (n + 1) 0 l
cards_put n l cards {c} h e q =
    let z : n + 1 ≡ suc n = omega arith in
    let y : n ≡ 0 + n = omega arith in
    rw (z, take-suc-set cards n c h) (ap₂ (λ (r : List Card) (k : Card). r ++ k ∷ []) e (q ∙ ap (card_at l) y) ∙ cards_snoc n 0 l)

-- ---- the cards of an array that begins with a file's numbers

module _ (m : ℕ) (l : List ℕ) where
  card_taken : (i : ℕ) → i < m → card_at (take (7 * m) l) i ≡ card_at l i
  card_taken i h =
      let at : (j : ℕ) → j < 7 → get_or (take (7 * m) l) (7 * i + j) 0 ≡ get_or l (7 * i + j) 0 = λ j d. get_or-take (7 * m) l (7 * i + j) 0 (omega arith) in
      let z = get_or-take (7 * m) l (7 * i) 0 (omega arith) in
      let a = at 1 (omega arith) in let b = at 2 (omega arith) in let c = at 3 (omega arith) in
      let d = at 4 (omega arith) in let e = at 5 (omega arith) in let f = at 6 (omega arith) in
      λ k. record {
        train = record { length = z k; cant = a k; maximum = e k; freight_p = eqb (b k) 1; freight_g = eqb (c k) 1; passenger = eqb (d k) 1 };
        location = f k;
      }

  cards_taken : (n i : ℕ) → i + n ≤ m → cards_from n i (take (7 * m) l) ≡ cards_from n i l
  cards_taken zero i h = refl
  cards_taken (suc n) i h = ap₂ (λ (c : Card) (r : List Card). c ∷ r) (card_taken i (omega arith)) (cards_taken n (suc i) (omega arith))

  pub cards_of_lem : 7 * m ≤ length l → cards_of (take (7 * m) l) ≡ cards_from m 0 l
  cards_of_lem h =
      let e : length (take (7 * m) l) / 7 ≡ m = omega (arith, length-take-le (7 * m) l h) in
      ap (λ (n : ℕ). cards_from n 0 (take (7 * m) l)) e ∙ cards_taken m 0 (omega arith)

-- up to 64 cards are all asked
pub asked_count : (n : ℕ) → n ≤ 64 → asked_of n ≡ n
unfolding asked_of
asked_count n h = rw (le-ltb 64 n h)
