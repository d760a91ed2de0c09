-- The words of the promises on the wall screen: which files are taken, and what is shown of one.
use Rattle.std.specs.Prelude.{◌≡◌, false, List, [], ◌∷◌, ◌++◌, ℕ, zero, suc, ◌<◌, ◌%◌}
use Rattle.numbers.specs.Numbers.{groups_in}
use Rattle.screen.specs.File.{wrong}

-- "number by number": the numbers from the number k on, at most `left`, are below 4,294,967,296, each membership is 0 or 1, and the last card is whole
abbrev pub GoodFrom : ℕ → ℕ → List ℕ → Type 0
GoodFrom left k [] = k % 7 ≡ 0
GoodFrom zero k (v ∷ l) = ⊥
GoodFrom (suc left) k (v ∷ l) = (v < 4294967296) × (wrong k v ≡ false) × GoodFrom left (suc k) l

-- "seven sheet numbers each", of up to 64 cards
abbrev pub GoodCards : List ℕ → Type 0
GoodCards l = GoodFrom 448 0 l

-- "sheet numbers": the file of these numbers, each in its groups, one after the other
abbrev pub file_of : List ℕ → List ℕ
file_of [] = []
file_of (v ∷ l) = groups_in v ++ file_of l
