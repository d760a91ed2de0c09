-- Words and numbers as text, and text put at a place of a room.
use Rattle.std.specs.Prelude.{◌≡◌, cond, List, [], ◌∷◌, ◌++◌, ℕ, zero, suc, ◌+◌, ◌*◌, ◌-◌, ◌/◌, ◌%◌, ltb, ℤ, pos, negsuc, length}
use Prim.Native.Char.{code}
use Prim.Native.String.{String, [] as none, ◌∷◌ as ◌followed◌}
use Rattle.std.proofs.lemmas.List.Edits.{sets}

-- the bytes of a word, as of "REFUSED n"
abbrev pub ascii : String → List ℕ
ascii none = []
ascii (c followed s) = code c ∷ ascii s

-- the byte of a decimal digit, as in "SPEED 80"
abbrev pub digit_byte : ℕ → ℕ
digit_byte d = 48 + d

-- the decimal digits of v, highest first, of which there are at most n, as in "SPEED 80"
abbrev pub digits_of : ℕ → ℕ → List ℕ
digits_of zero v = []
digits_of (suc n) v = let more : List ℕ = digits_of n (v / 10) ++ (digit_byte (v % 10) ∷ []) in cond (ltb v 10) (digit_byte v ∷ []) more

-- "Numbers are below 4,294,967,296": at most ten decimal digits
unfoldable pub decimal : ℕ → List ℕ
decimal v = digits_of 10 v

-- the number that decimal digits spell after digits that spell n
abbrev pub spelt : ℕ → List ℕ → ℕ
spelt n [] = n
spelt n (b ∷ s) = spelt (10 * n + (b - 48)) s

-- "signed altitude in cm": a number with its sign
abbrev pub signed_decimal : ℤ → List ℕ
signed_decimal (pos n) = decimal n
signed_decimal (negsuc n) = ascii "-" ++ decimal (suc n)

-- "LENGTH 1": a word, and a number after it
abbrev pub labelled : List ℕ → ℕ → List ℕ
labelled word v = word ++ decimal v

-- "writes .. a listing": `text` was written at the byte `at` of `room`; `after` is the byte after it, `cells` the room with the text
pub record Laid (room : List ℕ) (at : ℕ) (text : List ℕ) (after : ℕ) (cells : List ℕ) : Type 0 where
  pub place : after ≡ at + length text
  pub bytes : cells ≡ sets room at text
