-- A row of fields, each from 0 to its largest value, by the list of their widths and the list of their largest values. Used by contracts of the code; no promise names these.
use Rattle.std.specs.Prelude.{Bool, true, false, ◌&&◌, List, [], ◌∷◌, ℕ, ◌^◌, leb, ltb}
use Rattle.kinds.specs.Kind.{up_to}
use Rattle.format.specs.Format.{Format, then}

unfoldable pub row : List ℕ → List ℕ → Format → Format
row [] ms f = f
row (w ∷ ws) [] f = f
row (w ∷ ws) (m ∷ ms) f = then (up_to w m) (row ws ms f)

-- as many largest values as widths, each width 1 to 32 bits, and each largest value fits its width
abbrev pub fits : List ℕ → List ℕ → Bool
fits [] [] = true
fits [] (m ∷ ms) = false
fits (w ∷ ws) [] = false
fits (w ∷ ws) (m ∷ ms) = leb 1 w && (leb w 32 && (ltb m (2 ^ w) && fits ws ms))
