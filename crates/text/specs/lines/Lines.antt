-- The lines of a listing, by a segment's altitude and its sheet's numbers.
use Rattle.std.specs.Prelude.{List, [], ◌∷◌, ◌++◌, ℕ, ℤ, get_or}
use Rattle.speed.specs.Speed.{Element, elements_from, profile_of, segment_length}
use Rattle.text.specs.words.Words.{ascii, signed_decimal, labelled}

-- "NID_C, NID_SP, length and signed altitude in cm"
abbrev pub names_text : List ℕ → List ℕ
names_text s = labelled (ascii "SEGMENT ") (get_or s 6 0) ++ labelled (ascii " ") (get_or s 7 0)

-- "length and signed altitude in cm"
abbrev pub measures : ℤ → List ℕ → List ℕ
measures altitude s = labelled (ascii " LENGTH ") (segment_length s) ++ ascii " ALTITUDE " ++ signed_decimal altitude ++ ascii "\n"

-- "SEGMENT 0 0 LENGTH 1 ALTITUDE -100000"
abbrev pub segment_line : ℤ → List ℕ → List ℕ
segment_line altitude s = names_text s ++ measures altitude s

-- "for each element in order its start in cm, V_STATIC in km/h and Q_FRONT"
abbrev pub element_line : Element → List ℕ
element_line e =
    labelled (ascii "FROM ") e.start ++ labelled (ascii " SPEED ") e.v_static ++ labelled (ascii " FRONT ") e.q_front ++ ascii "\n"

-- "for each element in order"
abbrev pub element_lines : List Element → List ℕ
element_lines [] = []
element_lines (e ∷ l) = element_line e ++ element_lines l

-- "each ended by a newline": the lines of a segment, by its altitude and its sheet's numbers
abbrev pub lines : ℤ → List ℕ → List ℕ
lines altitude s = segment_line altitude s ++ element_lines (elements_from 0 (profile_of s))
