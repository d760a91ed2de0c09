-- Samples of the listing: the document's sample, and one with a different number in every field.
use Rattle.std.specs.Prelude.{List, [], ◌∷◌, ◌++◌, ℕ}
use Rattle.text.specs.words.Words.{ascii}

-- "For the first case the whole output is two lines, each ended by a newline"
abbrev pub first_listing : List ℕ
first_listing = ascii "SEGMENT 0 0 LENGTH 1 ALTITUDE -100000\n" ++ ascii "FROM 0 SPEED 80 FRONT 0\n"

-- "NID_C, NID_SP, length and signed altitude": NID_C 77, NID_SP 305,419, versions 2 and 1, L_SP 250,000, offsets 1,200 and 52, altitude 112,345; then 80 km/h with an entry,
-- 105 from 98,765 on with another and train length delay, and 60 from 180,000 on
abbrev pub named_packet : List ℕ
named_packet =
    0x06 ∷ 0x01 ∷ 0x1D ∷ 0x00 ∷ 0x01 ∷ 0x23 ∷ 0x45 ∷ 0x00 ∷ 0x03 ∷ 0x8F ∷ 0x3E ∷ 0x80 ∷ 0x0E ∷ 0x10 ∷ 0x09
    ∷ 0x13 ∷ 0x40 ∷ 0x01 ∷ 0x2A ∷ 0x42 ∷ 0xC0 ∷ 0x80 ∷ 0x40 ∷ 0xF4 ∷ 0x24 ∷ 0x00 ∷ 0x01 ∷ 0x2C ∷ 0x1A ∷ 0x0D ∷ 0xB6 ∷ 0xC9
    ∷ 0x08 ∷ 0x43 ∷ 0x18 ∷ 0x20 ∷ 0x18 ∷ 0x1C ∷ 0xD2 ∷ 0xA0 ∷ 0xC2 ∷ 0x24 ∷ 0x0A ∷ 0xFC ∷ 0x80 ∷ 0x64 ∷ 0x02 ∷ 0x96 ∷ 0x00 ∷ 0x28 ∷ 0x00 ∷ []

-- "NID_C, NID_SP, length and signed altitude in cm, then for each element in order its start in cm, V_STATIC in km/h and Q_FRONT"
abbrev pub named_listing : List ℕ
named_listing =
    ascii "SEGMENT 77 305419 LENGTH 250000 ALTITUDE 12345\n" ++ ascii "FROM 0 SPEED 80 FRONT 1\n"
    ++ ascii "FROM 98765 SPEED 105 FRONT 0\n" ++ ascii "FROM 180000 SPEED 60 FRONT 1\n"
