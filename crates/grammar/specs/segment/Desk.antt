-- The desk cases of document 01 that are conversions: one table of questions, each with its answer.
use Rattle.std.specs.Prelude.{List, [], ◌∷◌, ◌++◌, ℕ, replicate, take, drop}
use Rattle.kinds.specs.declared.Item.{Item}
use Rattle.format.specs.Format.{Read, accepted, refused}
use Rattle.grammar.specs.segment.Segment.{wire_changes}
use Rattle.grammar.specs.segment.Judgement.{from_packet, from_sheet, to_packet, to_sheet}

-- "packet to sheet, sheet to packet": which of the two is asked, and of which bytes
pub data Question : Type 0 where
  ask_sheet_of : List ℕ → Question
  ask_packet_of : List ℕ → Question

-- "returns its number" "with a place", or "returns the length": the bytes of the result, or the refusal's number and its place
pub data Reply : Type 0 where
  bytes : List ℕ → Reply
  refusal : ℕ → ℕ → Reply

abbrev pub replied : (List Item → List ℕ) → Read → Reply
replied write (accepted l) = bytes (write l)
replied write (refused r place) = refusal r place

unfoldable pub reply : Question → Reply
unfolding from_packet from_sheet to_packet to_sheet
reply (ask_sheet_of s) = replied (to_sheet wire_changes) (from_packet wire_changes s)
reply (ask_packet_of s) = replied (to_packet wire_changes) (from_sheet wire_changes s)

-- "Packet 06 00 B9 00 01 23 45 00 00 01 00 00 00 00 07, then ten 00, 40, five 00, 01, four 00, 3F, F0, 00",
-- with these two bytes for the speed, these two for the current, and this last byte
abbrev pub packet_with : ℕ → ℕ → ℕ → ℕ → ℕ → List ℕ
packet_with v w c d last =
    0x06 ∷ 0x00 ∷ 0xB9 ∷ 0x00 ∷ 0x01 ∷ 0x23 ∷ 0x45 ∷ 0x00 ∷ 0x00 ∷ 0x01 ∷ 0x00 ∷ 0x00 ∷ 0x00 ∷ 0x00 ∷ 0x07
    ∷ replicate 10 0 ++ 0x40 ∷ replicate 5 0 ++ v ∷ w ∷ replicate 3 0 ++ c ∷ d ∷ last ∷ []

-- "Packet 06 00 B9 .. is accepted"
abbrev pub first_packet : List ℕ
first_packet = packet_with 0x01 0x00 0x3F 0xF0 0x00

-- "06 C5 C6 04 01 00 00 07, four 00, 01, 00 00 00, 50, eight 00", with these bytes for the speed and these for the current
abbrev pub sheet_with : List ℕ → List ℕ → List ℕ
sheet_with v c =
    0x06 ∷ 0xC5 ∷ 0xC6 ∷ 0x04 ∷ 0x01 ∷ 0x00 ∷ 0x00 ∷ 0x07 ∷ replicate 4 0 ++ 0x01 ∷ 0x00 ∷ 0x00 ∷ 0x00 ∷ v ++ replicate 6 0 ++ c ++ 0x00 ∷ []

-- "Its sheet has 25 bytes"
abbrev pub first_sheet : List ℕ
first_sheet = sheet_with (0x50 ∷ []) (0x00 ∷ [])

-- "Desk cases": what is asked, and the answer
pub record ConversionCase : Type 0 where
  pub ask : Question
  pub answer : Reply

-- the packet with another L_PACKET_ATO
abbrev pub counting : ℕ → List ℕ → List ℕ
counting n s = 0x06 ∷ 0x00 ∷ n ∷ drop 3 s

-- A3: "Tell us where it broke"
abbrev pub places : List ConversionCase
places =
    -- "REFUSED 13 AT 305": a bit is left after the last field; "6 stays for a field that does not fit", whose first bit is 300
    record { ask = ask_sheet_of (counting 0xBA first_packet); answer = refusal 13 305 }
    ∷ record { ask = ask_sheet_of (counting 0xB8 (take 38 first_packet)); answer = refusal 6 300 }
    -- "for a packet the first bit of the field at fault, counted from 0 at the packet's start": 605 km/h, and a location for which 15 bits are left
    ∷ record { ask = ask_sheet_of (packet_with 0x07 0x90 0x3F 0xF0 0x00); answer = refusal 4 253 }
    ∷ record { ask = ask_sheet_of (packet_with 0x01 0x00 0xBF 0xF0 0x00); answer = refusal 6 290 }
    -- "For padding it is the first bit that is 1"
    ∷ record { ask = ask_sheet_of (packet_with 0x01 0x00 0x3F 0xF0 0x2A); answer = refusal 7 306 }
    -- "for a sheet the first byte of the number": its second byte is 00, or the sheet ends within it
    ∷ record { ask = ask_packet_of (sheet_with (0xD0 ∷ 0x00 ∷ []) (0x00 ∷ [])); answer = refusal 9 16 }
    ∷ record { ask = ask_packet_of (take 3 first_sheet); answer = refusal 9 1 }
    -- "Where .. bytes are left over, the place is the first one left"
    ∷ record { ask = ask_packet_of (first_sheet ++ 0x00 ∷ []); answer = refusal 9 25 }
    ∷ []

-- a segment with different values in its fields: all eleven cant figures and all six voltages, in another order than in the tables
abbrev pub whole_sheet : List ℕ
whole_sheet =
    -- the header: NID_OPERATIONAL 90817263, NID_ENGINE 123ABC, both hexadecimal, date 20,001, seconds 45,678, packet counter 77
    0x06 ∷ 0xE3 ∷ 0xE4 ∷ 0x85 ∷ 0x84 ∷ 0x09 ∷ 0xBC ∷ 0xF5 ∷ 0x48 ∷ 0xA1 ∷ 0x9C ∷ 0x01 ∷ 0xEE ∷ 0xE4 ∷ 0x02 ∷ 0x4D
    -- NID_C 789, NID_SP 24681357 (hexadecimal), version 21.84, L_SP 123,456, D_EoA_Offset 654,321, Q_UTC_Offset 100, M_SP_Altitude 543,210
    ∷ 0x95 ∷ 0x06 ∷ 0xD7 ∷ 0xA6 ∷ 0xA0 ∷ 0xA3 ∷ 0x02 ∷ 0x15 ∷ 0x54 ∷ 0xC0 ∷ 0xC4 ∷ 0x07 ∷ 0xF1 ∷ 0xF7 ∷ 0x27 ∷ 0x64 ∷ 0xEA ∷ 0x93 ∷ 0x21
    -- 120 km/h, Q_FRONT 1, and 11 entries of Q_DIFF 0, cant figure in mm and speed in km/h: 165 and 90, 300 and 145, 80 and 60, 225 and 200
    ∷ 0x78 ∷ 0x01 ∷ 0x0B
    ∷ 0x00 ∷ 0xA5 ∷ 0x01 ∷ 0x5A ∷ 0x00 ∷ 0xAC ∷ 0x02 ∷ 0x91 ∷ 0x01 ∷ 0x00 ∷ 0x50 ∷ 0x3C ∷ 0x00 ∷ 0xE1 ∷ 0x01 ∷ 0xC8 ∷ 0x01
    -- 130 and 35, 275 and 110, 100 and 255, 245 and 75
    ∷ 0x00 ∷ 0x82 ∷ 0x01 ∷ 0x23 ∷ 0x00 ∷ 0x93 ∷ 0x02 ∷ 0x6E ∷ 0x00 ∷ 0x64 ∷ 0xFF ∷ 0x01 ∷ 0x00 ∷ 0xF5 ∷ 0x01 ∷ 0x4B
    -- 150 and 180, 210 and 310, 180 and 20
    ∷ 0x00 ∷ 0x96 ∷ 0x01 ∷ 0xB4 ∷ 0x01 ∷ 0x00 ∷ 0xD2 ∷ 0x01 ∷ 0xB6 ∷ 0x02 ∷ 0x00 ∷ 0xB4 ∷ 0x01 ∷ 0x14
    -- a change at 9,999 cm: 100 km/h, Q_FRONT 0, and entries of Q_DIFF 1, class 2, 95 km/h, and of Q_DIFF 2, class 1, 40 km/h
    ∷ 0x01 ∷ 0x8F ∷ 0x4E ∷ 0x64 ∷ 0x00 ∷ 0x02 ∷ 0x01 ∷ 0x02 ∷ 0x5F ∷ 0x02 ∷ 0x01 ∷ 0x28
    -- 1,500 V with NID_CTRACTION 321, and changes: 25,000 V with 12 at 1,000 cm, 0 V with 0 at 2,000 cm
    ∷ 0xDC ∷ 0x0B ∷ 0xC1 ∷ 0x02 ∷ 0x05 ∷ 0xE8 ∷ 0x07 ∷ 0xA8 ∷ 0xC3 ∷ 0x01 ∷ 0x0C ∷ 0xD0 ∷ 0x0F ∷ 0x00 ∷ 0x00
    -- 750 V with 1,023 at 30,000 cm, 15,000 V with 456 at 40,000 cm, 3,000 V with 77 at 50,000 cm
    ∷ 0xB0 ∷ 0xEA ∷ 0x01 ∷ 0xEE ∷ 0x05 ∷ 0xFF ∷ 0x07 ∷ 0xC0 ∷ 0xB8 ∷ 0x02 ∷ 0x98 ∷ 0x75 ∷ 0xC8 ∷ 0x03 ∷ 0xD0 ∷ 0x86 ∷ 0x03 ∷ 0xB8 ∷ 0x17 ∷ 0x4D
    -- 4,320 A, and changes: no limit at 60 cm, 0 A at 70,000 cm
    ∷ 0xE1 ∷ 0x21 ∷ 0x02 ∷ 0x3C ∷ 0x00 ∷ 0xF0 ∷ 0xA2 ∷ 0x04 ∷ 0x01
    ∷ []

-- the packet of `whole_sheet`: a body of 649 bits, worked out from the documents by another program
abbrev pub whole_packet : List ℕ
whole_packet =
    0x06 ∷ 0x02 ∷ 0x89 ∷ 0x90 ∷ 0x81 ∷ 0x72 ∷ 0x63 ∷ 0x12 ∷ 0x3A ∷ 0xBC ∷ 0x9C ∷ 0x42 ∷ 0xB2 ∷ 0x6E ∷ 0x4D ∷ 0xC5
    ∷ 0x49 ∷ 0x1A ∷ 0x04 ∷ 0xD5 ∷ 0xC5 ∷ 0x55 ∷ 0x00 ∷ 0x78 ∷ 0x90 ∷ 0x02 ∷ 0x7E ∷ 0xFC ∷ 0x72 ∷ 0x42 ∷ 0x4F ∷ 0x51
    ∷ 0x8A ∷ 0xC4 ∷ 0x24 ∷ 0x51 ∷ 0xD0 ∷ 0x06 ∷ 0x0E ∷ 0xA0 ∷ 0x20 ∷ 0xE4 ∷ 0x96 ∷ 0x05 ∷ 0x99 ∷ 0x03 ∷ 0xC3 ∷ 0x48
    ∷ 0x33 ∷ 0xE1 ∷ 0x42 ∷ 0x04 ∷ 0x00 ∷ 0x9C ∷ 0x3C ∷ 0xA0 ∷ 0x49 ∷ 0x13 ∷ 0x84 ∷ 0x42 ∷ 0x28 ∷ 0x25 ∷ 0x00 ∷ 0x03
    ∷ 0xE8 ∷ 0x10 ∷ 0x30 ∷ 0x00 ∷ 0x1F ∷ 0x40 ∷ 0x00 ∷ 0x00 ∷ 0x07 ∷ 0x53 ∷ 0x05 ∷ 0xFF ∷ 0xC0 ∷ 0x27 ∷ 0x10 ∷ 0x09
    ∷ 0xC8 ∷ 0x00 ∷ 0xC3 ∷ 0x50 ∷ 0x31 ∷ 0x35 ∷ 0xB0 ∷ 0x10 ∷ 0x00 ∷ 0x01 ∷ 0xE7 ∷ 0xFE ∷ 0x02 ∷ 0x22 ∷ 0xE0 ∷ 0x00
    ∷ 0x00 ∷ []

-- "Marked (P): to be proved": the desk cases that are conversions
abbrev pub conversions : List ConversionCase
conversions =
    record { ask = ask_sheet_of first_packet; answer = bytes first_sheet }
    ∷ record { ask = ask_packet_of first_sheet; answer = bytes first_packet }
    -- "With 54 (84 km/h) in place of 50 it makes the same packet; (P) with 55 another"
    ∷ record { ask = ask_packet_of (sheet_with (0x54 ∷ []) (0x00 ∷ [])); answer = bytes first_packet }
    ∷ record { ask = ask_packet_of (sheet_with (0x55 ∷ []) (0x00 ∷ [])); answer = bytes (packet_with 0x01 0x10 0x3F 0xF0 0x00) }
    -- "The packet without its last byte: 3. (P) Empty packet: 1. (P) Empty sheet: 9. (P) Last byte 01: 7"
    ∷ record { ask = ask_sheet_of (take 38 first_packet); answer = refusal 3 0 }
    ∷ record { ask = ask_sheet_of []; answer = refusal 1 0 }
    ∷ record { ask = ask_packet_of []; answer = refusal 9 0 }
    ∷ record { ask = ask_sheet_of (packet_with 0x01 0x00 0x3F 0xF0 0x01); answer = refusal 7 311 }
    -- "604 and 605 km/h; (P) 0 A against no limit; (P) number 80 00: 9"
    ∷ record { ask = ask_packet_of (sheet_with (0xDC ∷ 0x04 ∷ []) (0x00 ∷ [])); answer = bytes (packet_with 0x07 0x80 0x3F 0xF0 0x00) }
    ∷ record { ask = ask_packet_of (sheet_with (0xDD ∷ 0x04 ∷ []) (0x00 ∷ [])); answer = refusal 4 16 }
    ∷ record { ask = ask_packet_of (sheet_with (0x50 ∷ []) (0x01 ∷ [])); answer = bytes (packet_with 0x01 0x00 0x00 0x00 0x00) }
    ∷ record { ask = ask_packet_of (0x80 ∷ 0x00 ∷ []); answer = refusal 9 0 }
    -- "every field of every change is named"
    ∷ record { ask = ask_packet_of whole_sheet; answer = bytes whole_packet }
    ∷ record { ask = ask_sheet_of whole_packet; answer = bytes whole_sheet }
    ∷ places
