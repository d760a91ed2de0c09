-- A refusal of a packet or a sheet is in the list of refusals, and is not 0.
use mathlib.Core.Path.{◌≡◌, refl}
use mathlib.Core.Bool.{Bool, true, ◌&&◌}
use mathlib.Core.List.{List, [], ◌∷◌}
use Prim.Native.Nat.{ℕ, ◌≤◌}
use borrow.Author.Tests.{leb-true}
use lib.Dec.{leb}
use Rattle.bits.specs.Bits.{Bytes}
use Rattle.bits.proofs.Tests.{and_left, and_right}
use Rattle.format.specs.Format.{refused}
use Rattle.format.specs.Grounds.{Among, first, later}
use Rattle.grammar.specs.segment.Segment.{fields}
use Rattle.grammar.specs.segment.Judgement.{segment_number, from_packet, from_sheet}
use Rattle.grammar.proofs.segment.Grounds.{packet_grounds, sheet_grounds, fields_refusals, packet_listed, sheet_listed}

abbrev pub positive : List ℕ → Bool
positive [] = true
positive (a ∷ l) = leb 1 a && positive l

pub among_positive : {r : ℕ} {l : List ℕ} → Among r l → positive l ≡ true → 1 ≤ r
among_positive {r} (first {l = l}) e = leb-true 1 r (and_left (leb 1 r) (positive l) e)
among_positive (later {b = b} {l = l} a) e = among_positive a (and_right (leb 1 b) (positive l) e)

module _ (limit : ℕ) (s : List ℕ) (r place : ℕ) where
  pub packet_refusal : from_packet limit s ≡ refused r place → 1 ≤ r
  unfolding from_packet
  packet_refusal e = among_positive (packet_listed segment_number (fields_refusals limit) s r place ((packet_grounds segment_number (fields limit) s r place).0 e)) refl

  pub sheet_refusal : Bytes s → from_sheet limit s ≡ refused r place → 1 ≤ r
  sheet_refusal ok e = among_positive (sheet_listed limit s r place ((sheet_grounds limit s r place ok).0 e)) refl
