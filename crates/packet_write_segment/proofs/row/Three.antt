-- A row written in three pieces, one after another.
use mathlib.Core.Path.{◌≡◌}
use mathlib.Core.List.{List}
use Prim.Native.Nat.{ℕ}
use Rattle.format.specs.Format.{Format}
use Rattle.grammar.specs.internal.rows.Rows.{row}
use Rattle.packet_write_segment.specs.declared.elements.PacketSpot.{PacketSpot}
use Rattle.packet_write_segment.specs.internal.elements.Writing.{Ready, Wrote}
use Rattle.packet_write_segment.proofs.elements.Writing.{Along, along_all, along_as, along_next, along_on, along_none}
use Rattle.packet_write_segment.specs.internal.row.Pieces.{between, Puttable}

-- a row is its fields up to i, from i to j, and from j to k, and each of the three pieces is written at once
pub record Three (ws ms : List ℕ) (i j k a b c : ℕ) : Type 0 where
  pub cuts : (f : Format) → row ws ms f ≡ between ws ms 0 i (between ws ms i j (between ws ms j k f))
  pub first : Puttable ws ms 0 i a
  pub second : Puttable ws ms i j b
  pub third : Puttable ws ms j k c

-- the tables vs and ns that are lent are ws and ms
module _ {ws ms : List ℕ} {i j k a b c : ℕ} (t : Three ws ms i j k a b c) {vs ns : List ℕ} (v : vs ≡ ws) (n : ns ≡ ms) {s room : List ℕ} {u : PacketSpot} (h : Ready (row ws ms) s room u) where
  abbrev one : Format → Format
  one f = between vs ns 0 i f

  abbrev two : Format → Format
  two f = between vs ns i j f

  abbrev three : Format → Format
  three f = between vs ns j k f

  three_all : Along (row ws ms) (λ f. one (two (three f))) s room u room u
  three_all = along_as (λ f. one (two (three f))) (rw (v, n) t.cuts) (along_all h)

  pub three_first : Ready one s room u × Puttable vs ns 0 i a
  three_first = (along_next one (λ f. two (three f)) three_all h, rw (v, n) t.first)

  module _ {mid : List ℕ} {q : PacketSpot} (x : Wrote one s room u mid q) where
    one_on : Along (row ws ms) (λ f. two (three f)) s room u mid q
    one_on = along_on one (λ f. two (three f)) three_all x

    pub three_second : Ready two s mid q × Puttable vs ns i j b
    three_second = (along_next two three one_on h, rw (v, n) t.second)

    module _ {far : List ℕ} {r : PacketSpot} (y : Wrote two s mid q far r) where
      two_on : Along (row ws ms) three s room u far r
      two_on = along_on two three one_on y

      pub three_third : Ready three s far r × Puttable vs ns j k c
      three_third = (along_next three (λ f. f) two_on h, rw (v, n) t.third)

      pub three_wrote : {end : List ℕ} {l : PacketSpot} → Wrote three s far r end l → Wrote (row ws ms) s room u end l
      three_wrote z = along_none (along_on three (λ f. f) two_on z)
