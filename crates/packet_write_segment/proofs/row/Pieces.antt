-- The fields of a row gathered in one piece: the bits so far are the bits of the fields that are read.
use mathlib.Core.Path.{◌≡◌, refl}
use mathlib.Core.Bool.{true}
use mathlib.Core.List.{List}
use Prim.Native.Nat.{ℕ, ◌+◌, ◌*◌, ◌%◌, ◌^◌, ◌≤◌, ◌<◌}
use native.Mathlib.Nat.{lt_of_lt_of_le, mod-eq_of_lt}
use native.Mathlib.Omega.{arith}
use lib.Dec.{lit<}
use lib.ListN.{length, drop, get_or}
use lib.Pow.{pow_mono}
use Rattle.bits.specs.internal.Windows.{bits_in}
use Rattle.bits.specs.Bits.{bits_of}
use Rattle.bits.proofs.Parts.{join_small}
use Rattle.numbers.specs.declared.accepted.ReadNumber.{ReadNumber}
use Rattle.numbers.specs.internal.accepted.Accepted.{There, Reads}
use Rattle.kinds.specs.Kind.{up_to}
use Rattle.fields.proofs.Lawful.{LawfulKind}
use Rattle.format.specs.Format.{then}
use Rattle.grammar.specs.internal.rows.Rows.{row, fits}
use Rattle.packet_write_segment.specs.declared.elements.PacketSpot.{PacketSpot}
use Rattle.packet_write_segment.specs.internal.elements.Writing.{FieldPut, Ready, Wrote}
use Rattle.packet_write_segment.proofs.elements.Writing.{bits_join, Has, has_same, has_small, Gone, gone_all, gone_as, gone_there, gone_has, gone_field, wrote_once}
use Rattle.packet_write_segment.specs.internal.row.Pieces.{part, between, Puttable}
use Rattle.packet_write_segment.proofs.row.Rows.{row_from, fits_long, fits_at, row_more, row_none, bits_more, bits_none}

pub record Gathers (ws ms s room : List ℕ) (u : PacketSpot) (total i from bits : ℕ) : Type 0 where
  pub ready : Ready (row ws ms) s room u
  pub fit : fits ws ms ≡ true
  pub some : 1 ≤ total
  pub most : total ≤ 32
  pub width : ℕ
  pub gone : Gone s (row ws ms) (row_from ws ms i) u.from from (bits_of width bits)
  pub small : bits < 2 ^ width
  pub sum : width + bits_in (drop i ws) ≡ total

pub gathers_start : {ws ms s room : List ℕ} {u : PacketSpot} {first end total : ℕ} → Ready (between ws ms first end) s room u → Puttable ws ms first end total
    → Gathers (part ws first end) (part ms first end) s room u total 0 u.from 0
gathers_start h p = record { ready = h; fit = p.fit; some = p.some; most = p.most; width = 0; gone = gone_all h.inside; small = lit< tt; sum = omega (arith, p.sum) }

module _ {ws ms s room : List ℕ} {u : PacketSpot} {total i from bits : ℕ} (g : Gathers ws ms s room u total i from bits) where
  -- one field more
  module _ (l : i < length ws) where
    abbrev w : ℕ
    w = get_or ws i 0

    abbrev m : ℕ
    m = get_or ms i 0

    fit : LawfulKind (up_to w m)
    fit = fits_at ws ms g.fit i l

    left : Gone s (row ws ms) (λ x. then (up_to w m) (row_from ws ms (i + 1) x)) u.from from (bits_of g.width bits)
    left = gone_as (λ x. then (up_to w m) (row_from ws ms (i + 1) x)) (row_more ws ms (fits_long ws ms g.fit) i l) g.gone

    pub gathers_there : There s from
    gathers_there = gone_there g.ready refl (up_to w m) (λ v. row_from ws ms (i + 1)) left

    pub gathers_narrow : w ≤ 32
    gathers_narrow = fit.narrow.most

    module _ {a : ReadNumber} (t : Reads s from a) where
      has : Has (up_to w m) s from a.value a.next a.value
      has = has_same (gone_has g.ready refl (up_to w m) (λ v. row_from ws ms (i + 1)) left t) ((up_to w m).allowed a.value) refl

      value_small : a.value < 2 ^ w
      value_small = has_small has fit

      joined : bits * 2 ^ w + a.value < 2 ^ 32
      joined =
          let r : g.width + w ≤ 32 = omega (arith, g.sum, g.most, bits_more ws i l) in
          lt_of_lt_of_le (join_small bits a.value g.width w g.small value_small) (pow_mono r)

      -- the shift loses nothing
      kept : bits * 2 ^ w % 2 ^ 64 ≡ bits * 2 ^ w
      kept = mod-eq_of_lt (omega (arith, joined))

      pub joined_small : bits * 2 ^ w % 2 ^ 64 + a.value < 2 ^ 32
      joined_small = rw kept joined

      pub gathers_more : Gathers ws ms s room u total (i + 1) a.next (bits * 2 ^ w % 2 ^ 64 + a.value)
      gathers_more =
          rw kept
          record {
            ready = g.ready;
            fit = g.fit;
            some = g.some;
            most = g.most;
            width = g.width + w;
            gone = rw (bits_join g.width w bits a.value value_small) (gone_field (up_to w m) (λ v. row_from ws ms (i + 1)) left has);
            small = join_small bits a.value g.width w g.small value_small;
            sum = omega (arith, g.sum, bits_more ws i l);
          }

  -- the last field
  module _ (l : length ws ≤ i) where
    all : g.width ≡ total
    all = omega (arith, g.sum, bits_none ws i l)

    pub gathered_small : bits < 2 ^ total
    gathered_small = rw all at g.small

    pub gathers_wrote : {end : List ℕ} {r : PacketSpot} → FieldPut room u total bits from end r → Wrote (row ws ms) s room u end r
    gathers_wrote d =
        wrote_once (rw all at (gone_as (λ x. x) (row_none ws ms (fits_long ws ms g.fit) i l) g.gone)) refl d
