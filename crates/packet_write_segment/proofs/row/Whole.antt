-- The fields of a row put one after the other: what is left of the row, and the bits so far.
use mathlib.Core.Path.{◌≡◌, refl}
use mathlib.Core.Bool.{true}
use mathlib.Core.List.{List}
use Prim.Native.Nat.{ℕ, ◌+◌, ◌≤◌, ◌<◌}
use native.Mathlib.Omega.{arith}
use lib.ListN.{length, drop, get_or}
use Rattle.bits.specs.internal.Windows.{bits_in}
use Rattle.kinds.specs.Kind.{up_to}
use Rattle.format.specs.Format.{then}
use Rattle.grammar.specs.internal.rows.Rows.{row, fits}
use Rattle.packet_write_segment.specs.declared.elements.PacketSpot.{PacketSpot}
use Rattle.packet_write_segment.specs.internal.elements.Writing.{Ready, Wrote}
use Rattle.packet_write_segment.specs.declared.row.Given.{Given}
use Rattle.packet_write_segment.specs.internal.row.Alone.{Copied}
use Rattle.packet_write_segment.proofs.elements.Writing.{Along, along_all, along_as, along_none, Next, next_on}
use Rattle.packet_write_segment.proofs.row.Rows.{row_from, fits_long, fits_at, row_more, row_none, bits_more, bits_none}

-- the fields before the field i are put
pub record Putting (ws ms s room : List ℕ) (u : PacketSpot) (i : ℕ) (mid : List ℕ) (v : PacketSpot) : Type 0 where
  pub ready : Ready (row ws ms) s room u
  pub fit : fits ws ms ≡ true
  pub along : Along (row ws ms) (row_from ws ms i) s room u mid v
  pub sum : v.at + bits_in (drop i ws) ≡ u.at + bits_in ws

pub putting_start : {ws ms s room : List ℕ} {u : PacketSpot} → Ready (row ws ms) s room u → fits ws ms ≡ true → Putting ws ms s room u 0 room u
putting_start h e = record { ready = h; fit = e; along = along_all h; sum = refl }

module _ {ws ms s room mid : List ℕ} {u v : PacketSpot} {i : ℕ} (g : Putting ws ms s room u i mid v) where
  module _ (l : i < length ws) where
    -- one field more
    pub putting_next : Next (row ws ms) (up_to (get_or ws i 0) (get_or ms i 0)) (λ x. row_from ws ms (i + 1)) s room u mid v
    putting_next = record {
      ready = g.ready;
      along = along_as (λ f. then (up_to (get_or ws i 0) (get_or ms i 0)) (row_from ws ms (i + 1) f)) (row_more ws ms (fits_long ws ms g.fit) i l) g.along;
      lawful = fits_at ws ms g.fit i l;
      same = λ n. refl;
    }

    pub putting_more : {end : List ℕ} {r : Given} → Copied s mid v (get_or ws i 0) end r → Putting ws ms s room u (i + 1) end r.next
    putting_more d = record { ready = g.ready; fit = g.fit; along = next_on putting_next refl d; sum = omega (arith, g.sum, bits_more ws i l, d.put.at) }

  pub putting_wrote : length ws ≤ i → Wrote (row ws ms) s room u mid v × (v.at ≡ u.at + bits_in ws)
  putting_wrote l = (along_none (along_as (λ f. f) (row_none ws ms (fits_long ws ms g.fit) i l) g.along), omega (arith, g.sum, bits_none ws i l))
