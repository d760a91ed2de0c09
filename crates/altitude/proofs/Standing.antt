-- Where a value stands among the bits that conforming values are written as: after the widths of the fields before it.
use mathlib.Core.Path.{◌≡◌, sym, ap, ◌∙◌}
use mathlib.Core.Bool.{Bool}
use mathlib.Core.List.{List}
use Prim.Native.Nat.{ℕ, suc, ◌+◌, ◌<◌, ◌≤◌}
use native.Mathlib.Nat.{mod-eq_of_lt}
use native.Mathlib.Omega.{arith}
use lib.ListN.{length, take, drop, get_or, length-append, length-drop}
use lib.Seq.{take_at, drop_at, drop-drop}
use Rattle.bits.specs.Bits.{bits_of, number}
use Rattle.bits.proofs.Spelling.{length_bits, number_bits}
use Rattle.kinds.specs.declared.Item.{Item}
use Rattle.kinds.specs.Kind.{Kind}
use Rattle.format.specs.Format.{Format, field, write, packet_values}
use Rattle.format.specs.Media.{packet}
use Rattle.format.specs.Conforming.{Conforming, also, InPacket}

module _ (b : List Bool) where
  -- the bits from the bit `at` on are the bits of values that conform to f
  pub record Written (f : Format) (at : ℕ) (l : List Item) : Type 0 where
    pub good : Conforming InPacket f l
    pub bits : drop at b ≡ write packet f l

  -- the value n of l, counted from 0, is the number of the w bits from the bit `at` on
  pub record Stands (n at w : ℕ) (l : List Item) : Type 0 where
    pub value : get_or (packet_values l) n 0 ≡ number (take w (drop at b))
    pub inside : at + w ≤ length b
    pub present : n < length l

  module _ {k : Kind} {next : ℕ → Format} where
    here_at : (at : ℕ) {l : List Item} → 0 < k.width → Conforming InPacket (field k next) l → drop at b ≡ write packet (field k next) l → Stands 0 at k.width l
    here_at at p (also {i = i} {l = l} g c) e =
        let w = k.width in
        let v = i.packet in
        let n : length (bits_of w v) ≡ w = length_bits w v in
        let t = write packet (next v) l in
        let long : length (drop at b) ≡ length (bits_of w v) + length t = ap length e ∙ length-append (bits_of w v) t in
        record {
          value = sym (ap (λ (x : List Bool). number (take w x)) e ∙ rw (take_at (bits_of w v) t w n, number_bits w v, mod-eq_of_lt g.fits));
          inside = omega (arith, length-drop at b);
          present = omega arith;
        }

    pub here : {at : ℕ} {l : List Item} → 0 < k.width → Written (field k next) at l → Stands 0 at k.width l
    here {at} p h = here_at at p h.good h.bits

    past_at : (at : ℕ) {n to w : ℕ} {l : List Item} → ((v : ℕ) (t : List Item) → Written (next v) (at + k.width) t → Stands n to w t)
        → Conforming InPacket (field k next) l → drop at b ≡ write packet (field k next) l → Stands (suc n) to w l
    past_at at f (also {i = i} {l = l} g c) e =
        let w = k.width in
        let v = i.packet in
        let t = write packet (next v) l in
        let q : drop (at + w) b ≡ t = sym (drop-drop w at b) ∙ ap (drop w) e ∙ drop_at (bits_of w v) t w (length_bits w v) in
        let r = f v l (record { good = c; bits = q }) in
        record { value = r.value; inside = r.inside; present = omega (arith, r.present) }

    pub past : {at n to w : ℕ} {l : List Item} → ((v : ℕ) (t : List Item) → Written (next v) (at + k.width) t → Stands n to w t)
        → Written (field k next) at l → Stands (suc n) to w l
    past {at} f h = past_at at f h.good h.bits
