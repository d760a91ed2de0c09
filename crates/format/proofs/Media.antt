-- The two media are lawful: a packet's bits and a sheet's groups are taken as they are put, and no others are.
use mathlib.Core.Path.{◌≡◌, refl}
use mathlib.Core.Bool.{Bool, true}
use mathlib.Core.List.{List, [], ◌∷◌, ◌++◌}
use mathlib.Core.Option.{Option, none, some}
use Prim.Native.Nat.{ℕ, zero, suc, ◌^◌, ◌<◌}
use native.Mathlib.Nat.{mod-eq_of_lt}
use native.Mathlib.Omega.{arith}
use borrow.Author.Tests.{ltb-false, le-ltb}
use lib.Dec.{ltb}
use lib.ListN.{length, take, drop, length-append, take-append-drop}
use lib.Seq.{take_at, drop_at, drop-append_seam, length-take-le}
use Rattle.bits.specs.Bits.{Bytes, bits_of, number}
use Rattle.bits.proofs.Tests.{by_cases}
use Rattle.bits.proofs.Spelling.{length_bits, number_bits, number_small, bits_number}
use Rattle.std.specs.Prelude as std
use Rattle.std.specs.Prelude.{Some, None}
use Rattle.numbers.specs.Numbers.{number_in, groups_in}
use Rattle.numbers.proofs.Reading.{number_again, number_only}
use Rattle.kinds.specs.declared.Item.{Item}
use Rattle.std.specs.Prelude.{Result, Ok, Err}
use Rattle.kinds.specs.Kind.{Kind}
use Rattle.kinds.specs.Judged.{value_in_packet, number_in_sheet, field_with}
use Rattle.format.specs.Format.{Format, accepted, step, read, write}
use Rattle.format.specs.Media.{stepped, take_bits, put_bits, packet, take_groups, put_groups, sheet}
use Rattle.format.specs.Conforming.{Conforming, InPacket, InSheet}
use Rattle.format.proofs.Generic.{LawfulMedium, read_write, write_read}

-- a field judged that went on
stepped_on : {A C : Type 0} (f : Result Item ℕ) (s : List A) (i : Item) (t : List A) → stepped f s ≡ step i t → (f ≡ Ok i → s ≡ t → C) → C
stepped_on (Ok j) s i t e k = k (cc) (cc)
stepped_on (Err r) s i t e k = cc

-- ---- bits

from_packet_lem : {C : Type 0} (k : Kind) (v : ℕ) (i : Item) → value_in_packet k v ≡ Ok i
    → (k.allowed v ≡ true → i ≡ record { sheet = k.raise v; packet = v } → C) → C
from_packet_lem k v i e f =
    by_cases (k.allowed v)
    (λ a. let h : Ok (record { sheet = k.raise v; packet = v }) ≡ Ok i = rw a at e in f a (cc))
    (λ a. let h : Err (k.refusal v) ≡ Ok i = rw a at e in cc)

bits_again : (k : Kind) (i : Item) (s : List Bool) → InPacket k i → take_bits k (put_bits k i ++ s) ≡ step i s
bits_again k i s g =
    let w = k.width in
    let v = i.packet in
    let n : length (bits_of w v) ≡ w = length_bits w v in
    rw (
      le-ltb (length (bits_of w v ++ s)) w (rw length-append (omega arith)),
      take_at (bits_of w v) s w n,
      drop_at (bits_of w v) s w n,
      number_bits w v,
      mod-eq_of_lt g.fits,
      g.allowed,
      ← g.raised,
    )

bits_only : (k : Kind) (s : List Bool) (i : Item) (t : List Bool) → Unit {0} → take_bits k s ≡ step i t → InPacket k i × (s ≡ put_bits k i ++ t) × Unit {0}
bits_only k s i t ok e =
    let w = k.width in
    let v = number (take w s) in
    by_cases (ltb (length s) w) (λ d. cc (rw d at e)) λ d.
    stepped_on (value_in_packet k v) (drop w s) i t (rw d at e) λ p q.
    from_packet_lem k v i p λ a j.
    let n : length (take w s) ≡ w = length-take-le w s (ltb-false (length s) w d) in
    let fits : v < 2 ^ w = rw n at (number_small (take w s)) in
    let bits : bits_of w v ≡ take w s = rw n at (bits_number (take w s)) in
    rw (j, ← q) (record { allowed = a; fits = fits; raised = refl }, rw (bits, take-append-drop), tt)

pub packet_lawful : LawfulMedium packet InPacket (λ _. Unit {0})
packet_lawful = record { again = bits_again; only = bits_only }

-- ---- groups

pub bytes_drop : (n : ℕ) (s : List ℕ) → Bytes s → Bytes (drop n s)
bytes_drop zero s ok = ok
bytes_drop (suc n) [] ok = ok
bytes_drop (suc n) (b ∷ s) ok = bytes_drop n s ok.1

pub from_sheet_lem : {C : Type 0} (k : Kind) (a : ℕ) (o : Option ℕ) (i : Item) → k.lower a ≡ o → field_with k a o ≡ Ok i
    → ((v : ℕ) → k.lower a ≡ some v → i ≡ record { sheet = a; packet = v } → C) → C
from_sheet_lem k a none i d e f = cc
from_sheet_lem k a (some v) i d e f = f v d (cc)

groups_again : (k : Kind) (i : Item) (s : List ℕ) → InSheet k i → take_groups k (put_groups k i ++ s) ≡ step i s
groups_again k i s g = rw (number_again i.sheet s g.fits, g.lowered, drop-append_seam)

groups_only : (k : Kind) (s : List ℕ) (i : Item) (t : List ℕ) → Bytes s → take_groups k s ≡ step i t → InSheet k i × (s ≡ put_groups k i ++ t) × Bytes t
groups_only k s i t ok e = go (number_in s) refl
  where
    go : (r : std.Option ℕ) → number_in s ≡ r → InSheet k i × (s ≡ put_groups k i ++ t) × Bytes t
    go None d = cc (rw d at e)
    go (Some a) d =
        stepped_on (number_in_sheet k a) (drop (length (groups_in a)) s) i t (rw d at e) λ p q.
        from_sheet_lem k a (k.lower a) i refl p λ v l j.
        let r = number_only s a ok d in
        rw (j, ← q) (record { lowered = l; fits = r.small }, r.bytes, bytes_drop (length (groups_in a)) s ok)

pub sheet_lawful : LawfulMedium sheet InSheet Bytes
sheet_lawful = record { again = groups_again; only = groups_only }

-- ---- the theorems, for every format

pub packet_again : {f : Format} {l : List Item} → Conforming InPacket f l → (at : ℕ) → read packet f at (write packet f l) ≡ accepted l
packet_again c at = read_write packet InPacket (λ _. Unit {0}) packet_lawful c at

pub sheet_again : {f : Format} {l : List Item} → Conforming InSheet f l → (at : ℕ) → read sheet f at (write sheet f l) ≡ accepted l
sheet_again c at = read_write sheet InSheet Bytes sheet_lawful c at

pub packet_only : (f : Format) (at : ℕ) (s : List Bool) (l : List Item) → read packet f at s ≡ accepted l → Conforming InPacket f l × (s ≡ write packet f l)
packet_only f at s l e = write_read packet InPacket (λ _. Unit {0}) packet_lawful f at s l tt e

pub sheet_only : (f : Format) (at : ℕ) (s : List ℕ) (l : List Item) → Bytes s → read sheet f at s ≡ accepted l → Conforming InSheet f l × (s ≡ write sheet f l)
sheet_only f at s l ok e = write_read sheet InSheet Bytes sheet_lawful f at s l ok e
