-- Formats of lawful kinds: from a packet to its sheet and back, from a sheet to its packet, and equal packets exactly for equal packet values.
use mathlib.Core.Path.{◌≡◌, refl, sym, ap, ◌∙◌}
use mathlib.Core.Bool.{Bool, true}
use mathlib.Core.List.{List, [], ◌∷◌, ◌++◌}
use mathlib.Core.Logic.{◌↔◌}
use Prim.Native.Nat.{ℕ}
use Rattle.bits.specs.Bits.{bits_of}
use Rattle.kinds.specs.declared.Item.{Item}
use Rattle.kinds.specs.Kind.{Kind}
use Rattle.fields.proofs.Lawful.{LawfulKind, value_small, raised_small}
use Rattle.format.specs.Format.{Format, end, field, accepted, read, write, packet_values}
use Rattle.format.specs.Media.{packet, sheet}
use Rattle.format.specs.Conforming.{Conforming, done, also, InPacket, InSheet, given_back}
use Rattle.format.proofs.Media.{packet_again, packet_only, sheet_again}

pub data Lawful : Format → Type 0 where
  ends : Lawful end
  goes : {k : Kind} {next : ℕ → Format} → LawfulKind k → ((v : ℕ) → k.allowed v ≡ true → Lawful (next v)) → Lawful (field k next)

-- values from a packet are good for a sheet
pub to_sheet_lem : {f : Format} {l : List Item} → Lawful f → Conforming InPacket f l → Conforming InSheet f l
to_sheet_lem w done = done
to_sheet_lem (goes {k = k} lawful rest) (also {i = i} g c) =
    let v = i.packet in
    also {k = k} {i = i}
    (record { lowered = rw g.raised (lawful.back v g.allowed); fits = rw g.raised (raised_small lawful v g.allowed) })
    (to_sheet_lem (rest v g.allowed) c)

-- values from a sheet, lowered, are good for a packet
pub to_packet_lem : {f : Format} {l : List Item} → Lawful f → Conforming InSheet f l → Conforming InPacket f (given_back f l)
to_packet_lem w done = done
to_packet_lem (goes {k = k} lawful rest) (also {i = i} g c) =
    let v = i.packet in
    let a : k.allowed v ≡ true = lawful.into i.sheet v g.lowered in
    also (record { allowed = a; fits = value_small lawful v a; raised = refl }) (to_packet_lem (rest v a) c)

-- lowering leaves the packet's values, and so its bits
pub lowered_bits : (f : Format) (l : List Item) → write packet f (given_back f l) ≡ write packet f l
lowered_bits end l = refl
lowered_bits (field k next) [] = refl
lowered_bits (field k next) (i ∷ l) = ap (λ (s : List Bool). bits_of k.width i.packet ++ s) (lowered_bits (next i.packet) l)

pub lowered_values : {Good : Kind → Item → Type 0} {f : Format} {l : List Item} → Conforming Good f l → packet_values (given_back f l) ≡ packet_values l
lowered_values done = refl
lowered_values (also {i = i} g c) = ap (λ (s : List ℕ). i.packet ∷ s) (lowered_values c)

-- the bits depend on the packet's values alone
pub same_bits : (f : Format) (l m : List Item) → packet_values l ≡ packet_values m → write packet f l ≡ write packet f m
same_bits end l m e = refl
same_bits (field k next) [] [] e = refl
same_bits (field k next) [] (j ∷ m) e = cc
same_bits (field k next) (i ∷ l) [] e = cc
same_bits (field k next) (i ∷ l) (j ∷ m) e =
    let p : i.packet ≡ j.packet = cc in
    let q : packet_values l ≡ packet_values m = cc in
    rw p (ap (λ (s : List Bool). bits_of k.width j.packet ++ s) (same_bits (next j.packet) l m q))

-- lowering depends on the packet's values alone
pub same_lowered : (f : Format) (l m : List Item) → packet_values l ≡ packet_values m → given_back f l ≡ given_back f m
same_lowered end l m e = refl
same_lowered (field k next) [] [] e = refl
same_lowered (field k next) [] (j ∷ m) e = cc
same_lowered (field k next) (i ∷ l) [] e = cc
same_lowered (field k next) (i ∷ l) (j ∷ m) e =
    let p : i.packet ≡ j.packet = cc in
    let q : packet_values l ≡ packet_values m = cc in
    rw p (ap (λ (s : List Item). record { sheet = k.raise j.packet; packet = j.packet } ∷ s) (same_lowered (next j.packet) l m q))

module _ (f : Format) (w : Lawful f) where
  -- from a packet to its sheet and back: the packet's bits
  pub packet_sheet_packet : (at to : ℕ) (s : List Bool) (l : List Item) → read packet f at s ≡ accepted l
      → (read sheet f to (write sheet f l) ≡ accepted l) × (write packet f l ≡ s)
  packet_sheet_packet at to s l e = let p = packet_only f at s l e in (sheet_again (to_sheet_lem w p.0) to, sym p.1)

  -- from conforming values of a sheet to its packet: accepted, with the values lowered
  pub sheet_packet : (l : List Item) → Conforming InSheet f l → (at : ℕ) → read packet f at (write packet f l) ≡ accepted (given_back f l)
  sheet_packet l c at = rw (← lowered_bits f l) (packet_again (to_packet_lem w c) at)

  -- equal packets exactly for equal packet values
  pub same_packet_lem : (l m : List Item) → Conforming InSheet f l → Conforming InSheet f m
      → (write packet f l ≡ write packet f m) ↔ (packet_values l ≡ packet_values m)
  same_packet_lem l m cl cm = (only, same_bits f l m)
    where
      only : write packet f l ≡ write packet f m → packet_values l ≡ packet_values m
      only e =
          let p : accepted (given_back f l) ≡ accepted (given_back f m) = sym (sheet_packet l cl 0) ∙ ap (read packet f 0) e ∙ sheet_packet m cm 0 in
          let q : given_back f l ≡ given_back f m = cc in
          sym (lowered_values cl) ∙ ap packet_values q ∙ lowered_values cm

  -- packet values are equal exactly where the values agree in every field after lowering
  pub same_fields : (l m : List Item) → Conforming InSheet f l → Conforming InSheet f m
      → (packet_values l ≡ packet_values m) ↔ (given_back f l ≡ given_back f m)
  same_fields l m cl cm = (same_lowered f l m, λ q. sym (lowered_values cl) ∙ ap packet_values q ∙ lowered_values cm)
