-- A packet and a sheet are refused exactly on their grounds, each input has values or one ground, and each refusal is in the list of refusals.
use mathlib.Core.Path.{◌≡◌, refl, sym, ap, ◌∙◌}
use mathlib.Core.Bool.{Bool, true, false}
use mathlib.Core.List.{List, [], ◌∷◌, ◌++◌}
use mathlib.Core.Option.{Option, none, some}
use mathlib.Core.Logic.{◌↔◌}
use Prim.Native.Nat.{ℕ, zero, suc, ◌+◌, ◌/◌, ◌≤◌}
use native.Mathlib.Omega.{arith}
use borrow.Author.Tests.{eqb-true, eqb-false, eq-eqb, ne_eqb, ltb-true, ltb-false, lt-ltb, le-ltb}
use lib.Dec.{eqb, ltb, leb}
use lib.ListN.{length}
use Rattle.bits.specs.Bits.{Bytes, fill}
use Rattle.bits.proofs.Tests.{by_cases}
use Rattle.kinds.specs.declared.Item.{Item}
use Rattle.kinds.specs.Kind.{Kind}
use Rattle.fields.proofs.size.Bytes.{class_refusal}
use Rattle.format.specs.Format.{Format, Read, accepted, refused, read}
use Rattle.format.specs.Media.{packet, sheet}
use Rattle.format.specs.Conforming.{InSheet}
use Rattle.format.specs.Grounds.{BitsFault, GroupsFault, Ground, at_field, left_over, Every, at_end, each, Among, first, later}
use Rattle.format.proofs.Grounds.{every_front, every_map, packet_written, packet_ground, sheet_ground}
use Rattle.grammar.specs.segment.Segment.{entries, profile, voltage, current, changes, part, lists, body, fields, sheet_fields}
use Rattle.grammar.specs.segment.Frame.{packet_number, body_bits, field_bits, padding, first_one, padded, unframed}
use Rattle.grammar.specs.segment.Judgement.{from_sheet}
use Rattle.grammar.specs.segment.Grounds.{WellFramed, FirstOne, PacketGround, short, other_number, other_size, in_fields, in_padding, SheetGround, FieldRefusal, as_value, as_end, as_location, packet_refusals, sheet_refusals}

-- ---- the first padding bit that is 1

one_first : (at : ℕ) (bits : List Bool) (place : ℕ) → first_one at bits ≡ some place → FirstOne at bits place
one_first at [] place e = cc
one_first at (true ∷ bits) place e =
    let q : at ≡ place = cc in
    record { zeros = 0; more = bits; whole = refl; stands = omega arith }
one_first at (false ∷ bits) place e =
    let o = one_first (at + 1) bits place e in
    record { zeros = suc o.zeros; more = o.more; whole = ap (λ (l : List Bool). false ∷ l) o.whole; stands = omega (arith, o.stands) }

first_one_lem : (at zeros : ℕ) (more : List Bool) → first_one at (fill zeros [] ++ true ∷ more) ≡ some (at + zeros)
first_one_lem at zero more = let e : at + 0 ≡ at = omega arith in rw e
first_one_lem at (suc n) more = let e : at + suc n ≡ at + 1 + n = omega arith in rw e (first_one_lem (at + 1) n more)

-- ---- a packet

padded_refused : {C : Type 0} (n : ℕ) (one : Option ℕ) (t : Read) (r place : ℕ) → padded n one t ≡ refused r place
    → (t ≡ refused r place → C)
    → ((l : List Item) → t ≡ accepted l → one ≡ some place → r ≡ 7 → C) → C
padded_refused n one (refused q m) r place e inside after = inside e
padded_refused n none (accepted l) r place e inside after = cc
padded_refused n (some p) (accepted l) r place e inside after = let q : p ≡ place = cc in after l refl (rw q) (cc)

module _ (n : ℕ) (f : Format) (s : List ℕ) (r place : ℕ) where
  -- the fields and the padding, once the frame is judged
  inside : Read
  inside = padded n (first_one (120 + body_bits s) (padding s)) (read packet f 24 (field_bits s))

  framed_judged : WellFramed n s → unframed n f s ≡ inside
  unfolding inside
  framed_judged w =
      rw (le-ltb (length s) 15 w.long, eq-eqb (packet_number s) n w.number, eq-eqb (length s) (15 + (body_bits s + 7) / 8) w.size)

  inside_ground : WellFramed n s → inside ≡ refused r place → PacketGround n f s r place
  unfolding inside
  inside_ground w e =
      padded_refused n (first_one (120 + body_bits s) (padding s)) (read packet f 24 (field_bits s)) r place e
      (λ g. in_fields w ((packet_ground f 24 (field_bits s) r place).0 g))
      λ l a o q. in_padding w l ((packet_written f 24 (field_bits s) l).0 a) (one_first (120 + body_bits s) (padding s) place o) q

  ground : unframed n f s ≡ refused r place → PacketGround n f s r place
  ground e =
      by_cases (ltb (length s) 15) (λ a. let g : refused 1 0 ≡ refused r place = rw a at e in short (ltb-true (length s) 15 a) (cc) (cc)) λ a.
      let long : 15 ≤ length s = ltb-false (length s) 15 a in
      by_cases (eqb (packet_number s) n) (λ b.
      let number : packet_number s ≡ n = eqb-true (packet_number s) n b in
      by_cases (eqb (length s) (15 + (body_bits s + 7) / 8)) (λ c.
      let w : WellFramed n s = record { long = long; number = number; size = eqb-true (length s) (15 + (body_bits s + 7) / 8) c } in
      inside_ground w (sym (framed_judged w) ∙ e))
      (λ c. let g : refused 3 0 ≡ refused r place = rw (a, b, c) at e in other_size long number (eqb-false (length s) (15 + (body_bits s + 7) / 8) c) (cc) (cc)))
      (λ b. let g : refused 2 0 ≡ refused r place = rw (a, b) at e in other_number long (eqb-false (packet_number s) n b) (cc) (cc))

  given : PacketGround n f s r place → unframed n f s ≡ refused r place
  unfolding inside
  given (short h e p) = rw (lt-ltb (length s) 15 h, e, p)
  given (other_number h d e p) = rw (le-ltb (length s) 15 h, ne_eqb (packet_number s) n d, e, p)
  given (other_size h d z e p) =
      rw (le-ltb (length s) 15 h, eq-eqb (packet_number s) n d, ne_eqb (length s) (15 + (body_bits s + 7) / 8) z, e, p)
  given (in_fields w g) = framed_judged w ∙ ap (padded n (first_one (120 + body_bits s) (padding s))) ((packet_ground f 24 (field_bits s) r place).1 g)
  given (in_padding w l a o e) =
      framed_judged w ∙ rw ((packet_written f 24 (field_bits s) l).1 a, o.whole, first_one_lem (120 + body_bits s) o.zeros o.more, e, o.stands)

  -- "Each refusal is given then and not otherwise"
  pub packet_grounds : (unframed n f s ≡ refused r place) ↔ PacketGround n f s r place
  packet_grounds = (ground, given)

-- ---- a sheet

pub sheet_grounds : (limit : ℕ) (s : List ℕ) (r place : ℕ) → Bytes s → (from_sheet limit s ≡ refused r place) ↔ SheetGround limit s r place
unfolding from_sheet
sheet_grounds limit s r place ok = sheet_ground (sheet_fields limit) 0 s r place ok

-- ---- a location of a change is refused with 5, every other field after the packet number with 4

-- a part that can stand in front of any format: its fields have a refusal of `FieldRefusal` too
abbrev Kept : (Format → Format) → Type 0
Kept front = (f : Format) → Every FieldRefusal f → Every FieldRefusal (front f)

entries_refusals : (n : ℕ) → Kept (entries n)
unfolding entries
entries_refusals zero f e = e
entries_refusals (suc n) f e = each (as_value λ _. refl) λ q. each (as_value (class_refusal q)) λ _. each (as_value λ _. refl) λ _. entries_refusals n f e

profile_refusals : Kept profile
profile_refusals f e = each (as_value λ _. refl) λ _. each (as_value λ _. refl) λ _. each (as_value λ _. refl) λ n. entries_refusals n f e

voltage_refusals : Kept voltage
voltage_refusals f e = each (as_value λ _. refl) λ u. each (as_value λ _. refl) λ _. e

current_refusals : Kept current
current_refusals f e = each (as_value λ _. refl) λ _. e

changes_refusals : {start : Format → Format} → Kept start → (lsp last n : ℕ) → Kept (changes start lsp last n)
unfolding changes
changes_refusals start lsp last zero f e = e
changes_refusals start lsp last (suc n) f e = each (as_location last lsp refl) λ x. start _ (changes_refusals start lsp x n f e)

part_refusals : {start : Format → Format} → Kept start → (limit lsp : ℕ) → Kept (part start limit lsp)
part_refusals start limit lsp f e = start _ (each (as_value λ _. refl) λ n. changes_refusals start lsp 0 n f e)

pub fields_refusals : (limit : ℕ) → Every FieldRefusal (fields limit)
unfolding fields body lists
fields_refusals limit =
    each (as_value λ _. refl) λ _. each (as_value λ _. refl) λ _. each (as_value λ _. refl) λ _. each (as_value λ _. refl) λ _. each (as_value λ _. refl) λ _.
    each (as_value λ _. refl) λ _. each (as_value λ _. refl) λ _. each (as_value λ _. refl) λ _. each (as_value λ _. refl) λ _.
    each (as_value λ _. refl) λ lsp. each (as_value λ _. refl) λ _. each (as_value λ _. refl) λ _. each (as_value λ _. refl) λ _.
    part_refusals profile_refusals 31 lsp _ (part_refusals voltage_refusals limit lsp _ (part_refusals current_refusals limit lsp _ at_end))

-- ---- each refusal is in the list of refusals

pub listed : {C : Type 0} {k : Kind} → FieldRefusal k → (v : ℕ) → (k.refusal v ≡ 4 → C) → (k.refusal v ≡ 5 → C) → C
listed (as_value e) v value location = value (e v)
listed (as_location last lsp e) v value location = location (ap (λ (k : Kind). k.refusal v) e)
listed {k = k} (as_end e) v value location = by_cases (leb v k.largest) (λ d. location (e v ∙ rw d)) (λ d. value (e v ∙ rw d))

bits_listed : {k : Kind} {bits : List Bool} {r : ℕ} → FieldRefusal k → BitsFault k bits r → Among r packet_refusals
bits_listed f (BitsFault.unfitting h e) = rw e (later (later (later (later (later first)))))
bits_listed f (BitsFault.unallowed v more fits whole a e) =
    listed f v (λ q. rw (e, q) (later (later (later first)))) (λ q. rw (e, q) (later (later (later (later first)))))

pub packet_listed : (n : ℕ) {f : Format} → Every FieldRefusal f → (s : List ℕ) (r place : ℕ) → PacketGround n f s r place → Among r packet_refusals
packet_listed n every s r place (short h e p) = rw e first
packet_listed n every s r place (other_number h d e p) = rw e (later first)
packet_listed n every s r place (other_size h d z e p) = rw e (later (later first))
packet_listed n every s r place (in_fields w (at_field a)) = bits_listed (every_front every a.front) a.fault
packet_listed n every s r place (in_fields w (left_over a)) = rw a.number (later (later (later (later (later (later (later first)))))))
packet_listed n every s r place (in_padding w l a o e) = rw e (later (later (later (later (later (later first))))))

-- the refusals of a sheet's fields after the packet number, which is refused with 2
pub numbers_refusals : {f : Format} → Every FieldRefusal f → Every (λ k. (v : ℕ) → Among (k.refusal v) sheet_refusals) f
numbers_refusals e = every_map (λ k f v. listed f v (λ q. rw q (later first)) (λ q. rw q (later (later first)))) e

sheet_refusals_lem : (limit : ℕ) → Every (λ k. (v : ℕ) → Among (k.refusal v) sheet_refusals) (sheet_fields limit)
unfolding sheet_fields
sheet_refusals_lem limit = each (λ _. first) λ _. numbers_refusals (fields_refusals limit)

groups_listed : {k : Kind} {bytes : List ℕ} {r : ℕ} → ((v : ℕ) → Among (k.refusal v) sheet_refusals) → GroupsFault k bytes r → Among r sheet_refusals
groups_listed f (GroupsFault.numberless n e) = rw e (later (later (later first)))
groups_listed f (GroupsFault.unallowed a b l e) = rw e (f a)

-- the refusal of a sheet of any tree
pub numbers_listed : {f : Format} → Every (λ k. (v : ℕ) → Among (k.refusal v) sheet_refusals) f → (at : ℕ) (s : List ℕ) (r place : ℕ) → Ground sheet InSheet GroupsFault f at s r place
    → Among r sheet_refusals
numbers_listed every at s r place (at_field a) = groups_listed (every_front every a.front) a.fault
numbers_listed every at s r place (left_over a) = rw a.number (later (later (later first)))

pub sheet_listed : (limit : ℕ) (s : List ℕ) (r place : ℕ) → SheetGround limit s r place → Among r sheet_refusals
sheet_listed limit s r place g = numbers_listed (sheet_refusals_lem limit) 0 s r place g
