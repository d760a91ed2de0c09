-- An input is refused exactly on a ground: for any tree and any medium that takes what it puts and refuses exactly at its faults, and for both media.
use mathlib.Core.Path.{◌≡◌, refl, sym, ap, ◌∙◌}
use mathlib.Core.Bool.{Bool}
use mathlib.Core.List.{List, [], ◌∷◌, ◌++◌, append_assoc}
use mathlib.Core.Logic.{◌↔◌}
use mathlib.Core.Option.{Option, none, some}
use Prim.Native.Nat.{ℕ, ◌+◌, ◌^◌, ◌<◌}
use native.Mathlib.Nat.{mod-eq_of_lt}
use native.Mathlib.Omega.{arith}
use borrow.Author.Tests.{ltb-true, ltb-false, lt-ltb, le-ltb}
use lib.Dec.{ltb}
use lib.ListN.{length, take, drop, length-append, take-append-drop}
use lib.Seq.{take_at, length-take-le}
use Rattle.bits.specs.Bits.{Bytes, bits_of, number}
use Rattle.bits.proofs.Tests.{by_cases}
use Rattle.bits.proofs.Spelling.{length_bits, number_bits, number_small, bits_number}
use Rattle.std.specs.Prelude as std
use Rattle.std.specs.Prelude.{Some, None}
use Rattle.numbers.specs.Numbers.{number_in, groups_in}
use Rattle.numbers.proofs.Reading.{number_again, number_only}
use Rattle.kinds.specs.declared.Item.{Item}
use Rattle.std.specs.Prelude.{Result, Ok, Err}
use Rattle.kinds.specs.Kind.{Kind}
use Rattle.kinds.specs.Judged.{value_in_packet, number_in_sheet, field_with}
use Rattle.format.specs.Format.{Format, end, field, Read, accepted, refused, FieldStep, step, stopped_with, Medium, with, follow, read, write}
use Rattle.format.specs.Media.{stepped, take_bits, packet, take_groups, sheet}
use Rattle.format.specs.Conforming.{Conforming, done, also, InPacket, InSheet}
use Rattle.format.specs.Grounds.{Front, here, past, Every, at_end, each, BitsFault, GroupsFault, Ground, at_field, left_over, Written, Ending, answered, grounded, OneJudgement}
use Rattle.format.proofs.Generic.{LawfulMedium, never, read_write, write_read}
use Rattle.format.proofs.Media.{packet_lawful, sheet_lawful}

-- a medium that refuses exactly at its faults
pub record Faulting {A : Type 0} (m : Medium A) (Fault : Kind → List A → ℕ → Type 0) (Ok : List A → Type 0) : Type 0 where
  pub stops : (k : Kind) (s : List A) (r : ℕ) → Ok s → m.take k s ≡ stopped_with r → Fault k s r
  pub faults : (k : Kind) (s : List A) (r : ℕ) → Ok s → Fault k s r → m.take k s ≡ stopped_with r

-- values that conform to the whole tree are a front of it
pub all_front : {Good : Kind → Item → Type 0} {f : Format} {l : List Item} → Conforming Good f l → Front Good f l end
all_front done = here
all_front (also g c) = past g (all_front c)

-- what holds of every kind holds of the one after a front
pub every_front : {Holds : Kind → Type 0} {Good : Kind → Item → Type 0} {f : Format} {l : List Item} {k : Kind} {next : ℕ → Format}
    → Every Holds f → Front Good f l (field k next) → Holds k
every_front {Holds = Holds} {Good = Good} {l = l} {k = k} {next = next} at_end x = elim x [ ]
every_front (each h e) here = h
every_front (each h e) (past {i = i} g c) = every_front (e i.packet) c

pub every_map : {Holds Also : Kind → Type 0} {f : Format} → ((k : Kind) → Holds k → Also k) → Every Holds f → Every Also f
every_map h at_end = at_end
every_map h (each {k = k} p e) = each (h k p) (λ v. every_map h (e v))

-- an answer or one ground, for any judgement that refuses exactly on its grounds
pub judged : {Values : List Item → Type 0} {On : ℕ → ℕ → Type 0} (j : Read) → ((l : List Item) → (j ≡ accepted l) ↔ Values l)
    → ((r place : ℕ) → (j ≡ refused r place) ↔ On r place) → OneJudgement Values On
judged {Values} {On} j values on = record {
  ending = go j refl;
  apart = λ p v g. never (sym ((on p.0 p.1).1 g) ∙ (values v.0).1 v.1);
  one = λ p q g h. same (sym ((on p.0 p.1).1 g) ∙ (on q.0 q.1).1 h);
}
  where
    go : (t : Read) → j ≡ t → Ending ((l : List Item) × Values l) {I = ℕ × ℕ} (λ p. On p.0 p.1)
    go (accepted l) e = answered (l, (values l).0 e)
    go (refused r place) e = grounded (r, place) ((on r place).0 e)

    same : {r place q other : ℕ} → refused r place ≡ refused q other → ◌≡◌ {A = ℕ × ℕ} (r, place) (q, other)
    same e = cc

with_refused : {C : Type 0} (i : Item) (t : Read) (r n : ℕ) → with i t ≡ refused r n → (t ≡ refused r n → C) → C
with_refused i (accepted l) r n e k = cc
with_refused i (refused q m) r n e k = k e

-- what was refused, at this field or after it
follow_refused : {A C : Type 0} (m : ℕ) (t : FieldStep A) (next : Item → List A → Read) (r n : ℕ) → follow m t next ≡ refused r n
    → (t ≡ stopped_with r → m ≡ n → C) → ((i : Item) (s : List A) → t ≡ step i s → next i s ≡ refused r n → C) → C
follow_refused m (stopped_with q) next r n e at after = let p : q ≡ r = cc in at (rw p) (cc)
follow_refused m (step i s) next r n e at after = with_refused i (next i s) r n e λ f. after i s refl f

module _ {A : Type 0} {m : Medium A} {Good : Kind → Item → Type 0} {Fault : Kind → List A → ℕ → Type 0} {Ok : List A → Type 0}
    (law : LawfulMedium m Good Ok) (bad : Faulting m Fault Ok) where
  -- nothing is written of no values
  nothing : (f : Format) → write m f [] ≡ []
  nothing end = refl
  nothing (field k next) = refl

  -- ---- refused, and so a ground

  module _ {k : Kind} (next : ℕ → Format) (i : Item) (at : ℕ) (t : List A) (r place : ℕ) (g : Good k i) where
    longer : (s rest : List A) (l : List Item) → s ≡ m.put k i ++ t → t ≡ write m (next i.packet) l ++ rest
        → s ≡ write m (field k next) (i ∷ l) ++ rest
    longer s rest l p q = p ∙ ap (λ (v : List A). m.put k i ++ v) q ∙ sym (append_assoc (m.put k i) (write m (next i.packet) l) rest)

    further : (l : List Item) → place ≡ at + length (m.put k i) + length (write m (next i.packet) l) → place ≡ at + length (write m (field k next) (i ∷ l))
    further l e = rw length-append (omega arith)

    -- a ground after a good value is one before it
    earlier : (s : List A) → s ≡ m.put k i ++ t → Ground m Good Fault (next i.packet) (at + length (m.put k i)) t r place
        → Ground m Good Fault (field k next) at s r place
    earlier s p (at_field a) = at_field (record {
      values = i ∷ a.values;
      kind = a.kind;
      next = a.next;
      front = past g a.front;
      rest = a.rest;
      whole = longer s a.rest a.values p a.whole;
      fault = a.fault;
      stands = further a.values a.stands;
    })
    earlier s p (left_over a) = left_over (record {
      values = i ∷ a.values;
      good = also g a.good;
      rest = a.rest;
      whole = longer s a.rest a.values p a.whole;
      some = a.some;
      number = a.number;
      stands = further a.values a.stands;
    })

  ground : (f : Format) (at : ℕ) (s : List A) (r place : ℕ) → Ok s → read m f at s ≡ refused r place → Ground m Good Fault f at s r place
  ground end at [] r place ok e = cc
  ground end at (x ∷ s) r place ok e =
      let p : at ≡ place = cc in
      left_over (record { values = []; good = done; rest = x ∷ s; whole = refl; some = omega arith; number = cc; stands = omega arith })
  ground (field k next) at s r place ok e =
      follow_refused at (m.take k s) (λ i t. read m (next i.packet) (at + length (m.put k i)) t) r place e
      (λ d p. at_field (record { values = []; kind = k; next = next; front = here; rest = s; whole = refl; fault = bad.stops k s r ok d; stands = omega arith }))
      λ i t d q. let g = law.only k s i t ok d in
      earlier next i at t r place g.0 s g.1 (ground (next i.packet) (at + length (m.put k i)) t r place g.2 q)

  -- ---- a ground, and so refused

  -- what is refused after values that conform is refused with them in front
  past_front : {f g : Format} {l : List Item} → Front Good f l g → (at : ℕ) (rest : List A) (r place : ℕ) → Ok (write m f l ++ rest)
      → (Ok rest → read m g (at + length (write m f l)) rest ≡ refused r place) → read m f at (write m f l ++ rest) ≡ refused r place
  past_front (here {f = f}) at rest r place ok e =
      let z : at + 0 ≡ at = omega arith in
      rw (nothing f) (rw (nothing f, z) at (e (rw (nothing f) at ok)))
  past_front (past {k = k} {next = next} {i = i} {l = l} g c) at rest r place ok e =
      let t : List A = write m (next i.packet) l ++ rest in
      let same : (m.put k i ++ write m (next i.packet) l) ++ rest ≡ m.put k i ++ t = append_assoc (m.put k i) (write m (next i.packet) l) rest in
      let taken : m.take k (m.put k i ++ t) ≡ step i t = law.again k i t g in
      let fine : Ok t = (law.only k (m.put k i ++ t) i t (rw same at ok) taken).2 in
      let far : at + length (m.put k i ++ write m (next i.packet) l) ≡ at + length (m.put k i) + length (write m (next i.packet) l) =
      rw length-append (omega arith) in
      rw (same, taken, past_front c (at + length (m.put k i)) rest r place fine (λ o. rw far at (e o)))

  left_refused : (at : ℕ) (rest : List A) → 0 < length rest → read m end at rest ≡ refused m.left at
  left_refused at [] h = absurd (omega arith)
  left_refused at (x ∷ s) h = refl

  given : (f : Format) (at : ℕ) (s : List A) (r place : ℕ) → Ok s → Ground m Good Fault f at s r place → read m f at s ≡ refused r place
  given f at s r place ok (at_field a) =
      rw (a.whole, a.stands) (past_front a.front at a.rest r (at + length (write m f a.values)) (rw a.whole at ok)
      λ fine. rw (bad.faults a.kind a.rest r fine a.fault))
  given f at s r place ok (left_over a) =
      rw (a.whole, a.stands, a.number) (past_front (all_front a.good) at a.rest m.left (at + length (write m f a.values)) (rw a.whole at ok)
      λ fine. left_refused (at + length (write m f a.values)) a.rest a.some)

  module _ (f : Format) (at : ℕ) (s : List A) (ok : Ok s) where
    -- "Each refusal is given then and not otherwise", with its place
    pub refused_ground : (r place : ℕ) → (read m f at s ≡ refused r place) ↔ Ground m Good Fault f at s r place
    refused_ground r place = (ground f at s r place ok, given f at s r place ok)

    pub accepted_written : (l : List Item) → (read m f at s ≡ accepted l) ↔ Written m Good f s l
    accepted_written l =
        (λ e. let p = write_read m Good Ok law f at s l ok e in record { good = p.0; whole = p.1 }, λ w. rw w.whole (read_write m Good Ok law w.good at))

    -- every input is written of conforming values, or has one ground
    pub one_judgement : OneJudgement (Written m Good f s) (Ground m Good Fault f at s)
    one_judgement = judged (read m f at s) accepted_written refused_ground

-- ---- the two media

-- a field that was judged and refused
stepped_stop : {A C : Type 0} (f : Result Item ℕ) (s : List A) (r : ℕ) → stepped f s ≡ stopped_with r → (f ≡ Err r → C) → C
stepped_stop (Ok i) s r e k = cc
stepped_stop (Err q) s r e k = let p : q ≡ r = cc in k (rw p)

-- bits

bits_stops : (k : Kind) (s : List Bool) (r : ℕ) → Unit {0} → take_bits k s ≡ stopped_with r → BitsFault k s r
bits_stops k s r ok e =
    let w = k.width in
    let v = number (take w s) in
    by_cases (ltb (length s) w)
    (λ d. let f : ◌≡◌ {A = FieldStep Bool} (stopped_with 6) (stopped_with r) = rw d at e in BitsFault.unfitting (ltb-true (length s) w d) (cc))
    λ d. stepped_stop (value_in_packet k v) (drop w s) r (rw d at e) λ p.
    by_cases (k.allowed v)
    (λ a. let f : Ok (record { sheet = k.raise v; packet = v }) ≡ Err r = rw a at p in cc)
    λ a.
    let f : Err (k.refusal v) ≡ Err r = rw a at p in
    let n : length (take w s) ≡ w = length-take-le w s (ltb-false (length s) w d) in
    let fits : v < 2 ^ w = rw n at (number_small (take w s)) in
    let bits : bits_of w v ≡ take w s = rw n at (bits_number (take w s)) in
    BitsFault.unallowed v (drop w s) fits (rw (bits, take-append-drop)) a (cc)

bits_faults : (k : Kind) (s : List Bool) (r : ℕ) → Unit {0} → BitsFault k s r → take_bits k s ≡ stopped_with r
bits_faults k s r ok (BitsFault.unfitting h e) = rw (e, lt-ltb (length s) k.width h)
bits_faults k s r ok (BitsFault.unallowed v more fits whole a e) =
    let w = k.width in
    let n : length (bits_of w v) ≡ w = length_bits w v in
    rw (
      e,
      whole,
      le-ltb (length (bits_of w v ++ more)) w (rw length-append (omega arith)),
      take_at (bits_of w v) more w n,
      number_bits w v,
      mod-eq_of_lt fits,
      a,
    )

pub bits_faulting : Faulting packet BitsFault (λ _. Unit {0})
bits_faulting = record { stops = bits_stops; faults = bits_faults }

-- groups

lowered_none : {C : Type 0} (k : Kind) (a : ℕ) (o : Option ℕ) (r : ℕ) → field_with k a o ≡ Err r → (o ≡ none → r ≡ k.refusal a → C) → C
lowered_none k a none r e f = f refl (cc)
lowered_none k a (some v) r e f = cc

groups_stops : (k : Kind) (s : List ℕ) (r : ℕ) → Bytes s → take_groups k s ≡ stopped_with r → GroupsFault k s r
groups_stops k s r ok e = go (number_in s) refl
  where
    go : (n : std.Option ℕ) → number_in s ≡ n → GroupsFault k s r
    go None d =
        let f : ◌≡◌ {A = FieldStep ℕ} (stopped_with 9) (stopped_with r) = rw d at e in
        GroupsFault.numberless (λ a b.
        let v : number_in s ≡ Some a = rw b.whole (number_again a b.more b.below) in
        cc) (cc)
    go (Some a) d =
        stepped_stop (number_in_sheet k a) (drop (length (groups_in a)) s) r (rw d at e) λ p.
        lowered_none k a (k.lower a) r p λ l q.
        let b = number_only s a ok d in
        GroupsFault.unallowed a (record { below = b.small; more = drop (length (groups_in a)) s; whole = b.bytes }) l q

groups_faults : (k : Kind) (s : List ℕ) (r : ℕ) → Bytes s → GroupsFault k s r → take_groups k s ≡ stopped_with r
groups_faults k s r ok (GroupsFault.numberless n e) = go (number_in s) refl
  where
    go : (n : std.Option ℕ) → number_in s ≡ n → take_groups k s ≡ stopped_with r
    go None d = rw (d, e)
    go (Some a) d =
        let b = number_only s a ok d in
        absurd (n a (record { below = b.small; more = drop (length (groups_in a)) s; whole = b.bytes }))
groups_faults k s r ok (GroupsFault.unallowed a b l e) =
    let d : number_in s ≡ Some a = rw b.whole (number_again a b.more b.below) in
    rw (d, l, e)

pub groups_faulting : Faulting sheet GroupsFault Bytes
groups_faulting = record { stops = groups_stops; faults = groups_faults }

-- ---- the theorems, for every format

pub packet_written : (f : Format) (at : ℕ) (s : List Bool) (l : List Item) → (read packet f at s ≡ accepted l) ↔ Written packet InPacket f s l
packet_written f at s l = accepted_written packet_lawful bits_faulting f at s tt l

pub packet_ground : (f : Format) (at : ℕ) (s : List Bool) (r place : ℕ) → (read packet f at s ≡ refused r place) ↔ Ground packet InPacket BitsFault f at s r place
packet_ground f at s r place = refused_ground packet_lawful bits_faulting f at s tt r place

pub sheet_ground : (f : Format) (at : ℕ) (s : List ℕ) (r place : ℕ) → Bytes s → (read sheet f at s ≡ refused r place) ↔ Ground sheet InSheet GroupsFault f at s r place
sheet_ground f at s r place ok = refused_ground sheet_lawful groups_faulting f at s ok r place

pub sheet_written : (f : Format) (at : ℕ) (s : List ℕ) (l : List Item) → Bytes s → (read sheet f at s ≡ accepted l) ↔ Written sheet InSheet f s l
sheet_written f at s l ok = accepted_written sheet_lawful groups_faulting f at s ok l
