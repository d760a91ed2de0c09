-- Keys that rise stay rising; the key of an accepted sheet is in range.
use mathlib.Core.Path.{◌≡◌, refl, ◌∙◌, subst}
use mathlib.Core.Bool.{true}
use mathlib.Core.List.{List, [], ◌∷◌}
use mathlib.Core.Option.{none, some}
use Prim.Native.Nat.{ℕ, ◌+◌, ◌≤◌}
use native.Mathlib.Omega.{arith}
use borrow.Author.Tests.{ltb-true, ltb-false, lt-ltb}
use lib.Dec.{lit<}
use Rattle.bits.specs.Bits.{Bytes}
use Rattle.bits.proofs.Tests.{by_cases, and_left, and_right}
use Rattle.kinds.specs.declared.Item.{Item}
use Rattle.kinds.specs.Kind.{Kind}
use Rattle.fields.proofs.Lawful.{narrow, up_to_lawful}
use Rattle.format.specs.Format.{Format, field, Read, accepted, refused}
use Rattle.format.specs.Conforming.{Conforming, also, InSheet}
use Rattle.format.proofs.Media.{sheet_only}
use Rattle.grammar.specs.segment.Segment.{body, fields, sheet_fields, wire_changes}
use Rattle.grammar.specs.segment.Judgement.{from_sheet}
use Rattle.shelf.specs.declared.Key.{Key}
use Rattle.shelf.specs.Book.{same_key, key_number, below, Kept, lookup, without, placed_in, put, rising, Each}
use Rattle.shelf.specs.internal.Scanning.{InRange}
use Rattle.shelf.specs.Shelf.{key_of, key_read, sheet_key}
use Rattle.shelf.proofs.Book.{same_refl, lookup_without, not_first, not_later, each_without}

-- ---- one number for each key

pub number_is : (j k : Key) → InRange j → InRange k → key_number j ≡ key_number k → j ≡ k
number_is j k a b e =
    let c = a.segment in let d = b.segment in let f = a.first in let g = b.first in let h = a.second in let l = b.second in
    let p : j.nid_c ≡ k.nid_c = omega arith in
    let q : j.nid_sp ≡ k.nid_sp = omega arith in
    let r : j.major ≡ k.major = omega arith in
    let s : j.minor ≡ k.minor = omega arith in
    λ i. record { nid_c = p i; nid_sp = q i; major = r i; minor = s i }

-- ---- rising keys

-- all from this number on, and rising
abbrev From : ℕ → List Kept → Type 0
From m [] = Unit {0}
From m (e ∷ b) = (m ≤ key_number e.key) × From (key_number e.key + 1) b

from_less : (m n : ℕ) (b : List Kept) → n ≤ m → From m b → From n b
from_less m n [] h c = tt
from_less m n (e ∷ b) h c = let l = c.0 in (omega arith, c.1)

rising_from : (e : Kept) (b : List Kept) → rising (e ∷ b) ≡ true → From (key_number e.key) (e ∷ b)
rising_from e [] r = (omega arith, tt)
rising_from e (f ∷ b) r =
    let h = ltb-true (key_number e.key) (key_number f.key) (and_left (below e.key f.key) (rising (f ∷ b)) r) in
    (omega arith, from_less (key_number f.key) (key_number e.key + 1) (f ∷ b) (omega arith) (rising_from f b (and_right (below e.key f.key) (rising (f ∷ b)) r)))

pub rising_all : (b : List Kept) → rising b ≡ true → From 0 b
rising_all [] r = tt
rising_all (e ∷ b) r = from_less (key_number e.key) 0 (e ∷ b) (omega arith) (rising_from e b r)

from_rising : (m : ℕ) (b : List Kept) → From m b → rising b ≡ true
from_rising m [] c = refl
from_rising m (e ∷ []) c = refl
from_rising m (e ∷ f ∷ b) c =
    let h = c.1.0 in
    rw (lt-ltb (key_number e.key) (key_number f.key) (omega arith)) (from_rising (key_number e.key + 1) (f ∷ b) c.1)

from_without : (k : Key) (m : ℕ) (b : List Kept) → From m b → From m (without k b)
from_without k m [] c = tt
from_without k m (e ∷ b) c =
    let l = c.0 in
    by_cases (same_key e.key k)
    (λ q. rw q (from_less (key_number e.key + 1) m (without k b) (omega arith) (from_without k (key_number e.key + 1) b c.1)))
    (λ q. rw q (l, from_without k (key_number e.key + 1) b c.1))

pub without_rising : (k : Key) (b : List Kept) → rising b ≡ true → rising (without k b) ≡ true
without_rising k b r = from_rising 0 (without k b) (from_without k 0 b (rising_all b r))

abbrev pub Ranged : Kept → Type 0
Ranged e = InRange e.key

from_placed : (n : Kept) (m : ℕ) (b : List Kept) → Ranged n → Each Ranged b → From m b → m ≤ key_number n.key → lookup n.key b ≡ none → From m (placed_in n b)
from_placed n m [] g c f h z = (h, tt)
from_placed n m (e ∷ b) g c f h z =
    let l = f.0 in
    by_cases (below n.key e.key)
    (λ q. let u = ltb-true (key_number n.key) (key_number e.key) q in rw q (h, (omega arith, f.1)))
    (λ q. let u = ltb-false (key_number n.key) (key_number e.key) q in
    let apart : key_number e.key ≡ key_number n.key → ⊥ = λ i.
    let j = number_is e.key n.key c.0 g i in
    let y : same_key e.key n.key ≡ true = subst (λ (k : Key). same_key e.key k ≡ true) j (same_refl e.key) in
    let x = not_first n.key e b z in
    let w : ◌≡◌ {A = ℕ} 0 1 = cc in
    omega arith in
    rw q (l, from_placed n (key_number e.key + 1) b g c.1 f.1 (omega arith) (not_later n.key e b z)))

-- rising keys stay rising
pub put_rising : (n : Kept) (b : List Kept) → Ranged n → Each Ranged b → rising b ≡ true → rising (put n b) ≡ true
put_rising n b g c r =
    let k = n.key in
    from_rising 0 (put n b)
    (from_placed n 0 (without k b) g (each_without Ranged k b c) (from_without k 0 b (rising_all b r)) (omega arith) (lookup_without k k b ∙ rw (same_refl k)))

-- ---- the key of an accepted sheet

opened : {C : Type 0} {k : Kind} {next : ℕ → Format} {l : List Item} → Conforming InSheet (field k next) l
    → ((i : Item) (t : List Item) → l ≡ i ∷ t → InSheet k i → Conforming InSheet (next i.packet) t → C) → C
opened (also {i = i} {l = l} g c) f = f i l refl g c

pub key_in_range : (l : List Item) → Conforming InSheet (sheet_fields wire_changes) l → InRange (key_of l)
unfolding sheet_fields fields body
key_in_range l c =
    opened c λ number l1 p1 g1 c1. opened c1 λ operational l2 p2 g2 c2. opened c2 λ engine l3 p3 g3 c3.
    opened c3 λ date l4 p4 g4 c4. opened c4 λ seconds l5 p5 g5 c5. opened c5 λ counter l6 p6 g6 c6.
    opened c6 λ country l7 p7 g7 c7. opened c7 λ segment l8 p8 g8 c8. opened c8 λ major l9 p9 g9 c9.
    opened c9 λ minor l10 p10 g10 c10.
    let a = (up_to_lawful 10 1023 (narrow tt) (lit< tt)).top country.sheet country.packet g7.lowered in
    let b = (up_to_lawful 32 4294967295 (narrow tt) (lit< tt)).top segment.sheet segment.packet g8.lowered in
    let d = (up_to_lawful 8 255 (narrow tt) (lit< tt)).top major.sheet major.packet g9.lowered in
    let e = (up_to_lawful 8 255 (narrow tt) (lit< tt)).top minor.sheet minor.packet g10.lowered in
    rw (p1, p2, p3, p4, p5, p6, p7, p8, p9, p10) (record { country = omega arith; segment = omega arith; first = omega arith; second = omega arith })

pub accepted_in_range : (s : List ℕ) (k : Key) → Bytes s → sheet_key s ≡ some k → InRange k
unfolding sheet_key from_sheet
accepted_in_range s k ok e = go (from_sheet wire_changes s) refl e
  where
    go : (r : Read) → from_sheet wire_changes s ≡ r → key_read r ≡ some k → InRange k
    go (refused q place) d f = absurd (let z : ◌≡◌ {A = ℕ} 0 1 = cc in omega arith)
    go (accepted l) d f =
        let i : key_of l ≡ k = cc in
        subst InRange i (key_in_range l (sheet_only (sheet_fields wire_changes) 0 s l ok d).0)
