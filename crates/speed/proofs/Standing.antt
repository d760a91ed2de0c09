-- The elements of the speed rules stand where the tree has their fields, and no other elements do.
use mathlib.Core.Path.{◌≡◌, refl, sym, ap, ap₂, ◌∙◌, subst}
use mathlib.Core.Bool.{Bool, true, false, ◌&&◌}
use mathlib.Core.List.{List, [], ◌∷◌, ◌++◌, append_assoc}
use mathlib.Core.Option.{some}
use Prim.Native.Nat.{ℕ, zero, suc, ◌+◌, ◌≤◌}
use native.Mathlib.Omega.{arith}
use borrow.Author.Tests.{ltb-true}
use lib.Dec.{ltb}
use lib.ListN.{drop, get_or}
use Rattle.bits.proofs.Tests.{and_right}
use Rattle.kinds.specs.declared.Item.{Item}
use Rattle.kinds.specs.Kind.{Kind, when}
use Rattle.kinds.specs.Kinds.{l_sp, n_iter, d_location}
use Rattle.format.specs.Format.{Format, field, sheet_numbers}
use Rattle.format.specs.Conforming.{Conforming, also, InPacket, InSheet}
use Rattle.format.specs.Grounds.{Front, here, past}
use Rattle.grammar.specs.segment.Segment.{entries, profile, changes, part, lists, body, fields, sheet_fields, wire_changes}
use Rattle.speed.specs.Speed.{Entry, Element, entries_of, after_entries, element_of, after_element, changes_from, elements_from, segment_length, profile_of}
use Rattle.speed.proofs.Lowering.{same_is}
use Rattle.speed.proofs.Runs.{StartsTo}
use Rattle.speed.specs.Standing.{EntriesStand, ElementStands, ChangesStand, ProfileStands, SegmentStands}

-- a count is one number in both media, and so is a length
module _ (Good : Kind → Item → Type 0) (count : (i : Item) → Good (n_iter 31) i → i.packet ≡ i.sheet) where
  apart : {k : Kind} {next : ℕ → Format} (C : List Item → Type 0) (l : List Item) → Conforming Good (field k next) l
      → ((i : Item) (m : List Item) → Good k i → Conforming Good (next i.packet) m → C (i ∷ m)) → C l
  apart {k = k} {next = next} C [] x' f = elim x' [ ]
  apart C (i ∷ l) (also g c) f = f i l g c

  -- ---- they stand there

  -- something that stands in front, and the values that follow it
  pub record Stood (Stands : List Item → Type 0) (f : Format) (after : List ℕ) : Type 0 where
    pub follow : List Item
    pub good : Conforming Good f follow
    pub stands : Stands follow
    pub numbers : after ≡ sheet_numbers follow

  abbrev EntriesStood : ℕ → Format → List Item → Type 0
  EntriesStood n f l = Stood (λ m. EntriesStand Good m n l (entries_of n (sheet_numbers l))) f (after_entries n (sheet_numbers l))

  entries_stand : (n : ℕ) (f : Format) (l : List Item) → Conforming Good (entries n f) l → EntriesStood n f l
  unfolding entries
  entries_stand zero f l c = record { follow = l; good = c; stands = EntriesStand.none; numbers = refl }
  entries_stand (suc n) f l c =
      apart (EntriesStood (suc n) f) l c λ q l₁ gq c₁.
      apart (λ r. EntriesStood (suc n) f (q ∷ r)) l₁ c₁ λ k l₂ gk c₂.
      apart (λ r. EntriesStood (suc n) f (q ∷ k ∷ r)) l₂ c₂ λ v l₃ gv c₃.
      let p = entries_stand n f l₃ c₃ in
      record { follow = p.follow; good = p.good; stands = EntriesStand.entry q k v gq gk gv p.stands; numbers = p.numbers }

  abbrev ElementStood : ℕ → Format → List Item → Type 0
  ElementStood start f l = Stood (λ m. ElementStands Good m start l (element_of start (sheet_numbers l))) f (after_element (sheet_numbers l))

  element_stands : (start : ℕ) (f : Format) (l : List Item) → Conforming Good (profile f) l → ElementStood start f l
  element_stands start f l c =
      apart (ElementStood start f) l c λ v l₁ gv c₁.
      apart (λ r. ElementStood start f (v ∷ r)) l₁ c₁ λ q l₂ gq c₂.
      apart (λ r. ElementStood start f (v ∷ q ∷ r)) l₂ c₂ λ n l₃ gn c₃.
      let p = entries_stand n.packet f l₃ c₃ in
      let e = count n gn in
      record {
        follow = p.follow;
        good = p.good;
        stands = ElementStands.element v q n gv gq gn (subst (λ (k : ℕ). EntriesStand Good p.follow n.packet l₃ (entries_of k (sheet_numbers l₃))) e p.stands);
        numbers = subst (λ (k : ℕ). after_entries k (sheet_numbers l₃) ≡ sheet_numbers p.follow) e p.numbers;
      }

  module _ (from lsp : ℕ) (f : Format) where
    abbrev ChangesStood : ℕ → ℕ → List Item → Type 0
    ChangesStood n last l = (m : List Item) × ChangesStand Good m from lsp n last l (changes_from from n (sheet_numbers l)) × Conforming Good f m

    changes_stand : (n last : ℕ) (l : List Item) → Conforming Good (changes profile lsp last n f) l → ChangesStood n last l
    unfolding changes
    changes_stand zero last l c = (l, ChangesStand.none, c)
    changes_stand (suc n) last [] c = elim c [ ]
    changes_stand (suc n) last (x ∷ l) (also gx c) =
        let e = element_stands (from + x.sheet) (changes profile lsp x.packet n f) l c in
        let r = changes_stand n x.packet e.follow e.good in
        (r.0, rw e.numbers (ChangesStand.change x gx e.stands r.1), r.2)

    pub profile_stands : (l : List Item) → Conforming Good (part profile 31 lsp f) l
        → (m : List Item) × ProfileStands Good m from lsp l (elements_from from (sheet_numbers l)) × Conforming Good f m
    profile_stands l c =
        let e = element_stands (from + 0) (field (n_iter 31) λ n. changes profile lsp 0 n f) l c in
        go e.follow e.good e.stands e.numbers
      where
        go : (k : List Item) → Conforming Good (field (n_iter 31) λ n. changes profile lsp 0 n f) k → ElementStands Good k (from + 0) l (element_of (from + 0) (sheet_numbers l))
            → after_element (sheet_numbers l) ≡ sheet_numbers k → (m : List Item) × ProfileStands Good m from lsp l (elements_from from (sheet_numbers l)) × Conforming Good f m
        go [] x3 e q = elim x3 [ ]
        go (n ∷ k) (also gn c) e q =
            let r = changes_stand n.packet 0 k c in
            let counted = subst (λ (z : ℕ). ChangesStand Good r.0 from lsp n.packet 0 k (changes_from from z (sheet_numbers k))) (count n gn) r.1 in (
              r.0,
              subst (λ (s : List ℕ). ProfileStands Good r.0 from lsp l (element_of (from + 0) (sheet_numbers l) ∷ changes_from from (get_or s 0 0) (drop 1 s))) (sym q)
                  (ProfileStands.counted n e gn counted),
              r.2,
            )

  -- ---- and no others do

  entries_only : (follow : List Item) (n : ℕ) (l : List Item) (es : List Entry) → EntriesStand Good follow n l es → (es ≡ entries_of n (sheet_numbers l)) × (after_entries n (sheet_numbers l) ≡ sheet_numbers follow)
  entries_only follow n l es EntriesStand.none = (refl, refl)
  entries_only follow n l es (EntriesStand.entry {n = k} {l = m} {es = fs} q c v gq gc gv r) =
      let p = entries_only follow k m fs r in
      (ap (λ (z : List Entry). record { q_diff = q.sheet; class = c.sheet; v_diff = v.sheet } ∷ z) p.0, p.1)

  element_only : (start : ℕ) (follow l : List Item) (e : Element) → ElementStands Good follow start l e
      → (e ≡ element_of start (sheet_numbers l)) × (after_element (sheet_numbers l) ≡ sheet_numbers follow)
  element_only start follow l e (ElementStands.element {l = m} {es = es} v f n gv gf gn r) =
      let p = entries_only follow n.packet m es r in
      let q = count n gn in
      let s = sheet_numbers m in
      let i : es ≡ entries_of n.sheet s = p.0 ∙ ap (λ (k : ℕ). entries_of k s) q in
      (ap (λ (z : List Entry). record { start = start; v_static = v.sheet; q_front = f.sheet; entries = z }) i, ap (λ (k : ℕ). after_entries k s) (sym q) ∙ p.1)

  changes_only : (from lsp : ℕ) (follow : List Item) (n last : ℕ) (l : List Item) (es : List Element) → ChangesStand Good follow from lsp n last l es → es ≡ changes_from from n (sheet_numbers l)
  changes_only from lsp follow n last l es ChangesStand.none = refl
  changes_only from lsp follow n last l es (ChangesStand.change {n = k} {l = a} {m = b} {e = e} {es = fs} x gx r rest) =
      let p = element_only (from + x.sheet) b a e r in
      let q = changes_only from lsp follow k x.packet b fs rest in
      ap₂ (λ (g : Element) (z : List Element). g ∷ z) p.0 (q ∙ ap (changes_from from k) (sym p.1))

  pub profile_only : (from lsp : ℕ) (follow l : List Item) (es : List Element) → ProfileStands Good follow from lsp l es → es ≡ elements_from from (sheet_numbers l)
  profile_only from lsp follow l es (ProfileStands.counted {l = a} {m = b} {e = e} {es = fs} n r gn rest) =
      let p = element_only (from + 0) (n ∷ b) a e r in
      let q = changes_only from lsp follow n.packet 0 b fs rest in
      let pick : List ℕ → List Element = λ s. changes_from from (get_or s 0 0) (drop 1 s) in
      ap₂ (λ (g : Element) (z : List Element). g ∷ z) p.0 (q ∙ ap (λ (k : ℕ). changes_from from k (sheet_numbers b)) (count n gn) ∙ ap pick (sym p.1))

  -- ---- and they are the values of the tree's fields: what stands conforms to the front of the tree

  entries_front : (follow : List Item) (n : ℕ) (f : Format) (l : List Item) (es : List Entry) → EntriesStand Good follow n l es
      → (m : List Item) × (l ≡ m ++ follow) × Front Good (entries n f) m f
  unfolding entries
  entries_front follow n f l es EntriesStand.none = ([], refl, here)
  entries_front follow n f l es (EntriesStand.entry {n = k} {l = m} {es = fs} q c v gq gc gv r) =
      let p = entries_front follow k f m fs r in
      (q ∷ c ∷ v ∷ p.0, ap (λ (z : List Item). q ∷ c ∷ v ∷ z) p.1, past gq (past gc (past gv p.2)))

  front_on : {f g h : Format} {a b : List Item} → Front Good f a g → Front Good g b h → Front Good f (a ++ b) h
  front_on here q = q
  front_on (past g p) q = past g (front_on p q)

  element_front : (start : ℕ) (f : Format) (follow l : List Item) (e : Element) → ElementStands Good follow start l e
      → (m : List Item) × (l ≡ m ++ follow) × Front Good (profile f) m f
  element_front start f follow l e (ElementStands.element {l = m} {es = es} v q n gv gq gn r) =
      let p = entries_front follow n.packet f m es r in
      (v ∷ q ∷ n ∷ p.0, ap (λ (z : List Item). v ∷ q ∷ n ∷ z) p.1, past gv (past gq (past gn p.2)))

  changes_front : (from lsp : ℕ) (follow : List Item) (n last : ℕ) (f : Format) (l : List Item) (es : List Element) → ChangesStand Good follow from lsp n last l es
      → (m : List Item) × (l ≡ m ++ follow) × Front Good (changes profile lsp last n f) m f
  unfolding changes
  changes_front from lsp follow n last f l es ChangesStand.none = ([], refl, here)
  changes_front from lsp follow n last f l es (ChangesStand.change {n = k} {l = a} {m = b} {e = e} {es = fs} x gx r rest) =
      let p = element_front (from + x.sheet) (changes profile lsp x.packet k f) b a e r in
      let q = changes_front from lsp follow k x.packet f b fs rest in (
        x ∷ (p.0 ++ q.0),
        ap (λ (z : List Item). x ∷ z) (p.1 ∙ ap (λ (z : List Item). p.0 ++ z) q.1 ∙ sym (append_assoc p.0 q.0 follow)),
        past gx (front_on p.2 q.2),
      )

  pub profile_front : (from lsp : ℕ) (f : Format) (follow l : List Item) (es : List Element) → ProfileStands Good follow from lsp l es
      → (m : List Item) × (l ≡ m ++ follow) × Front Good (part profile 31 lsp f) m f
  profile_front from lsp f follow l es (ProfileStands.counted {l = a} {m = b} {e = e} {es = fs} n r gn rest) =
      let p = element_front (from + 0) (field (n_iter 31) λ n. changes profile lsp 0 n f) (n ∷ b) a e r in
      let q = changes_front from lsp follow n.packet 0 f b fs rest in (
        p.0 ++ n ∷ q.0,
        p.1 ∙ ap (λ (z : List Item). p.0 ++ n ∷ z) q.1 ∙ sym (append_assoc p.0 (n ∷ q.0) follow),
        front_on p.2 (past gn q.2),
      )

  -- ---- a segment's values

  opened : {C : Type 0} {k : Kind} {next : ℕ → Format} {l : List Item} → Conforming Good (field k next) l
      → ((i : Item) (t : List Item) → l ≡ i ∷ t → Good k i → Conforming Good (next i.packet) t → C) → C
  opened (also {i = i} {l = l} g c) f = f i l refl g c

  pub segment_stands : (from : ℕ) (l : List Item) → Conforming Good (sheet_fields wire_changes) l → SegmentStands Good from l (elements_from from (profile_of (sheet_numbers l)))
  unfolding lists body fields sheet_fields
  segment_stands from l c =
      opened c λ number l1 p1 g1 c1. opened c1 λ operational l2 p2 g2 c2. opened c2 λ engine l3 p3 g3 c3.
      opened c3 λ date l4 p4 g4 c4. opened c4 λ seconds l5 p5 g5 c5. opened c5 λ counter l6 p6 g6 c6.
      opened c6 λ country l7 p7 g7 c7. opened c7 λ identity l8 p8 g8 c8. opened c8 λ major l9 p9 g9 c9.
      opened c9 λ minor l10 p10 g10 c10. opened c10 λ length l11 p11 g11 c11. opened c11 λ offset l12 p12 g12 c12.
      opened c12 λ clock l13 p13 g13 c13. opened c13 λ altitude l14 p14 g14 c14.
      let r = profile_stands from length.packet _ l14 c14 in
      rw (p1, p2, p3, p4, p5, p6, p7, p8, p9, p10, p11, p12, p13, p14) (record {
        number = number;
        operational = operational;
        engine = engine;
        date = date;
        seconds = seconds;
        counter = counter;
        country = country;
        identity = identity;
        major = major;
        minor = minor;
        length = length;
        offset = offset;
        clock = clock;
        altitude = altitude;
        values = l14;
        follow = r.0;
        split = refl;
        front = past g1 (past g2 (past g3 (past g4 (past g5 (past g6 (past g7 (past g8 (past g9 (past g10 (past g11 (past g12 (past g13 (past g14 here)))))))))))));
        long = g11;
        elements = r.1;
      })

  -- L_SP and the elements are those that the numbers give by their order
  pub segment_only : (from : ℕ) (l : List Item) (es : List Element) (w : SegmentStands Good from l es)
      → (w.length.sheet ≡ segment_length (sheet_numbers l)) × (es ≡ elements_from from (profile_of (sheet_numbers l)))
  segment_only from l es w = rw w.split (refl, profile_only from w.length.packet w.follow w.values es w.elements)

  -- ---- no element starts past L_SP

  module _ (location : (last lsp : ℕ) (i : Item) → Good (d_location last lsp) i → i.sheet ≤ lsp) where
    element_start : {follow l : List Item} {start : ℕ} {e : Element} → ElementStands Good follow start l e → e.start ≡ start
    element_start (ElementStands.element v f n gv gf gn r) = refl

    changes_start : {lsp : ℕ} {follow l : List Item} {n last : ℕ} {es : List Element} → ChangesStand Good follow 0 lsp n last l es → StartsTo lsp es
    changes_start ChangesStand.none = tt
    changes_start {lsp = lsp} {last = last} (ChangesStand.change x gx e rest) = (omega (arith, element_start e, location last lsp x gx), changes_start rest)

    profile_start : {follow l : List Item} {lsp : ℕ} {es : List Element} → ProfileStands Good follow 0 lsp l es → StartsTo lsp es
    profile_start (ProfileStands.counted n e gn rest) = (omega (arith, element_start e), changes_start rest)

    segment_starts : ((i : Item) → Good l_sp i → i.packet ≡ i.sheet) → (l : List Item) → Conforming Good (sheet_fields wire_changes) l
        → StartsTo (segment_length (sheet_numbers l)) (elements_from 0 (profile_of (sheet_numbers l)))
    segment_starts whole l c =
        let w = segment_stands 0 l c in
        let o = segment_only 0 l _ w in
        subst (λ (n : ℕ). StartsTo n (elements_from 0 (profile_of (sheet_numbers l)))) (whole w.length w.long ∙ o.0) (profile_start w.elements)

-- a count is one number in both media
pub packet_count : (i : Item) → InPacket (n_iter 31) i → i.packet ≡ i.sheet
packet_count i g = sym g.raised

pub sheet_count : (i : Item) → InSheet (n_iter 31) i → i.packet ≡ i.sheet
sheet_count i g = same_is i g

-- "does not rise, is 0, or is at or past L_SP": a change's location is below L_SP
below : (last lsp x : ℕ) → (ltb last x && ltb x lsp) ≡ true → x ≤ lsp
below last lsp x e = omega (arith, ltb-true x lsp (and_right (ltb last x) (ltb x lsp) e))

packet_location : (last lsp : ℕ) (i : Item) → InPacket (d_location last lsp) i → i.sheet ≤ lsp
packet_location last lsp i g = omega (arith, below last lsp i.packet g.allowed, g.raised)

when_only : (b : Bool) (a v : ℕ) → when b a ≡ some v → b ≡ true
when_only true a v e = refl
when_only false a v e = absurd (let z : ◌≡◌ {A = ℕ} 0 1 = cc in omega arith)

sheet_location : (last lsp : ℕ) (i : Item) → InSheet (d_location last lsp) i → i.sheet ≤ lsp
sheet_location last lsp i g = below last lsp i.sheet (when_only (ltb last i.sheet && ltb i.sheet lsp) i.sheet i.packet g.lowered)

pub packet_starts : (l : List Item) → Conforming InPacket (sheet_fields wire_changes) l → StartsTo (segment_length (sheet_numbers l)) (elements_from 0 (profile_of (sheet_numbers l)))
packet_starts l c = segment_starts InPacket packet_count packet_location (λ i g. sym g.raised) l c

pub sheet_starts : (l : List Item) → Conforming InSheet (sheet_fields wire_changes) l → StartsTo (segment_length (sheet_numbers l)) (elements_from 0 (profile_of (sheet_numbers l)))
sheet_starts l c = segment_starts InSheet sheet_count sheet_location (λ i g. same_is i g) l c
