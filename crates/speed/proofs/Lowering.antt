-- A packet gives back a segment's L_SP as it was and its elements lowered: along the segment's tree, element by element.
use mathlib.Core.List.{[]}
use mathlib.Core.Path.{◌≡◌, refl, sym, ap, ap₂, ◌∙◌}
use mathlib.Core.Bool.{Bool, true, false}
use mathlib.Core.List.{List, ◌∷◌, map}
use mathlib.Core.Option.{some}
use Prim.Native.Nat.{ℕ, zero, suc, ◌+◌, ◌-◌}
use native.Mathlib.Omega.{arith}
use lib.ListN.{drop, get_or}
use lib.Seq.{drop-drop, get_or-drop}
use Rattle.kinds.specs.declared.Item.{Item}
use Rattle.kinds.specs.Kind.{Kind, when, same}
use Rattle.kinds.specs.Kinds.{l_sp, class, n_iter}
use Rattle.kinds.specs.Tables.{cant_figures}
use Rattle.fields.proofs.Lawful.{speed_lowered}
use Rattle.fields.proofs.Lookup.{place_stands}
use Rattle.format.specs.Format.{Format, field, then, sheet_numbers}
use Rattle.format.specs.Conforming.{Conforming, also, InSheet, given_back}
use Rattle.grammar.specs.segment.Segment.{entries, profile, changes, part, lists, body, fields, sheet_fields, wire_changes}
use Rattle.speed.specs.Speed.{entries_of, after_entries, element_of, after_element, changes_from, elements_from, segment_length, profile_of, entry_in_fives, element_in_fives, Element}

-- a number that `when` lets through is unchanged
pub when_is : (b : Bool) (a v : ℕ) → when b a ≡ some v → v ≡ a
when_is true a v e = let q : a ≡ v = cc in sym q
when_is false a v e = absurd (let z : ◌≡◌ {A = ℕ} 0 1 = cc in omega arith)

pub same_is : {width largest : ℕ} {refusal : ℕ → ℕ} {ok : ℕ → Bool} (i : Item) → InSheet (same width largest refusal ok) i → i.packet ≡ i.sheet
same_is {ok = ok} i g = when_is (ok i.sheet) i.sheet i.packet g.lowered

class_is : (q : ℕ) (i : Item) → InSheet (class q) i → (class q).raise i.packet ≡ i.sheet
class_is zero i g = let z : i.packet - 0 ≡ i.packet = omega arith in rw z at (place_stands 0 cant_figures i.sheet i.packet g.lowered)
class_is (suc q) i g = same_is i g

-- values that conform to a field: the field's value, and the values after it
pub apart : {k : Kind} {next : ℕ → Format} (C : List Item → Type 0) (l : List Item) → Conforming InSheet (field k next) l
    → ((i : Item) (m : List Item) → InSheet k i → Conforming InSheet (next i.packet) m → C (i ∷ m)) → C l
apart {k = k} {next = next} C [] x' f = elim x' [ ]
apart C (i ∷ l) (also g c) f = f i l g c

-- ---- entries

pub record Entries (n : ℕ) (f : Format) (l : List Item) : Type 0 where
  pub rest : List Item
  pub good : Conforming InSheet f rest
  pub low : entries_of n (sheet_numbers (given_back (entries n f) l)) ≡ map entry_in_fives (entries_of n (sheet_numbers l))
  pub here : after_entries n (sheet_numbers l) ≡ sheet_numbers rest
  pub there : after_entries n (sheet_numbers (given_back (entries n f) l)) ≡ sheet_numbers (given_back f rest)

entries_lowered : (n : ℕ) (f : Format) (l : List Item) → Conforming InSheet (entries n f) l → Entries n f l
unfolding entries
entries_lowered zero f l c = record { rest = l; good = c; low = refl; here = refl; there = refl }
entries_lowered (suc n) f l c =
    apart (Entries (suc n) f) l c λ q l₁ gq c₁.
    apart (λ r. Entries (suc n) f (q ∷ r)) l₁ c₁ λ k l₂ gk c₂.
    apart (λ r. Entries (suc n) f (q ∷ k ∷ r)) l₂ c₂ λ v l₃ gv c₃.
    let m = entries_lowered n f l₃ c₃ in
    let eq : q.packet ≡ q.sheet = same_is q gq in
    let ek = class_is q.packet k gk in
    let ev = speed_lowered v.sheet v.packet gv.lowered in
    record {
      rest = m.rest;
      good = m.good;
      low = λ j. record { q_diff = eq j; class = ek j; v_diff = ev j } ∷ m.low j;
      here = m.here;
      there = m.there;
    }

-- ---- an element

pub record Elements (start : ℕ) (f : Format) (l : List Item) : Type 0 where
  pub rest : List Item
  pub good : Conforming InSheet f rest
  pub low : element_of start (sheet_numbers (given_back (profile f) l)) ≡ element_in_fives (element_of start (sheet_numbers l))
  pub here : after_element (sheet_numbers l) ≡ sheet_numbers rest
  pub there : after_element (sheet_numbers (given_back (profile f) l)) ≡ sheet_numbers (given_back f rest)

element_lowered : (start : ℕ) (f : Format) (l : List Item) → Conforming InSheet (profile f) l → Elements start f l
element_lowered start f l₀ c₀ =
    apart (Elements start f) l₀ c₀ λ v l₁ gv c₁.
    apart (λ r. Elements start f (v ∷ r)) l₁ c₁ λ q l₂ gq c₂.
    apart (λ r. Elements start f (v ∷ q ∷ r)) l₂ c₂ λ n l gn c.
    let m = entries_lowered n.packet f l c in
    let ev = speed_lowered v.sheet v.packet gv.lowered in
    let eq : q.packet ≡ q.sheet = same_is q gq in
    let en : n.packet ≡ n.sheet = same_is n gn in
    let es = m.low ∙ ap (λ (z : ℕ). map entry_in_fives (entries_of z (sheet_numbers l))) en in
    record {
      rest = m.rest;
      good = m.good;
      low = λ j. record { start = start; v_static = ev j; q_front = eq j; entries = es j };
      here = ap (λ (z : ℕ). after_entries z (sheet_numbers l)) (sym en) ∙ m.here;
      there = m.there;
    }

-- ---- the changes, and the profile

module _ (from lsp : ℕ) (f : Format) where
  changes_lowered : (n last : ℕ) (l : List Item) → Conforming InSheet (changes profile lsp last n f) l
      → changes_from from n (sheet_numbers (given_back (changes profile lsp last n f) l)) ≡ map element_in_fives (changes_from from n (sheet_numbers l))
  unfolding changes
  changes_lowered (suc n) last [] c = elim c [ ]
  changes_lowered zero last l c = refl
  changes_lowered (suc n) last (x ∷ l) (also gx c) =
      let ex : x.packet ≡ x.sheet = same_is x gx in
      let e = element_lowered (from + x.sheet) (changes profile lsp x.packet n f) l c in
      let there = sheet_numbers (given_back (profile (changes profile lsp x.packet n f)) l) in
      ap₂ (λ (p : Element) (r : List Element). p ∷ r) (ap (λ (z : ℕ). element_of (from + z) there) ex ∙ e.low)
      (ap (changes_from from n) e.there ∙ changes_lowered n x.packet e.rest e.good ∙ ap (λ (s : List ℕ). map element_in_fives (changes_from from n s)) (sym e.here))

  counted : (l : List Item) → Conforming InSheet (field (n_iter 31) λ n. changes profile lsp 0 n f) l
      → let low : List ℕ = sheet_numbers (given_back (field (n_iter 31) λ n. changes profile lsp 0 n f) l) in
      let s : List ℕ = sheet_numbers l in
      changes_from from (get_or low 0 0) (drop 1 low) ≡ map element_in_fives (changes_from from (get_or s 0 0) (drop 1 s))
  counted [] x' = elim x' [ ]
  counted (n ∷ l) (also gn c) =
      let en : n.packet ≡ n.sheet = same_is n gn in
      changes_lowered n.packet 0 l c ∙ ap (λ (z : ℕ). map element_in_fives (changes_from from z (sheet_numbers l))) en

  profile_lowered : (l : List Item) → Conforming InSheet (part profile 31 lsp f) l
      → elements_from from (sheet_numbers (given_back (part profile 31 lsp f) l)) ≡ map element_in_fives (elements_from from (sheet_numbers l))
  profile_lowered l c =
      let e = element_lowered (from + 0) (field (n_iter 31) λ n. changes profile lsp 0 n f) l c in
      let pick : List ℕ → List Element = λ s. changes_from from (get_or s 0 0) (drop 1 s) in
      ap₂ (λ (p : Element) (r : List Element). p ∷ r) e.low (ap pick e.there ∙ counted e.rest e.good ∙ ap (λ (s : List ℕ). map element_in_fives (pick s)) (sym e.here))

-- ---- the fields before the profile

-- the values of a tree after its first n, and after the first n as a packet gives them back
pub record Past (whole : Format) (l : List Item) (n : ℕ) (f : Format) : Type 0 where
  pub rest : List Item
  pub good : Conforming InSheet f rest
  pub here : drop n (sheet_numbers l) ≡ sheet_numbers rest
  pub there : drop n (sheet_numbers (given_back whole l)) ≡ sheet_numbers (given_back f rest)

one_on : (n : ℕ) (s : List ℕ) (a : ℕ) (m : List ℕ) → drop n s ≡ a ∷ m → drop (n + 1) s ≡ m
one_on n s a m e = sym (drop-drop 1 n s) ∙ ap (drop 1) e

module _ {whole : Format} {l : List Item} {n : ℕ} {k : Kind} where
  past_field : {next : ℕ → Format} {C : Type 0} → Past whole l n (field k next)
      → ((i : Item) → InSheet k i → get_or (drop n (sheet_numbers l)) 0 0 ≡ i.sheet → get_or (drop n (sheet_numbers (given_back whole l))) 0 0 ≡ k.raise i.packet
      → Past whole l (n + 1) (next i.packet) → C) → C
  past_field {next} {C} p f = go p.rest p.good p.here p.there
    where
      go : (r : List Item) → Conforming InSheet (field k next) r → drop n (sheet_numbers l) ≡ sheet_numbers r
          → drop n (sheet_numbers (given_back whole l)) ≡ sheet_numbers (given_back (field k next) r) → C
      go [] x3 here there = elim x3 [ ]
      go (i ∷ m) (also g c) here there =
          f i g (ap (λ (s : List ℕ). get_or s 0 0) here) (ap (λ (s : List ℕ). get_or s 0 0) there)
          (record {
            rest = m;
            good = c;
            here = one_on n (sheet_numbers l) i.sheet (sheet_numbers m) here;
            there = one_on n (sheet_numbers (given_back whole l)) (k.raise i.packet) (sheet_numbers (given_back (next i.packet) m)) there;
          })

  past : {f : Format} → Past whole l n (then k f) → Past whole l (n + 1) f
  past p = past_field p λ i g here there q. q

-- the values after the fields before the lists; L_SP's value is among those fields
pub at_lists : {C : Type 0} (l : List Item) → Conforming InSheet (sheet_fields wire_changes) l
    → (let low : List ℕ = sheet_numbers (given_back (sheet_fields wire_changes) l) in
    (i : Item) → InSheet l_sp i → get_or (drop 10 (sheet_numbers l)) 0 0 ≡ i.sheet → get_or (drop 10 low) 0 0 ≡ i.packet
    → Past (sheet_fields wire_changes) l 14 (lists wire_changes i.packet) → C) → C
unfolding sheet_fields fields body
at_lists l c k =
    let whole = sheet_fields wire_changes in
    let p : Past whole l 0 whole = record { rest = l; good = c; here = refl; there = refl } in
    past_field (past (past (past (past (past (past (past (past (past (past p)))))))))) λ i g here there q. k i g here there (past (past (past q)))

-- a packet gives back L_SP as it was and the elements lowered, wherever the segment starts
pub at_profile : {C : Type 0} (from : ℕ) (l : List Item) → Conforming InSheet (sheet_fields wire_changes) l
    → (let low : List ℕ = sheet_numbers (given_back (sheet_fields wire_changes) l) in
    segment_length low ≡ segment_length (sheet_numbers l) → elements_from from (profile_of low) ≡ map element_in_fives (elements_from from (profile_of (sheet_numbers l))) → C)
    → C
unfolding lists
at_profile from l c k =
    let whole = sheet_fields wire_changes in
    at_lists l c λ i g here there r.
    k (sym (get_or-drop 10 (sheet_numbers (given_back whole l)) 0 0) ∙ there ∙ same_is i g ∙ sym here ∙ get_or-drop 10 (sheet_numbers l) 0 0)
    (ap (elements_from from) r.there ∙ profile_lowered from i.packet _ r.rest r.good ∙ ap (λ (s : List ℕ). map element_in_fives (elements_from from s)) (sym r.here))

pub length_stays : (l : List Item) → Conforming InSheet (sheet_fields wire_changes) l
    → segment_length (sheet_numbers (given_back (sheet_fields wire_changes) l)) ≡ segment_length (sheet_numbers l)
length_stays l c = at_profile 0 l c λ same es. same
