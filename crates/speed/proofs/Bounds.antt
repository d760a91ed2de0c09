-- The profile's speed is at most 604 km/h: every speed of a sheet is, and the profile's speed is one of them.
use mathlib.Core.Path.{◌≡◌, refl}
use mathlib.Core.Bool.{Bool, true, false, cond, ◌&&◌}
use mathlib.Core.List.{List, [], ◌∷◌, ◌++◌}
use Prim.Native.Nat.{ℕ, zero, suc, ◌+◌, ◌≤◌, min}
use native.Mathlib.Omega.{arith}
use lib.Dec.{eqb}
use lib.ListN.{drop, get_or}
use Rattle.kinds.specs.declared.Item.{Item}
use Rattle.kinds.specs.Kinds.{speed, n_iter}
use Rattle.fields.proofs.Lawful.{speed_lawful}
use Rattle.format.specs.Format.{Format, field, sheet_numbers}
use Rattle.format.specs.Conforming.{Conforming, also, InSheet}
use Rattle.grammar.specs.segment.Segment.{entries, profile, changes, part, lists}
use Rattle.speed.specs.declared.Train.{Train}
use Rattle.speed.specs.Speed.{Entry, Element, belongs, is_not_above, not_above, greatest_figure, is_of, figure_speeds, cant_speeds, named_speeds, lowest, instead, element_speed, end_before, holds, held_speeds, entries_of, after_entries, element_of, after_element, changes_from, elements_from, segment_length, profile_of}
use Rattle.speed.specs.Run.{Each, numbers_of, run_elements, run_end, last_start, held_in_run, speed_in_run}
use Rattle.speed.proofs.Lowering.{same_is, apart, at_lists}
use Rattle.speed.proofs.Runs.{SheetValues}

-- ---- speeds of at most 604

abbrev Within : List ℕ → Type 0
Within [] = Unit {0}
Within (v ∷ l) = (v ≤ 604) × Within l

abbrev EntriesWithin : List Entry → Type 0
EntriesWithin [] = Unit {0}
EntriesWithin (e ∷ l) = (e.v_diff ≤ 604) × EntriesWithin l

abbrev ElementsWithin : List Element → Type 0
ElementsWithin [] = Unit {0}
ElementsWithin (e ∷ l) = (e.v_static ≤ 604) × EntriesWithin e.entries × ElementsWithin l

lowest_within : (v : ℕ) (l : List ℕ) → v ≤ 604 → lowest v l ≤ 604
lowest_within v [] h = h
lowest_within v (w ∷ l) h = lowest_within (min v w) l (omega arith)

instead_within : (v : ℕ) (l : List ℕ) → v ≤ 604 → Within l → instead v l ≤ 604
instead_within v [] h b = h
instead_within v (w ∷ l) h b = lowest_within w l b.0

-- a list of speeds with one more speed or without it is within 604
chosen_within : (b : Bool) (v : ℕ) (l : List ℕ) → v ≤ 604 → Within l → Within (cond b (v ∷ l) l)
chosen_within true v l h r = (h, r)
chosen_within false v l h r = r

named_within : (t : Train) (q : ℕ) (l : List Entry) → EntriesWithin l → Within (named_speeds t q l)
named_within t q [] b = tt
named_within t q (e ∷ l) b = chosen_within (eqb e.q_diff q && belongs t e.class) e.v_diff (named_speeds t q l) b.0 (named_within t q l b.1)

chosen_entries : (b : Bool) (e : Entry) (l : List Entry) → e.v_diff ≤ 604 → EntriesWithin l → EntriesWithin (cond b (e ∷ l) l)
chosen_entries true e l h r = (h, r)
chosen_entries false e l h r = r

above_within : (t : Train) (l : List Entry) → EntriesWithin l → EntriesWithin (not_above t l)
above_within t [] b = tt
above_within t (e ∷ l) b = chosen_entries (is_not_above t e) e (not_above t l) b.0 (above_within t l b.1)

figure_within : (figure : ℕ) (l : List Entry) → EntriesWithin l → Within (figure_speeds figure l)
figure_within figure [] b = tt
figure_within figure (e ∷ l) b = chosen_within (is_of figure e) e.v_diff (figure_speeds figure l) b.0 (figure_within figure l b.1)

cant_within : (t : Train) (l : List Entry) → EntriesWithin l → Within (cant_speeds t l)
cant_within t l b = figure_within (greatest_figure (not_above t l)) (not_above t l) (above_within t l b)

element_within : (t : Train) (e : Element) → e.v_static ≤ 604 → EntriesWithin e.entries → element_speed t e ≤ 604
element_within t e h b =
    let l = e.entries in
    let first = instead e.v_static (cant_speeds t l) in
    lowest_within (instead first (named_speeds t 1 l)) (named_speeds t 2 l)
    (instead_within first (named_speeds t 1 l) (instead_within e.v_static (cant_speeds t l) h (cant_within t l b)) (named_within t 1 l b))

held_within : (t : Train) (lsp x : ℕ) (l : List Element) → ElementsWithin l → Within (held_speeds t lsp x l)
held_within t lsp x [] b = tt
held_within t lsp x (e ∷ l) b = chosen_within (holds t e (end_before lsp l) x) (element_speed t e) (held_speeds t lsp x l) (element_within t e b.0 b.1) (held_within t lsp x l b.2)

-- ---- along the segment's tree

speed_within : (i : Item) → InSheet speed i → i.sheet ≤ 604
speed_within i g = speed_lawful.top i.sheet i.packet g.lowered

-- a part of a sheet's values of which `Fine` is true, and the values after it
pub record Part (Fine : Type 0) (f : Format) (after : List ℕ) : Type 0 where
  pub fine : Fine
  pub rest : List Item
  pub good : Conforming InSheet f rest
  pub there : after ≡ sheet_numbers rest

abbrev EntriesPart : ℕ → Format → List Item → Type 0
EntriesPart n f l = Part (EntriesWithin (entries_of n (sheet_numbers l))) f (after_entries n (sheet_numbers l))

entries_within : (n : ℕ) (f : Format) (l : List Item) → Conforming InSheet (entries n f) l → EntriesPart n f l
unfolding entries
entries_within zero f l c = record { fine = tt; rest = l; good = c; there = refl }
entries_within (suc n) f l c =
    apart (EntriesPart (suc n) f) l c λ q l₁ gq c₁.
    apart (λ r. EntriesPart (suc n) f (q ∷ r)) l₁ c₁ λ k l₂ gk c₂.
    apart (λ r. EntriesPart (suc n) f (q ∷ k ∷ r)) l₂ c₂ λ v l₃ gv c₃.
    let p = entries_within n f l₃ c₃ in
    record { fine = (speed_within v gv, p.fine); rest = p.rest; good = p.good; there = p.there }

abbrev ElementWithin : Element → Type 0
ElementWithin e = (e.v_static ≤ 604) × EntriesWithin e.entries

abbrev ElementPart : ℕ → Format → List Item → Type 0
ElementPart start f l = Part (ElementWithin (element_of start (sheet_numbers l))) f (after_element (sheet_numbers l))

profile_within : (start : ℕ) (f : Format) (l : List Item) → Conforming InSheet (profile f) l → ElementPart start f l
profile_within start f l c =
    apart (ElementPart start f) l c λ v l₁ gv c₁.
    apart (λ r. ElementPart start f (v ∷ r)) l₁ c₁ λ q l₂ gq c₂.
    apart (λ r. ElementPart start f (v ∷ q ∷ r)) l₂ c₂ λ n l₃ gn c₃.
    let p : EntriesPart n.sheet f l₃ = rw (same_is n gn) at (entries_within n.packet f l₃ c₃) in
    record { fine = (speed_within v gv, p.fine); rest = p.rest; good = p.good; there = p.there }

-- ---- the changes, and the whole

module _ (from lsp : ℕ) (f : Format) where
  changes_within : (n last : ℕ) (l : List Item) → Conforming InSheet (changes profile lsp last n f) l → ElementsWithin (changes_from from n (sheet_numbers l))
  unfolding changes
  changes_within zero last l c = tt
  changes_within (suc n) last [] c = elim c [ ]
  changes_within (suc n) last (x ∷ l) (also gx c) =
      let e = profile_within (from + x.sheet) (changes profile lsp x.packet n f) l c in
      (e.fine.0, e.fine.1, rw e.there (changes_within n x.packet e.rest e.good))

  counted_within : (l : List Item) → Conforming InSheet (field (n_iter 31) λ n. changes profile lsp 0 n f) l
      → ElementsWithin (changes_from from (get_or (sheet_numbers l) 0 0) (drop 1 (sheet_numbers l)))
  counted_within [] x' = elim x' [ ]
  counted_within (n ∷ l) (also gn c) = rw (same_is n gn) at (changes_within n.packet 0 l c)

  elements_within : (l : List Item) → Conforming InSheet (part profile 31 lsp f) l → ElementsWithin (elements_from from (sheet_numbers l))
  elements_within l c =
      let e = profile_within (from + 0) (field (n_iter 31) λ n. changes profile lsp 0 n f) l c in
      (e.fine.0, e.fine.1, rw e.there (counted_within e.rest e.good))

-- the elements of two lists, one after the other
both_within : (l m : List Element) → ElementsWithin l → ElementsWithin m → ElementsWithin (l ++ m)
both_within [] m a b = b
both_within (e ∷ l) m a b = (a.0, a.1, both_within l m a.2 b)

run_within : (from : ℕ) (r : List (List Item)) → Each SheetValues r → ElementsWithin (run_elements from (numbers_of r))
unfolding lists
run_within from [] c = tt
run_within from (l ∷ r) c =
    at_lists l c.0 λ i g here there p.
    both_within (elements_from from (profile_of (sheet_numbers l))) (run_elements (from + segment_length (sheet_numbers l)) (numbers_of r))
    (rw p.here (elements_within from i.packet _ p.rest p.good)) (run_within (from + segment_length (sheet_numbers l)) r c.1)

-- "km/h, 0 to 604"
pub speed_most : (t : Train) (x : ℕ) (r : List (List Item)) → Each SheetValues r → speed_in_run t x (numbers_of r) ≤ 604
speed_most t x r c =
    let n = numbers_of r in
    instead_within 0 (held_in_run t x n) (omega arith) (held_within t (run_end 0 n) (last_start 0 n + x) (run_elements 0 n) (run_within 0 r c))
