-- The parts of an accepted speed profile in any medium: field after field, entry after entry, element after element.
use mathlib.Core.Path.{◌≡◌, refl, sym, ap, ◌∙◌, subst}
use mathlib.Core.Bool.{Bool, true, false, cond, ◌&&◌}
use mathlib.Core.List.{List, [], ◌∷◌, ◌++◌}
use Prim.Native.Nat.{ℕ, zero, suc, ◌+◌, ◌-◌, ◌≤◌, ◌<◌, min}
use native.Mathlib.Omega.{arith}
use borrow.Author.Tests.{leb-true, le-leb, ltb-true, lt-ltb}
use lib.Dec.{leb, ltb, lit<}
use lib.ListN.{drop, get_or}
use lib.Seq.{drop-drop, get_or-drop}
use Rattle.bits.proofs.Tests.{by_cases, and_left, and_right}
use Rattle.kinds.specs.declared.Item.{Item}
use Rattle.kinds.specs.Kind.{Kind}
use Rattle.kinds.specs.Kinds.{q_diff, class, speed, q_front, n_iter, d_location}
use Rattle.format.specs.Format.{Format, end, field, then, sheet_numbers}
use Rattle.grammar.specs.segment.Segment.{entries, profile, voltage, current, changes, part, wire_changes}
use Rattle.grammar.specs.internal.segment.Parts.{entry}
use Rattle.grammar.proofs.segment.Parts.{entries_more, changes_more}
use Rattle.speed.specs.declared.Train.{Train}
use Rattle.speed.specs.Speed.{profile_of, Element, element_speed, end_before, held_to, holds, held_speeds, entries_of, after_entries, element_of, after_element, changes_from, elements_from}
use Rattle.speed_element.specs.declared.Lows.{Lows}
use Rattle.speed_element.specs.declared.First.{First}
use Rattle.speed_element.specs.declared.Following.{Following}
use Rattle.speed_element.specs.declared.Open.{Open}
use Rattle.speed.proofs.Runs.{chosen_append}
use Rattle.speed_element.specs.internal.Elements.{none, no_lows, instead_from, counted, speed_from, Worked, OneMore, element_with, element_as}
use Rattle.speed_element.specs.internal.Reading.{Holding, Readable, Past, Passes, FieldRead, Stands, LocationStands, EntryRead, Opened, Opens, ElementRead, Ended, ChangeRead, NextRead, FirstRead, ChangesRead, ProfileRead, HeadRead}
use Rattle.speed_element.specs.internal.Passing.{Passed}
use Rattle.speed_element.proofs.Lowest.{instead_more, instead_below, cant_last, speed_first, held_more}

-- one more number is gone
one_gone : {m : List ℕ} (n : ℕ) (s : List ℕ) → m ≡ drop n s → drop 1 m ≡ drop (n + 1) s
one_gone n s e = ap (drop 1) e ∙ drop-drop 1 n s

pub first_left : (n : ℕ) (s : List ℕ) → get_or (drop n s) 0 0 ≡ get_or s n 0
first_left n s = let e : n + 0 ≡ n = omega arith in rw e at (get_or-drop n s 0 0)

-- one change more
changes_split : (n : ℕ) → 0 < n → (s : List ℕ) → changes_from 0 n s ≡ element_of (0 + get_or s 0 0) (drop 1 s) ∷ changes_from 0 (n - 1) (after_element (drop 1 s))
changes_split zero h s = absurd (omega arith)
changes_split (suc n) h s = let e : suc n - 1 ≡ n = omega arith in rw e

-- the place after n entries, where one at a place ends at the next of it
abbrev pub entries_end : (ℕ → ℕ) → ℕ → ℕ → ℕ
entries_end next zero at = at
entries_end next (suc n) at = entries_end next n (next at)

module _ (Reads : Format → ℕ → List Item → Type 0) where
  -- ---- fields

  module _ {k : Kind} {at to v a : ℕ} (r : FieldRead Reads k at to v a) (part : ℕ → Format → Format) where
    -- what is left after a field was accepted too
    pub readable_field : Readable Reads (λ f. field k (λ u. part u f)) at → Readable Reads (part v) to
    readable_field h = let p = r.past (λ u. part u h.follows) h.values h.reads in record { follows = h.follows; values = p.values; reads = p.reads }

  pub readable_first : {p : Format → Format} (q : Format → Format) {at : ℕ} → Readable Reads (λ f. p (q f)) at → Readable Reads p at
  readable_first q h = record { follows = q h.follows; values = h.values; reads = h.reads }

  pub readable_passed : {p : Format → Format} (q : Format → Format) {after : List ℕ → List ℕ} {at to : ℕ} → Passes Reads p after at to → Readable Reads (λ f. p (q f)) at → Readable Reads q to
  readable_passed q r h = let p = r.past (q h.follows) h.values h.reads in record { follows = h.follows; values = p.values; reads = p.reads }

  module _ {k : Kind} {at to v a : ℕ} (r : FieldRead Reads k at to v a) where
    -- the next field after n numbers
    pub then_past : {next : ℕ → Format} (n : ℕ) (s : List ℕ) → Past Reads (field k next) at (drop n s) → Past Reads (next v) to (drop (n + 1) s)
    then_past {next} n s p = let q = r.past next p.values p.reads in record { values = q.values; reads = q.reads; numbers = q.numbers ∙ one_gone n s p.numbers }

    pub then_is : {next : ℕ → Format} (n : ℕ) (s : List ℕ) → Past Reads (field k next) at (drop n s) → get_or s n 0 ≡ a
    then_is {next} n s p =
        sym (first_left n s) ∙ ap (λ (m : List ℕ). get_or m 0 0) (sym p.numbers) ∙ r.is next p.values p.reads

  pub past_here : {f : Format} {at : ℕ} (l : List Item) → Reads f at l → Past Reads f at (drop 0 (sheet_numbers l))
  past_here l h = record { values = l; reads = h; numbers = refl }

  -- ---- an entry

  module _ {at b c to q v g u w : ℕ} (first : FieldRead Reads q_diff at b q q) (second : FieldRead Reads (class q) b c v g)
      (third : FieldRead Reads speed c to u w) where
    pub entry_passes : Passes Reads entry (drop 3) at to
    entry_passes = record { past = λ f l h. let s = sheet_numbers l in then_past third 2 s (then_past second 1 s (then_past first 0 s (past_here l h))) }

    pub entry_read : {t : Train} {lows after : Lows} → OneMore t lows q g w after → EntryRead Reads t lows after at to
    entry_read {t} {lows} {after} m = record { passes = entry_passes; more = more }
      where
        more : (f : Format) (l : List Item) → Reads (entry f) at l
            → OneMore t lows (get_or (sheet_numbers l) 0 0) (get_or (sheet_numbers l) 1 0) (get_or (sheet_numbers l) 2 0) after
        more f l h =
            let s = sheet_numbers l in
            let p = then_past first 0 s (past_here l h) in
            rw (then_is first 0 s (past_here l h), then_is second 1 s p, then_is third 2 s (then_past second 1 s p)) m

  -- ---- entries, one after another

  module _ {n at : ℕ} (h : 0 < n) (r : Readable Reads (entries n) at) where
    entries_split : Readable Reads (λ f. entry (entries (n - 1) f)) at
    entries_split = record { follows = r.follows; values = r.values; reads = rw (entries_more n h r.follows) at r.reads }

    pub entry_readable : Readable Reads entry at
    entry_readable = readable_first (entries (n - 1)) entries_split

    -- one entry less is left
    pub entries_next : {to : ℕ} → Passes Reads entry (drop 3) at to → Readable Reads (entries (n - 1)) to
    entries_next e = readable_passed (entries (n - 1)) e entries_split

  -- passed over, where an entry at a place ends at the next of it
  module _ (next : ℕ → ℕ) (one : (at : ℕ) → Passes Reads entry (drop 3) at (next at)) where
    pub entries_pass : (n at : ℕ) → Passes Reads (entries n) (after_entries n) at (entries_end next n at)
    unfolding entries
    entries_pass zero at = record { past = λ f l h. past_here l h }
    entries_pass (suc n) at =
        record {
          past = λ f l h.
              let p = (one at).past (entries n f) l h in
              let q = (entries_pass n (next at)).past f p.values p.reads in
              record { values = q.values; reads = q.reads; numbers = q.numbers ∙ ap (after_entries n) p.numbers };
        }

    pub entries_end_next : {n : ℕ} → 0 < n → (at : ℕ) → entries_end next (n - 1) (next at) ≡ entries_end next n at
    entries_end_next {n} h at = let e : suc (n - 1) ≡ n = omega arith in ap (λ (m : ℕ). entries_end next m at) e

  -- what is left of the entries, and what they say with the lows of those before
  pub record Entering (t : Train) (whole : ℕ) (l : List Item) (n to : ℕ) (lows : Lows) (f : Format) : Type 0 where
    pub values : List Item
    pub reads : Reads (entries n f) to values
    pub same : (v : ℕ) → speed_from t lows v (entries_of n (sheet_numbers values)) ≡ speed_from t no_lows v (entries_of whole (sheet_numbers l))

  module _ {t : Train} {whole : ℕ} {l : List Item} {to : ℕ} {lows : Lows} {f : Format} where
    entering_one : (m : ℕ) {n : ℕ} {a : ℕ} {next : Lows} → n ≡ suc m → Entering t whole l n to lows f → EntryRead Reads t lows next to a → Entering t whole l m a next f
    unfolding entries
    entering_one m {a = a} {next = next} e g r =
        let h : Reads (entries (suc m) f) to g.values = rw e at g.reads in
        let s = sheet_numbers g.values in
        let p = r.passes.past (entries m f) g.values h in
        let more = (r.more (entries m f) g.values h).same in
        record {
          values = p.values;
          reads = p.reads;
          same = λ v. rw p.numbers (more v (entries_of m (drop 3 s)) ∙ ap (λ (n : ℕ). speed_from t lows v (entries_of n s)) (sym e) ∙ g.same v);
        }

  -- every way into the entries is a way to what is left of them, and there is one
  pub record Entered (t : Train) (whole at n to : ℕ) (lows : Lows) : Type 0 where
    pub going : (f : Format) (l : List Item) → Reads (entries whole f) at l → Entering t whole l n to lows f
    pub readable : Readable Reads (entries n) to

  pub entered_all : {t : Train} {n at : ℕ} → Readable Reads (entries n) at → Entered t n at n at no_lows
  entered_all r = record { going = λ f l h. record { values = l; reads = h; same = λ v. refl }; readable = r }

  pub entered_next : {t : Train} {whole at n to a : ℕ} {lows next : Lows} → 0 < n → Entered t whole at n to lows → EntryRead Reads t lows next to a → Entered t whole at (n - 1) a next
  entered_next {n = n} h g r =
      let e : n ≡ suc (n - 1) = omega arith in
      record { going = λ f l i. entering_one (n - 1) e (g.going f l i) r; readable = entries_next h g.readable r.passes }

  -- ---- an element

  module _ {at b c d v w q n : ℕ} (first : FieldRead Reads speed at b v w) (second : FieldRead Reads q_front b c q q) (third : FieldRead Reads (n_iter 31) c d n n) where
    -- its entries are readable where it is
    pub element_entries : Readable Reads profile at → Readable Reads (entries n) d
    element_entries h =
        readable_field third entries
        (readable_field second (λ q f. field (n_iter 31) λ n. entries n f) (readable_field first (λ v f. then q_front (field (n_iter 31) λ n. entries n f)) h))

    module _ {to : ℕ} (more : Passes Reads (entries n) (after_entries n) d to) (small : w < none) where
      pub element_read : (start : ℕ) → ElementRead Reads at to (record { start = start; v_static = w; q_front = q; count = n; entries = d })
      element_read start = record { passes = record { past = past }; opened = opened; below = small }
        where
          past : (f : Format) (l : List Item) → Reads (profile f) at l → Past Reads f to (after_element (sheet_numbers l))
          past f l h =
              let s = sheet_numbers l in
              let p = then_past second 1 s (then_past first 0 s (past_here l h)) in
              let o = then_past third 2 s p in
              let r = more.past f o.values o.reads in
              record { values = r.values; reads = r.reads; numbers = r.numbers ∙ rw (o.numbers, then_is third 2 s p) }

          opened : (f : Format) (l : List Item) → Reads (profile f) at l
              → Opened Reads (record { start = start; v_static = w; q_front = q; count = n; entries = d }) (element_of start (sheet_numbers l))
          opened f l h =
              let s = sheet_numbers l in
              let a = then_past first 0 s (past_here l h) in
              let p = then_past second 1 s a in
              let o = then_past third 2 s p in
              record {
                follows = f;
                values = o.values;
                reads = o.reads;
                is = rw (then_is first 0 s (past_here l h), then_is second 1 s a, then_is third 2 s p, o.numbers);
              }

  pub opened_as : {o : Open} {e e' : Element} → e ≡ e' → Opened Reads o e → Opened Reads o e'
  opened_as q i = record { follows = i.follows; values = i.values; reads = i.reads; is = sym q ∙ i.is }

  -- one that is readable opens
  element_opens : (q : Format → Format) {at to : ℕ} {o : Open} → ElementRead Reads at to o → Readable Reads (λ f. profile (q f)) at → Opens Reads o
  element_opens q r h =
      let i = r.opened (q h.follows) h.values h.reads in
      record { readable = record { follows = i.follows; values = i.values; reads = i.reads }; below = r.below }

  -- ---- an element that ends

  module _ {t : Train} {held stop x : ℕ} {o : Open} where
    -- it holds, and its entries were read
    pub ended_read : {n to r : ℕ} {lows : Lows} → holds t (element_with o []) stop x ≡ true → Entered t o.count o.entries n to lows → n ≤ 0 → Worked t lows o.v_static held r
        → t.cant < 4294967296 → Ended Reads t held stop x o r
    ended_read {n} {to} {r} {lows} d g z w small = record { said = said }
      where
        gone : Entered t o.count o.entries 0 to lows
        gone = let q : n ≡ 0 = omega arith in rw q at g

        said : (e : Element) → Opened Reads o e → (l : List ℕ) → instead_from r 0 l ≡ instead_from held 0 (cond (holds t e stop x) (element_speed t e ∷ l) l)
        said e i l =
            let s = (gone.going i.follows i.values i.reads).same o.v_static in
            let whole = speed_first t (element_as o (sheet_numbers i.values)) small ∙ sym s in
            rw (i.is, d, whole, cant_last t lows.cant o.v_static) (held_more held w.is w.below l)

    -- it does not, so nothing more is held
    pub ended_not : holds t (element_with o []) stop x ≡ false → Ended Reads t held stop x o held
    ended_not d = record { said = λ e i l. rw (i.is, d) }

    -- it ends where the elements after it begin
    one_ended : (lsp : ℕ) {r : ℕ} {e : Element} → Ended Reads t held stop x o r → Opened Reads o e → (els : List Element) → stop ≡ end_before lsp els → (m : List ℕ)
        → instead_from r 0 (held_speeds t lsp x els ++ m) ≡ instead_from held 0 (held_speeds t lsp x (e ∷ els) ++ m)
    one_ended lsp {e = e} d i els stops m =
        let l = held_speeds t lsp x els in
        d.said e i (l ++ m)
        ∙ ap (instead_from held 0) (chosen_append (holds t e stop x) (element_speed t e) l m)
        ∙ ap (λ (n : ℕ). instead_from held 0 (cond (holds t e n x) (element_speed t e ∷ l) l ++ m)) stops

  -- ---- an element's speed, worked out at its start

  module _ {t : Train} {stop : ℕ} {o : Open} {r v until : ℕ} (d : Ended Reads t none stop o.start o r) (is : v ≡ instead_from r 0 []) (up : until ≡ held_to t (element_with o []) stop) where
    pub kept_small : v < none
    kept_small = rw is (instead_below r 0 (lit< tt))

    -- one that holds anywhere holds at its start
    start_holds : (e : Element) → Opened Reads o e → (x : ℕ) → holds t e stop x ≡ true → holds t e stop o.start ≡ true
    start_holds e i x h =
        let q : e.start ≡ o.start = ap (λ (e : Element). e.start) i.is in
        let a = leb-true e.start x (and_left (leb e.start x) (ltb x (held_to t e stop)) h) in
        let b = ltb-true x (held_to t e stop) (and_right (leb e.start x) (ltb x (held_to t e stop)) h) in
        rw (le-leb e.start o.start (omega arith), lt-ltb o.start (held_to t e stop) (omega arith))

    kept_speed : (e : Element) → Opened Reads o e → (x : ℕ) → holds t e stop x ≡ true → v ≡ element_speed t e
    kept_speed e i x h = is ∙ d.said e i [] ∙ rw (start_holds e i x h)

    -- so the speed and where it holds tell what is held at any place
    pub ended_kept : (held x : ℕ) → Ended Reads t held stop x o (min held (counted (leb o.start x && ltb x until) v))
    ended_kept held x = record { said = said }
      where
        here : (e : Element) → Opened Reads o e → (leb o.start x && ltb x until) ≡ holds t e stop x
        here e i = rw (i.is, up)

        said : (e : Element) → Opened Reads o e → (l : List ℕ) → instead_from (min held (counted (leb o.start x && ltb x until) v)) 0 l ≡ instead_from held 0 (cond (holds t e stop x) (element_speed t e ∷ l) l)
        said e i l =
            ap (λ (b : Bool). instead_from (min held (counted b v)) 0 l) (here e i)
            ∙ instead_more held 0 v l kept_small (holds t e stop x)
            ∙ by_cases (holds t e stop x) (λ h. ap (λ (w : ℕ). instead_from held 0 (cond (holds t e stop x) (w ∷ l) l)) (kept_speed e i x h)) (λ h. rw h)

  -- ---- the next change

  module _ (lsp start n : ℕ) {at : ℕ} (h : 0 < n) (r : Readable Reads (changes profile lsp start n) at) where
    pub next_readable : Readable Reads (λ f. field (d_location start lsp) λ y. profile (changes profile lsp y (n - 1) f)) at
    next_readable = record { follows = r.follows; values = r.values; reads = rw (changes_more profile lsp start n h r.follows) at r.reads }

    pub location_stands : LocationStands Reads at
    location_stands = record { last = start; lsp = lsp; stands = record { part = λ y f. profile (changes profile lsp y (n - 1) f); readable = next_readable } }

    -- its element, after its location
    next_profile : {b y a : ℕ} → FieldRead Reads (d_location start lsp) at b y a → Readable Reads (λ f. profile (changes profile lsp y (n - 1) f)) b
    next_profile d = readable_field d (λ y f. profile (changes profile lsp y (n - 1) f)) next_readable

    pub next_element : {b y a : ℕ} → FieldRead Reads (d_location start lsp) at b y a → Readable Reads profile b
    next_element {y = y} d = readable_first (changes profile lsp y (n - 1)) (next_profile d)

  module _ {lsp : ℕ} {o : Open} {n at : ℕ} where
    pub next_last : {r : Following} → n ≡ 0 → r.end ≡ lsp → NextRead Reads lsp o n at r
    next_last z e = record { change = λ h. absurd (omega arith); last = λ _. e }

    pub next_change : {b : ℕ} {r : Following} → 0 < n → FieldRead Reads (d_location o.start lsp) at b r.end r.end → ElementRead Reads b r.next r.«open» × (r.«open».start ≡ r.end)
        → NextRead Reads lsp o n at r
    next_change h d e = record { change = λ _. record { between = _; location = d; element = e.0; starts = e.1 }; last = λ z. absurd (omega arith) }

  -- ---- changes, one after another

  module _ (t : Train) (lsp x before : ℕ) (whole : List ℕ) where
    -- what is left of the changes, and what is held with it, of all that is to be held
    pub record Changing (n to held : ℕ) (o : Open) (f : Format) : Type 0 where
      pub element : Element
      pub opened : Opened Reads o element
      pub values : List Item
      pub reads : Reads (changes profile lsp o.start n f) to values
      pub same : (m : List ℕ) → instead_from held 0 (held_speeds t lsp x (element ∷ changes_from 0 n (sheet_numbers values)) ++ m) ≡ instead_from before 0 (whole ++ m)

    module _ {n to held : ℕ} {o : Open} {f : Format} (h : 0 < n) (g : Changing n to held o f) where
      -- the next change's location, and its element
      change_reads : Reads (field (d_location o.start lsp) λ y. profile (changes profile lsp y (n - 1) f)) to g.values
      change_reads = rw (changes_more profile lsp o.start n h f) at g.reads

      -- one change more
      pub changing_next : {held' : ℕ} {m : Following} → ChangeRead Reads lsp o.start to m → Ended Reads t held m.end x o held' → Changing (n - 1) m.next held' m.«open» f
      changing_next {held'} {m} c d =
          let s = sheet_numbers g.values in
          let start = m.end in
          let more = changes profile lsp start (n - 1) f in
          let p = c.location.past (λ y. profile (changes profile lsp y (n - 1) f)) g.values change_reads in
          let u = c.element.passes.past more p.values p.reads in
          let at-start : 0 + get_or s 0 0 ≡ start = omega (arith, c.location.is (λ y. profile (changes profile lsp y (n - 1) f)) g.values change_reads) in
          let els = changes_from 0 n s in
          let split : els ≡ element_of start (drop 1 s) ∷ changes_from 0 (n - 1) (after_element (drop 1 s)) = changes_split n h s ∙ rw at-start in
          let stops : start ≡ end_before lsp els = ap (end_before lsp) (sym split) in
          record {
            element = element_of start (drop 1 s);
            opened = opened_as (rw (c.starts, p.numbers)) (c.element.opened more p.values p.reads);
            values = u.values;
            reads = rw c.starts u.reads;
            same = λ more.
                rw (u.numbers, p.numbers)
                (ap (λ (m : List Element). instead_from held' 0 (held_speeds t lsp x m ++ more)) (sym split) ∙ one_ended lsp d g.opened els stops more ∙ g.same more);
          }

  -- every way into the changes is a way to what is left of them, and there is one
  pub record Changed (t : Train) (lsp x before : ℕ) (first : Open) (whole at n to held : ℕ) (o : Open) : Type 0 where
    pub going : (e : Element) → Opened Reads first e → (f : Format) (l : List Item) → Reads (changes profile lsp first.start whole f) at l
        → Changing t lsp x before (held_speeds t lsp x (e ∷ changes_from 0 whole (sheet_numbers l))) n to held o f
    pub opens : Opens Reads o
    pub readable : Readable Reads (changes profile lsp o.start n) to

  changed_all : {t : Train} {lsp x before whole at : ℕ} {first : Open} → Opens Reads first → Readable Reads (changes profile lsp first.start whole) at
      → Changed t lsp x before first whole at whole at before first
  changed_all h r = record { going = λ e i f l j. record { element = e; opened = i; values = l; reads = j; same = λ m. refl }; opens = h; readable = r }

  module _ {t : Train} {lsp x before whole at n to held : ℕ} {first o : Open} (g : Changed t lsp x before first whole at n to held o) {m : Following} (r : NextRead Reads lsp o n to m) {held' : ℕ}
      (d : Ended Reads t held m.end x o held') where
    changed_next : 0 < n → Changed t lsp x before first whole at (n - 1) m.next held' m.«open»
    changed_next h =
        let q = changes profile lsp m.end (n - 1) in
        let c = r.change h in
        let k = next_profile lsp o.start n h g.readable c.location in
        record {
          going = λ v i f l j. changing_next t lsp x before (held_speeds t lsp x (v ∷ changes_from 0 whole (sheet_numbers l))) h (g.going v i f l j) c d;
          opens = element_opens q c.element k;
          readable = rw c.starts (readable_passed q c.element.passes k);
        }

    -- the last element ends at the segment's end
    pub changes_read : n ≡ 0 → ChangesRead Reads t lsp x before first whole at held'
    changes_read z = record {
      said = λ w i f l j. let m = rw z at (g.going w i f l j) in record { with = λ more. one_ended lsp d m.opened [] (r.last z) more ∙ m.same more };
    }

  -- so many elements have yet to end: the open one, and one for each change that is left
  pub record Ending (t : Train) (lsp x before : ℕ) (first : Open) (whole at left to held : ℕ) (o : Open) : Type 0 where
    pub more : 0 < left → Changed t lsp x before first whole at (left - 1) to held o
    pub done : left ≡ 0 → ChangesRead Reads t lsp x before first whole at held

  pub ending_all : {t : Train} {lsp x before whole at : ℕ} {first : Open} → Opens Reads first → Readable Reads (changes profile lsp first.start whole) at
      → Ending t lsp x before first whole at (whole + 1) at before first
  ending_all {whole = whole} h r = let e : whole + 1 - 1 ≡ whole = omega arith in record { more = λ _. rw e (changed_all h r); done = λ z. absurd (omega arith) }

  pub ending_next : {t : Train} {lsp x before whole at n to held held' : ℕ} {first o : Open} {m : Following} → Changed t lsp x before first whole at n to held o → NextRead Reads lsp o n to m
      → Ended Reads t held m.end x o held' → Ending t lsp x before first whole at n m.next held' m.«open»
  ending_next g r d = record { more = changed_next g r d; done = changes_read g r d }

  -- ---- the profile

  -- the count of changes after the first element
  pub count_stands : (lsp : ℕ) {at to : ℕ} {o : Open} → ElementRead Reads at to o → Readable Reads (part profile 31 lsp) at → Stands Reads (n_iter 31) to
  count_stands lsp e h =
      record {
        part = λ n f. changes profile lsp 0 n f;
        readable = readable_passed (λ f. field (n_iter 31) λ n. changes profile lsp 0 n f) e.passes h;
      }

  module _ (lsp : ℕ) {at : ℕ} {r : First} (i : FirstRead Reads at r) where
    -- the changes of a profile that is readable
    pub first_changes : Readable Reads (part profile 31 lsp) at → Opens Reads r.«open» × Readable Reads (changes profile lsp r.«open».start r.count) r.next
    first_changes h =
        let q : Format → Format = λ f. field (n_iter 31) λ m. changes profile lsp 0 m f in
        (element_opens q i.element h, rw i.starts (readable_field i.number (λ m f. changes profile lsp 0 m f) (readable_passed q i.element.passes h)))

    pub first_profile : {t : Train} {x before v : ℕ} → ChangesRead Reads t lsp x before r.«open» r.count r.next v → ProfileRead Reads t lsp x before at v
    first_profile {t} {x} {before} {v} more = record { said = said }
      where
        said : (f : Format) (l : List Item) → Reads (part profile 31 lsp f) at l → Holding before (held_speeds t lsp x (elements_from 0 (sheet_numbers l))) v
        said f l h =
            let s = sheet_numbers l in
            let n = r.count in
            let g : Format = field (n_iter 31) λ m. changes profile lsp 0 m f in
            let p = i.element.passes.past g l h in
            let u = i.number.past (λ m. changes profile lsp 0 m f) p.values p.reads in
            let o : Opened Reads r.«open» (element_of (0 + 0) s) = opened_as (rw i.starts) (i.element.opened g l h) in
            let k : get_or (after_element s) 0 0 ≡ n = ap (λ (m : List ℕ). get_or m 0 0) (sym p.numbers) ∙ i.number.is (λ m. changes profile lsp 0 m f) p.values p.reads in
            let same : element_of (0 + 0) s ∷ changes_from 0 n (sheet_numbers u.values) ≡ elements_from 0 s = rw (u.numbers, p.numbers, ← k) in
            subst (λ (es : List Element). Holding before (held_speeds t lsp x es) v) same (more.said (element_of (0 + 0) s) o f u.values (rw i.starts u.reads))

  -- ---- the head

  module _ {ns : List ℕ} {lsp at : ℕ} (h : HeadRead Reads ns lsp at) where
    pub head_readable : Readable Reads (part profile 31 lsp) at
    head_readable = record { follows = part voltage wire_changes lsp (part current wire_changes lsp end); values = h.past.values; reads = h.past.reads }

    -- the profile at the head's place is the segment's
    pub head_passed : {t : Train} {x before r : ℕ} → ProfileRead Reads t lsp x before at r → Passed t ns x before r
    head_passed {t} {x} {before} {r} p =
        let q = p.said (part voltage wire_changes lsp (part current wire_changes lsp end)) h.past.values h.past.reads in
        let here = rw h.past.numbers at q in
        let P : ℕ → Type 0 = λ n. Holding before (held_speeds t n x (elements_from 0 (profile_of ns))) r in
        subst P h.length_is here
