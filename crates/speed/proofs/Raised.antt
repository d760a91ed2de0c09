-- Speeds raised in the values of a segment are speeds raised in its elements; so for runs, of sheets and of their packets.
use mathlib.Core.Path.{◌≡◌, refl, sym, ap, ◌∙◌, subst, subst₂}
use mathlib.Core.List.{List, ◌∷◌, ◌++◌}
use mathlib.Core.Option.{some}
use Prim.Native.Nat.{ℕ, zero, suc, ◌+◌, ◌≤◌, ◌<◌}
use native.Mathlib.Omega.{arith}
use Rattle.kinds.specs.declared.Item.{Item}
use Rattle.kinds.specs.Kind.{Kind}
use Rattle.kinds.specs.Kinds.{l_sp, speed, q_front, n_iter, q_diff, class, d_location}
use Rattle.format.specs.Format.{Format, field, sheet_numbers}
use Rattle.format.specs.Conforming.{Conforming, done, also, InSheet}
use Rattle.grammar.specs.segment.Segment.{entries, profile, changes, part, lists, body, fields, sheet_fields, wire_changes}
use Rattle.speed.specs.declared.Train.{Train}
use Rattle.speed.specs.Speed.{Entry, Element, permitted, elements_from, segment_length, profile_of}
use Rattle.speed.specs.Run.{Each, EachTwo, none, another, numbers_of, each_given_back, run_elements, run_end, last_of, last_start, speed_in_run}
use Rattle.speed.specs.Standing.{EntriesStand, ElementStands, ChangesStand, ProfileStands, SegmentStands}
use Rattle.speed.specs.Faster.{Slower, RaisedTo, Raising, over, one}
use Rattle.speed.proofs.Runs.{AsLong, SheetValues, start_same, end_same, run_holds, run_in_fives}
use Rattle.speed.proofs.Standing.{segment_stands, segment_only, sheet_count}
use Rattle.speed.proofs.Faster.{EntriesRaised, ElementsRaised, permitted_slower}

-- ---- two values of one field

-- a kind of another width is no speed
other : (k : Kind) (w : ℕ) → k.width ≡ w → (w ≡ 7 → ⊥) → k ≡ speed → ⊥
other k w e n q = n (sym e ∙ ap (λ (j : Kind). j.width) q)

class_other : (q : ℕ) → class q ≡ speed → ⊥
class_other zero e = other (class 0) 4 refl (omega arith) e
class_other (suc q) e = other (class (suc q)) 4 refl (omega arith) e

-- one number of a sheet is one value of its packet
same_packets : (k : Kind) (i j : Item) → InSheet k i → InSheet k j → j.sheet ≡ i.sheet → j.packet ≡ i.packet
same_packets k i j g h e = let a = g.lowered in let b = h.lowered in let c : some j.packet ≡ some i.packet = cc in cc

-- the first field of both
first : {k : Kind} {next : ℕ → Format} {i j : Item} {l m : List Item} → Raising (field k next) (i ∷ l) (j ∷ m) → RaisedTo k i.sheet j.sheet × Raising (next i.packet) l m
first (one p r) = (p, r)

later : {k : Kind} {next : ℕ → Format} {i j : Item} {l m : List Item} → Raising (field k next) (i ∷ l) (j ∷ m) → Raising (next i.packet) l m
later r = (first r).1

-- ---- what stands in values, and in raised ones

entries_raised : {f : Format} {follow after l m : List Item} {n : ℕ} {es fs : List Entry} → EntriesStand InSheet follow n l es → EntriesStand InSheet after n m fs
    → Raising (entries n f) l m → EntriesRaised es fs × Raising f follow after
unfolding entries
entries_raised EntriesStand.none EntriesStand.none r = (EntriesRaised.none, r)
entries_raised (EntriesStand.entry q c v gq gc gv rest) (EntriesStand.entry q' c' v' hq hc hv more) r =
    let a = first r in
    let b = first (later r) in
    let d = first (later (later r)) in
    let eq : q'.sheet ≡ q.sheet = a.0.others (other q_diff 2 refl (omega arith)) in
    let ec : c'.sheet ≡ c.sheet = b.0.others (class_other q.packet) in
    let p = entries_raised rest more d.1 in
    (rw (eq, ec) (EntriesRaised.more q.sheet c.sheet (d.0.speeds refl) p.0), p.1)

-- two elements that agree but in speeds, in front of others
abbrev Front : Element → Element → Type 0
Front e g = (l m : List Element) → ElementsRaised l m → ElementsRaised (e ∷ l) (g ∷ m)

element_raised : {f : Format} {follow after l m : List Item} {start : ℕ} {e g : Element} → ElementStands InSheet follow start l e → ElementStands InSheet after start m g
    → Raising (profile f) l m → Front e g × Raising f follow after
element_raised {after = after} {start = start} (ElementStands.element v q n gv gq gn es) (ElementStands.element {l = m} {es = fs} v' q' n' hv hq hn more) r =
    let a = first r in
    let b = first (later r) in
    let d = first (later (later r)) in
    let eq : q'.sheet ≡ q.sheet = b.0.others (other q_front 1 refl (omega arith)) in
    let en = same_packets (n_iter 31) n n' gn hn (d.0.others (other (n_iter 31) 5 refl (omega arith))) in
    let p = entries_raised es (subst (λ (k : ℕ). EntriesStand InSheet after k m fs) en more) d.1 in
    (λ l k rest. rw eq (ElementsRaised.more start q.sheet (a.0.speeds refl) p.0 rest), p.1)

changes_raised : (f : Format) {from lsp : ℕ} {follow after l m : List Item} {n last : ℕ} {es fs : List Element} → ChangesStand InSheet follow from lsp n last l es
    → ChangesStand InSheet after from lsp n last m fs → Raising (changes profile lsp last n f) l m → ElementsRaised es fs
unfolding changes
changes_raised f ChangesStand.none ChangesStand.none r = ElementsRaised.none
changes_raised f {from = from} {lsp = lsp} {after = after} {last = last} (ChangesStand.change x gx e rest) (ChangesStand.change {n = n} {l = a} {m = b} {e = g} {es = fs} y gy e' more) r =
    let ey : y.sheet ≡ x.sheet = (first r).0.others (other (d_location last lsp) 24 refl (omega arith)) in
    let ep = same_packets (d_location last lsp) x y gx gy ey in
    let q = element_raised e (subst (λ (k : ℕ). ElementStands InSheet b (from + k) a g) ey e') (later r) in
    q.0 _ fs (changes_raised f rest (subst (λ (k : ℕ). ChangesStand InSheet after from lsp n k b fs) ep more) q.1)

profile_raised : (f : Format) {follow after l m : List Item} {from lsp : ℕ} {es fs : List Element} → ProfileStands InSheet follow from lsp l es
    → ProfileStands InSheet after from lsp m fs → Raising (part profile 31 lsp f) l m → ElementsRaised es fs
profile_raised f {after = after} {from = from} {lsp = lsp} (ProfileStands.counted {m = a} {es = es} n e gn rest) (ProfileStands.counted {m = b} {es = fs} k g gk more) r =
    let p = element_raised e g r in
    let q = first p.1 in
    let ek = same_packets (n_iter 31) n k gn gk (q.0.others (other (n_iter 31) 5 refl (omega arith))) in
    p.0 es fs (changes_raised f rest (subst (λ (c : ℕ). ChangesStand InSheet after from lsp c 0 b fs) ek more) q.1)

-- ---- segments

-- the values of two sheets, those of the second raised
pub record SheetRaised (l m : List Item) : Type 0 where
  pub here : SheetValues l
  pub there : SheetValues m
  pub raising : Raising (sheet_fields wire_changes) l m

-- values are raised to themselves
pub raising_stays : {Good : Kind → Item → Type 0} {f : Format} {l : List Item} → Conforming Good f l → Raising f l l
raising_stays done = over
raising_stays (also {i = i} g c) = one {i = i} {j = i} (record { speeds = λ e. stays i.sheet; others = λ n. refl }) (raising_stays c)
  where
    stays : (n : ℕ) → n ≤ n
    stays n = omega arith

sheet_stands : {from : ℕ} {l m : List Item} {es fs : List Element} (w : SegmentStands InSheet from l es) (v : SegmentStands InSheet from m fs)
    → Raising (sheet_fields wire_changes) l m → (v.length.sheet ≡ w.length.sheet) × ElementsRaised es fs
unfolding lists body fields sheet_fields
sheet_stands {from} {fs = fs} w v r =
    let whole = subst₂ (Raising (sheet_fields wire_changes)) w.split v.split r in
    let long = later (later (later (later (later (later (later (later (later (later whole))))))))) in
    let e : v.length.sheet ≡ w.length.sheet = (first long).0.others (other l_sp 24 refl (omega arith)) in
    let same = same_packets l_sp w.length v.length w.long v.long e in
    (e, profile_raised _ w.elements (subst (λ (lsp : ℕ). ProfileStands InSheet v.follow from lsp v.values fs) same v.elements) (later (later (later (later long)))))

sheet_raised : (from : ℕ) (l m : List Item) → SheetRaised l m
    → (segment_length (sheet_numbers l) ≡ segment_length (sheet_numbers m)) × ElementsRaised (elements_from from (profile_of (sheet_numbers l))) (elements_from from (profile_of (sheet_numbers m)))
sheet_raised from l m r =
    let w = segment_stands InSheet sheet_count from l r.here in
    let v = segment_stands InSheet sheet_count from m r.there in
    let p = sheet_stands w v r.raising in
    (sym (segment_only InSheet sheet_count from l _ w).0 ∙ sym p.0 ∙ (segment_only InSheet sheet_count from m _ v).0, p.1)

-- ---- runs

append_raised : {l m a b : List Element} → ElementsRaised l m → ElementsRaised a b → ElementsRaised (l ++ a) (m ++ b)
append_raised ElementsRaised.none r = r
append_raised (ElementsRaised.more s f h es q) r = ElementsRaised.more s f h es (append_raised q r)

elements_raised : (from : ℕ) {a b : List (List Item)} → EachTwo SheetRaised a b → ElementsRaised (run_elements from (numbers_of a)) (run_elements from (numbers_of b))
elements_raised from none = ElementsRaised.none
elements_raised from (another {a = l} {b = m} {r = a} {s = b} r rest) =
    let p = sheet_raised from l m r in
    subst (λ (n : ℕ). ElementsRaised (run_elements from (numbers_of (l ∷ a))) (elements_from from (profile_of (sheet_numbers m)) ++ run_elements (from + n) (numbers_of b))) p.0
    (append_raised p.1 (elements_raised (from + segment_length (sheet_numbers l)) rest))

raised_as_long : {a b : List (List Item)} → EachTwo SheetRaised a b → AsLong (numbers_of a) (numbers_of b)
raised_as_long none = none
raised_as_long (another {a = l} {b = m} r rest) = another (sheet_raised 0 l m r).0 (raised_as_long rest)

each_sheet : {a b : List (List Item)} → EachTwo SheetRaised a b → Each SheetValues a × Each SheetValues b
each_sheet none = (tt, tt)
each_sheet (another r rest) = let e = each_sheet rest in ((r.here, e.0), (r.there, e.1))

module _ (u t : Train) (slower : Slower u t) (x : ℕ) {a b : List (List Item)} (raised : EachTwo SheetRaised a b) (inside : x < segment_length (last_of (numbers_of b))) where
  -- "Longer or slower never means faster": the speed of the profile in a run, at x of the last segment
  pub never_faster : speed_in_run u x (numbers_of a) ≤ speed_in_run t x (numbers_of b)
  never_faster = go raised inside
    where
      go : {a b : List (List Item)} → EachTwo SheetRaised a b → x < segment_length (last_of (numbers_of b)) → speed_in_run u x (numbers_of a) ≤ speed_in_run t x (numbers_of b)
      go none h = absurd (omega arith)
      go {a} (another {b = m} {s = s} r rest) h =
          let n = numbers_of (m ∷ s) in
          let long = raised_as_long (another r rest) in
          run_holds t x (sheet_numbers m) (numbers_of s) h λ v k e.
          subst₂ (λ (end start : ℕ). permitted u end (start + x) (run_elements 0 (numbers_of a)) ≤ speed_in_run t x n) (sym (end_same 0 long)) (sym (start_same 0 long))
          (permitted_slower u t slower (run_end 0 n) (last_start 0 n + x) v k (elements_raised 0 (another r rest)) e)

  -- and of the packets of these sheets
  pub packets_never_faster : speed_in_run u x (numbers_of (each_given_back a)) ≤ speed_in_run t x (numbers_of (each_given_back b))
  packets_never_faster =
      let e = each_sheet raised in
      omega (arith, run_in_fives u x a e.0, run_in_fives t x b e.1, never_faster)
