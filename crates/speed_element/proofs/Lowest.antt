-- One speed more, and one element more: what stands for those before stands for it too.
use mathlib.Core.Path.{ap₂, sym, ◌≡◌, ap, ◌∙◌}
use mathlib.Core.Bool.{Bool, true, false, cond, ◌&&◌}
use mathlib.Core.List.{List, [], ◌∷◌}
use Prim.Native.Nat.{ℕ, ◌+◌, ◌-◌, ◌*◌, ◌/◌, ◌%◌, ◌≤◌, ◌<◌, min, max}
use mir.Val.{bool_byte}
use native.Mathlib.Omega.{arith}
use borrow.Author.Tests.{eqb-true, eqb-false, eq-eqb, ne_eqb, leb-true, leb-false, le-leb, lt-leb, ltb-true, ltb-false, lt-ltb, le-ltb}
use lib.Dec.{eqb, ltb, leb, lit≤}
use lib.ListN.{get_or}
use Rattle.bits.proofs.Tests.{by_cases}
use Rattle.speed.proofs.Laws.{belongs_listed}
use Rattle.speed.specs.declared.Train.{Train}
use Rattle.speed.specs.Speed.{lowest, figure_speeds, Entry, Element, belongs, memberships, not_above, greatest_figure, greatest_speeds, named_speeds, instead, element_speed, held_to}
use Rattle.speed_element.specs.declared.Lows.{Lows}
use Rattle.speed_element.specs.declared.Open.{Open}
use Rattle.speed_element.specs.internal.Elements.{none, instead_from, lowest_from, counted, Distant, folded, counts, no_figure, folded_entry, cant_from, cant_of, no_lows, Kept, speed_from, OneMore, element_with}

-- ---- one speed more

module _ (low v w : ℕ) (l : List ℕ) (h : w < none) where
  -- with a speed, there is one
  some_low : ltb (min low w) none ≡ true
  some_low = lt-ltb (min low w) none (omega arith)

  pub instead_one : instead_from (min low w) v l ≡ instead_from low v (w ∷ l)
  instead_one =
      by_cases (ltb low none)
      (λ d. rw (d, some_low))
      (λ d. let e : min low w ≡ w = omega (arith, ltb-false low none d) in rw (d, some_low, e))

  lowest_one : lowest_from (min low w) v l ≡ lowest_from low v (w ∷ l)
  lowest_one =
      by_cases (ltb low none)
      (λ d. let e : min v (min low w) ≡ min (min v low) w = omega arith in rw (d, some_low, e))
      (λ d. let e : min low w ≡ w = omega (arith, ltb-false low none d) in rw (d, some_low, e))

  -- one that does not count changes nothing
  none_low : ltb (min low (w + none)) none ≡ ltb low none
  none_low =
      by_cases (ltb low none)
      (λ d. rw d (lt-ltb (min low (w + none)) none (omega (arith, ltb-true low none d))))
      (λ d. rw d (le-ltb (min low (w + none)) none (omega (arith, ltb-false low none d))))

  low_stays : ltb low none ≡ true → min low (w + none) ≡ low
  low_stays d = omega (arith, ltb-true low none d)

  pub instead_more : (b : Bool) → instead_from (min low (counted b w)) v l ≡ instead_from low v (cond b (w ∷ l) l)
  instead_more true = instead_one
  instead_more false = rw none_low (by_cases (ltb low none) (λ d. rw (d, low_stays d)) (λ d. rw d))

  pub lowest_more : (b : Bool) → lowest_from (min low (counted b w)) v l ≡ lowest_from low v (cond b (w ∷ l) l)
  lowest_more true = lowest_one
  lowest_more false = rw none_low (by_cases (ltb low none) (λ d. rw (d, low_stays d)) (λ d. rw d))

-- what counts, as the code works it out
pub both_most : (a b : Bool) → bool_byte a * bool_byte b ≤ 1
both_most true true = lit≤ tt
both_most true false = lit≤ tt
both_most false true = lit≤ tt
both_most false false = lit≤ tt

pub counted_as : (a b : Bool) (v : ℕ) → v + 1024 * (1 - bool_byte a * bool_byte b) ≡ counted (a && b) v
counted_as true true v = omega arith
counted_as true false v = omega arith
counted_as false true v = omega arith
counted_as false false v = omega arith

-- ---- one figure more

-- the better of two entries, by figure and then by speed, stands for both
module _ (v : ℕ) (a b c : Entry) (l : List Entry) (greater : c.class ≡ max a.class b.class)
    (first : b.class < a.class → c.v_diff ≡ a.v_diff) (second : a.class < b.class → c.v_diff ≡ b.v_diff)
    (same : a.class ≡ b.class → c.v_diff ≡ min a.v_diff b.v_diff) where
  two_as_one : instead v (greatest_speeds (c ∷ l)) ≡ instead v (greatest_speeds (a ∷ b ∷ l))
  two_as_one =
      let f = greatest_figure (c ∷ l) in
      let e : max a.class (max b.class (greatest_figure l)) ≡ f = omega arith in
      rw e
      (by_cases (eqb a.class f)
      (λ p. let x : a.class ≡ f = eqb-true a.class f p in
      let z : eqb c.class f ≡ true = eq-eqb c.class f (omega arith) in
      by_cases (eqb b.class f)
      (λ q. let y : b.class ≡ f = eqb-true b.class f q in rw (p, q, z, same (omega arith)) (ap (λ (n : ℕ). lowest (min a.v_diff b.v_diff) (figure_speeds n l)) (sym e)))
      (λ q. let y = eqb-false b.class f q in rw (p, q, z, first (omega arith)) (ap (λ (n : ℕ). lowest a.v_diff (figure_speeds n l)) (sym e))))
      (λ p. let x = eqb-false a.class f p in
      by_cases (eqb b.class f)
      (λ q. let y : b.class ≡ f = eqb-true b.class f q in
      let z : eqb c.class f ≡ true = eq-eqb c.class f (omega arith) in
      rw (p, q, z, second (omega arith)) (ap (λ (n : ℕ). lowest b.v_diff (figure_speeds n l)) (sym e)))
      (λ q. let y = eqb-false b.class f q in
      let z : eqb c.class f ≡ false = ne_eqb c.class f (λ h. omega arith) in
      rw (p, q, z) (ap (λ (n : ℕ). instead v (figure_speeds n l)) (sym e)))))

module _ (t : Train) (best v q class w far : ℕ) (es : List Entry) (k : Kept q class w) (small : t.cant < 4294967296) (d : Distant t q class far) where
  abbrev here : Entry
  here = record { q_diff = q; class = class; v_diff = w }

  abbrev more : ℕ
  more = min best (folded far w)

  counted_more : q ≡ 0 → class ≤ t.cant → cant_from t more v es
      ≡ instead v (greatest_speeds (cond (counts t best) (folded_entry t best ∷ here ∷ not_above t es) (here ∷ not_above t es)))
  counted_more e h =
      let n = d.below e h in
      let some : counts t more ≡ true = le-leb (more / 1024) t.cant (omega arith) in
      by_cases (counts t best)
      (λ z. let g = leb-true (best / 1024) t.cant z in
      rw (z, some)
      (two_as_one v (folded_entry t best) here (folded_entry t more) (not_above t es) (omega arith)
      (λ less. omega arith)
      (λ less. omega arith)
      (λ same. omega arith)))
      (λ z. let g = leb-false (best / 1024) t.cant z in
      let a : t.cant - more / 1024 ≡ class = omega arith in
      let b : more % 1024 ≡ w = omega arith in
      rw (z, some) (ap₂ (λ (k s : ℕ). instead v (greatest_speeds (record { q_diff = 0; class = k; v_diff = s } ∷ not_above t es))) a b))

  -- further than all that count, where it does not
  none_more : 4294967296 ≤ far → cant_from t more v es ≡ cant_from t best v es
  none_more h =
      by_cases (counts t best)
      (λ z. let e : more ≡ best = omega (arith, leb-true (best / 1024) t.cant z) in rw e)
      (λ z. let e : counts t more ≡ false = lt-leb (more / 1024) t.cant (omega (arith, leb-false (best / 1024) t.cant z)) in rw (z, e))

  -- the lower number stands for both
  pub figure_more : cant_from t more v es ≡ cant_from t best v (here ∷ es)
  figure_more =
      by_cases (eqb q 0)
      (λ z. by_cases (leb class t.cant)
      (λ g. rw (z, g) (counted_more (eqb-true q 0 z) (leb-true class t.cant g)))
      (λ g. rw (z, g) (none_more (d.above (leb-false class t.cant g)))))
      (λ z. let e = eqb-false q 0 z in rw z (none_more (d.other (omega arith))))

-- ---- one entry more

-- the lows after it, as the code works them out: the membership was looked up by the class, a category where Q_DIFF is not 0
pub low_with : (t : Train) (p q class w low : ℕ) {s so : ℕ} {m : Bool} → 0 < p → Kept q class w → m ≡ get_or (memberships t) (class % 32) false → so ≡ counted (eqb q p && m) w → s ≡ min low so
    → s ≡ min low (counted (eqb q p && belongs t class) w)
low_with t p q class w low {m = m} h k a b c =
    c ∙ ap (min low)
    (b ∙ by_cases (eqb q p) (λ d. let e : q ≡ p = eqb-true q p d in rw (d, a ∙ belongs_listed t class (k.category (omega arith)))) (λ d. rw d))

module _ (t : Train) (lows after : Lows) (q class w far : ℕ) (k : Kept q class w) (small : t.cant < 4294967296) (d : Distant t q class far)
    (a : after.cant ≡ min lows.cant (folded far w))
    (b : after.replacing ≡ min lows.replacing (counted (eqb q 1 && belongs t class) w))
    (c : after.lowering ≡ min lows.lowering (counted (eqb q 2 && belongs t class) w)) where
  pub entry_more : OneMore t lows q class w after
  entry_more = record { same = same }
    where
      same : (v : ℕ) (es : List Entry) → speed_from t after v es ≡ speed_from t lows v (record { q_diff = q; class = class; v_diff = w } ∷ es)
      same v es =
          rw (
            a,
            b,
            c,
            figure_more t lows.cant v q class w far es k small d,
            instead_more lows.replacing _ w (named_speeds t 1 es) k.speed (eqb q 1 && belongs t class),
            lowest_more lows.lowering _ w (named_speeds t 2 es) k.speed (eqb q 2 && belongs t class),
          )

-- ---- the element's speed

pub instead_below : (low v : ℕ) → v < none → instead_from low v [] < none
instead_below low v l = by_cases (ltb low none) (λ d. rw d (ltb-true low none d)) (λ d. rw d l)

cant_below : (t : Train) (best v : ℕ) → v < none → cant_of t best v < none
cant_below t best v l = by_cases (counts t best) (λ d. rw d (omega arith)) (λ d. rw d l)

-- with no entry to come, the number stands for one
pub cant_last : (t : Train) (best v : ℕ) → cant_from t best v [] ≡ cant_of t best v
cant_last t best v =
    let f = t.cant - best / 1024 in
    let e : eqb f (max f 0) ≡ true = eq-eqb f (max f 0) (omega arith) in
    by_cases (counts t best) (λ d. rw (d, e)) (λ d. rw d)

-- with none before, the entries to come are all
pub speed_first : (t : Train) (e : Element) → t.cant < 4294967296 → element_speed t e ≡ speed_from t no_lows e.v_static e.entries
speed_first t e h = let z : counts t no_figure ≡ false = lt-leb 4294967296 t.cant h in rw z

-- ---- where an element holds

module _ (t : Train) (o : Open) (stop : ℕ) where
  pub until_most : held_to t (element_with o []) stop ≤ stop + t.length
  until_most = by_cases (eqb o.q_front 0) (λ d. rw d (omega arith)) (λ d. rw d (omega arith))

-- ---- one element more

-- one speed more is held
pub held_more : (held : ℕ) {r v : ℕ} → r ≡ min held v → v < none → (l : List ℕ) → instead_from r 0 l ≡ instead_from held 0 (v ∷ l)
held_more held {r} {v} e s l = rw e (instead_one held 0 v l s)
