-- Longer or slower never means faster, over any elements: where at each place at least as many elements hold and none of them is faster, the permitted speed is not higher.
use mathlib.Core.Path.{◌≡◌, refl, sym, ap, ap₂, ◌∙◌, subst}
use mathlib.Core.Bool.{Bool, true, false, cond, ◌&&◌}
use mathlib.Core.List.{List, [], ◌∷◌}
use Prim.Native.Nat.{ℕ, zero, suc, ◌≤◌, min, max}
use native.Mathlib.Omega.{arith}
use borrow.Author.Tests.{ltb-true, lt-ltb}
use lib.Dec.{eqb, ltb, leb}
use Rattle.bits.proofs.Tests.{by_cases, and_left, and_right}
use Rattle.speed.specs.declared.Train.{Train}
use Rattle.speed.specs.Speed.{Entry, Element, limited, belongs, not_above, greatest_figure, figure_speeds, greatest_speeds, cant_speeds, named_speeds, lowest, instead, element_speed, end_before, held_to, holds, held_speeds, permitted}
use Rattle.speed.specs.Run.{EachTwo}
use Rattle.speed.specs.Faster.{Alike, Slower}

-- ---- elements whose speeds are raised

-- entries that agree but in speeds, which are at least as high
pub data EntriesRaised : List Entry → List Entry → Type 0 where
  none : EntriesRaised [] []
  more : (q c : ℕ) {v w : ℕ} {l m : List Entry} → v ≤ w → EntriesRaised l m
      → EntriesRaised (record { q_diff = q; class = c; v_diff = v } ∷ l) (record { q_diff = q; class = c; v_diff = w } ∷ m)

-- elements that agree but in speeds, which are at least as high
pub data ElementsRaised : List Element → List Element → Type 0 where
  none : ElementsRaised [] []
  more : (start front : ℕ) {v w : ℕ} {es fs : List Entry} {l m : List Element} → v ≤ w → EntriesRaised es fs → ElementsRaised l m
      → ElementsRaised (record { start = start; v_static = v; q_front = front; entries = es } ∷ l) (record { start = start; v_static = w; q_front = front; entries = fs } ∷ m)

-- ---- the lowest of some speeds

-- for each of the second a speed that is no higher, one for one
abbrev NotHigher : List ℕ → List ℕ → Type 0
NotHigher l m = EachTwo (λ (v w : ℕ). v ≤ w) l m

-- for each of the second a speed that is no higher, and perhaps others
data Under : List ℕ → List ℕ → Type 0 where
  none : Under [] []
  both : {v w : ℕ} {l m : List ℕ} → v ≤ w → Under l m → Under (v ∷ l) (w ∷ m)
  new : {v : ℕ} {l m : List ℕ} → Under l m → Under (v ∷ l) m

not_higher_under : {l m : List ℕ} → NotHigher l m → Under l m
not_higher_under EachTwo.none = Under.none
not_higher_under (EachTwo.another h r) = Under.both h (not_higher_under r)

lowest_under : {v w : ℕ} {l m : List ℕ} → v ≤ w → Under l m → lowest v l ≤ lowest w m
lowest_under h Under.none = h
lowest_under {v} {w} h (Under.both {v = a} {w = b} g r) = lowest_under {v = min v a} {w = min w b} (omega arith) r
lowest_under {v} {w} h (Under.new {v = a} r) = lowest_under {v = min v a} {w = w} (omega arith) r

-- where there is one, "take the lowest of them instead"; else both keep what they had
instead_not_higher : {v w : ℕ} {l m : List ℕ} → v ≤ w → NotHigher l m → instead v l ≤ instead w m
instead_not_higher h EachTwo.none = h
instead_not_higher h (EachTwo.another g r) = lowest_under g (not_higher_under r)

lowest_after : (v : ℕ) {w : ℕ} {l m : List ℕ} → Under l (w ∷ m) → lowest v l ≤ lowest w m
lowest_after v {w} (Under.both {v = a} h r) = lowest_under {v = min v a} {w = w} (omega arith) r
lowest_after v (Under.new {v = a} r) = lowest_after (min v a) r

-- more of them never make the lowest higher, where there is one
instead_under : {w : ℕ} {l m : List ℕ} → Under l (w ∷ m) → instead 0 l ≤ lowest w m
instead_under (Under.both h r) = lowest_under h r
instead_under (Under.new {v = a} r) = lowest_after a r

chosen_not_higher : (b : Bool) {v w : ℕ} {l m : List ℕ} → v ≤ w → NotHigher l m → NotHigher (cond b (v ∷ l) l) (cond b (w ∷ m) m)
chosen_not_higher true h r = EachTwo.another h r
chosen_not_higher false h r = r

-- chosen on the left wherever it is on the right
chosen_under : (b c : Bool) {v w : ℕ} {l m : List ℕ} → (c ≡ true → b ≡ true) → v ≤ w → Under l m → Under (cond b (v ∷ l) l) (cond c (w ∷ m) m)
chosen_under true true f h r = Under.both h r
chosen_under true false f h r = Under.new r
chosen_under false true f h r = absurd (let z : false ≡ true = f refl in let y : ◌≡◌ {A = ℕ} 0 1 = cc in omega arith)
chosen_under false false f h r = r

-- ---- an element's speed does not depend on the train's length and maximum

module _ (u t : Train) (alike : Alike u t) where
  belongs_same : (c : ℕ) → belongs u c ≡ belongs t c
  belongs_same zero = alike.in_p
  belongs_same (suc zero) = alike.in_g
  belongs_same (suc (suc c)) = alike.passengers

  named_same : (q : ℕ) (l : List Entry) → named_speeds u q l ≡ named_speeds t q l
  named_same q [] = refl
  named_same q (e ∷ l) =
      ap₂ (λ (b : Bool) (m : List ℕ). cond (eqb e.q_diff q && b) (e.v_diff ∷ m) m) (belongs_same e.class) (named_same q l)

  above_same : (l : List Entry) → not_above u l ≡ not_above t l
  above_same [] = refl
  above_same (e ∷ l) =
      ap₂ (λ (cant : ℕ) (m : List Entry). cond (eqb e.q_diff 0 && leb e.class cant) (e ∷ m) m) alike.cant (above_same l)

  pub speed_same : (e : Element) → element_speed u e ≡ element_speed t e
  speed_same e =
      let l = e.entries in
      ap₂ (λ (a b : List ℕ). lowest (instead (instead e.v_static (greatest_speeds (not_above u l))) a) b) (named_same 1 l) (named_same 2 l)
      ∙ ap (λ (m : List Entry). lowest (instead (instead e.v_static (greatest_speeds m)) (named_speeds t 1 l)) (named_speeds t 2 l)) (above_same l)

-- ---- a raised speed never lowers an element's speed

module _ (t : Train) where
  named_raised : (n : ℕ) {l m : List Entry} → EntriesRaised l m → NotHigher (named_speeds t n l) (named_speeds t n m)
  named_raised n EntriesRaised.none = EachTwo.none
  named_raised n (EntriesRaised.more q c h r) = chosen_not_higher (eqb q n && belongs t c) h (named_raised n r)

  -- which entries are not above does not depend on their speeds
  above_raised : {l m : List Entry} → EntriesRaised l m → EntriesRaised (not_above t l) (not_above t m)
  above_raised EntriesRaised.none = EntriesRaised.none
  above_raised (EntriesRaised.more q c h r) = chosen (eqb q 0 && leb c t.cant) q c h (above_raised r)
    where
      chosen : (b : Bool) (q c : ℕ) {v w : ℕ} {l m : List Entry} → v ≤ w → EntriesRaised l m
          → EntriesRaised (cond b (record { q_diff = q; class = c; v_diff = v } ∷ l) l) (cond b (record { q_diff = q; class = c; v_diff = w } ∷ m) m)
      chosen true q c h r = EntriesRaised.more q c h r
      chosen false q c h r = r

  -- nor does the figure that is taken
  greatest_same : {l m : List Entry} → EntriesRaised l m → greatest_figure l ≡ greatest_figure m
  greatest_same EntriesRaised.none = refl
  greatest_same (EntriesRaised.more q c h r) = ap (max c) (greatest_same r)

  figure_raised : (figure : ℕ) {l m : List Entry} → EntriesRaised l m → NotHigher (figure_speeds figure l) (figure_speeds figure m)
  figure_raised figure EntriesRaised.none = EachTwo.none
  figure_raised figure (EntriesRaised.more q c h r) = chosen_not_higher (eqb c figure) h (figure_raised figure r)

  cant_raised : {l m : List Entry} → EntriesRaised l m → NotHigher (cant_speeds t l) (cant_speeds t m)
  cant_raised {l} {m} r =
      let a = above_raised r in
      subst (λ (f : ℕ). NotHigher (cant_speeds t l) (figure_speeds f (not_above t m))) (greatest_same a) (figure_raised (greatest_figure (not_above t l)) a)

  speed_raised : (e f : Element) → e.v_static ≤ f.v_static → EntriesRaised e.entries f.entries → element_speed t e ≤ element_speed t f
  speed_raised e f h r = lowest_under (instead_not_higher (instead_not_higher h (cant_raised r)) (named_raised 1 r)) (not_higher_under (named_raised 2 r))

-- ---- what holds

end_same : (lsp : ℕ) {l m : List Element} → ElementsRaised l m → end_before lsp l ≡ end_before lsp m
end_same lsp ElementsRaised.none = refl
end_same lsp (ElementsRaised.more s f h es r) = refl

module _ (u t : Train) (slower : Slower u t) where
  held_longer : (e : Element) (stop : ℕ) → held_to t e stop ≤ held_to u e stop
  held_longer e stop = by_cases (eqb e.q_front 0) (λ d. rw d (omega (arith, slower.longer))) (λ d. rw d (omega arith))

  -- what holds for a train holds for a longer one
  holds_longer : (e : Element) (stop x : ℕ) → holds t e stop x ≡ true → holds u e stop x ≡ true
  holds_longer e stop x h =
      let a = and_left (leb e.start x) (ltb x (held_to t e stop)) h in
      let b = ltb-true x (held_to t e stop) (and_right (leb e.start x) (ltb x (held_to t e stop)) h) in
      rw (a, lt-ltb x (held_to u e stop) (omega (arith, held_longer e stop)))

  held_slower : (lsp x : ℕ) {l m : List Element} → ElementsRaised l m → Under (held_speeds u lsp x l) (held_speeds t lsp x m)
  held_slower lsp x ElementsRaised.none = Under.none
  held_slower lsp x (ElementsRaised.more s f {v} {w} {es} {fs} {l} {m} h r rest) =
      let e : Element = record { start = s; v_static = v; q_front = f; entries = es } in
      let g : Element = record { start = s; v_static = w; q_front = f; entries = fs } in
      let not-above : element_speed u e ≤ element_speed t g = omega (arith, speed_same u t slower.alike e, speed_raised t e g h r) in
      subst (λ (stop : ℕ). Under (held_speeds u lsp x (e ∷ l)) (cond (holds t g stop x) (element_speed t g ∷ held_speeds t lsp x m) (held_speeds t lsp x m))) (end_same lsp rest)
      (chosen_under (holds u e (end_before lsp l) x) (holds t g (end_before lsp l) x) (holds_longer e (end_before lsp l) x) not-above (held_slower lsp x rest))

  -- "Longer or slower never means faster": at slower elements, where some element holds
  pub permitted_slower : (lsp x v : ℕ) (k : List ℕ) {l m : List Element} → ElementsRaised l m → held_speeds t lsp x m ≡ v ∷ k → permitted u lsp x l ≤ permitted t lsp x m
  permitted_slower lsp x v k {l} {m} r e =
      subst (λ (s : List ℕ). instead 0 (held_speeds u lsp x l) ≤ instead 0 s) (sym e) (instead_under (subst (Under (held_speeds u lsp x l)) e (held_slower lsp x r)))

  -- "a lower card maximum never raises one"
  pub limited_slower : (v w : ℕ) → v ≤ w → limited u v ≤ limited t w
  limited_slower v w h = omega (arith, slower.lower)
