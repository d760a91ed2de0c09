-- Steps over the parts of a tree, whatever the pass carries: one after another, a field and what depends on its value, a loop.
use mathlib.Core.Path.{◌≡◌, refl, ap, ◌∙◌}
use mathlib.Core.List.{List}
use Prim.Native.Nat.{ℕ, zero, suc, ◌-◌, ◌≤◌, ◌<◌}
use native.Mathlib.Omega.{arith}
use Rattle.kinds.specs.declared.Item.{Item}
use Rattle.kinds.specs.Kind.{Kind}
use Rattle.format.specs.Format.{Format, field, times, Medium}
use Rattle.format.specs.internal.Places.{Taken}
use Rattle.format.specs.internal.Pass.{Task}
use Rattle.format.specs.internal.Ways.{Way, passing, Went, Got, Over, Took, Gave, Left, Ahead}
use Rattle.format.proofs.Passing.{Seen, pass_field}

-- ---- one more of the parts that are left, and none

pub times_more : (part : Format → Format) (n : ℕ) → 0 < n → (f : Format) → times part n f ≡ part (times part (n - 1) f)
unfolding times
times_more part zero h f = absurd (omega arith)
times_more part (suc n) h f = let e : suc n - 1 ≡ n = omega arith in rw e

pub times_none : (part : Format → Format) (n : ℕ) → n ≤ 0 → (f : Format) → times part n f ≡ f
unfolding times
times_none part zero h f = refl
times_none part (suc n) h f = absurd (omega arith)

module _ {X B : Type 0} {w : Way X B} where
  -- ---- parts, one after another

  module _ {p q : Format → Format} {at : ℕ} {x : X} where
    pub over_on : {to : ℕ} {y : X} {r : Went X} → Over w p at x (Went.on to y) → Over w q to y r → Over w (λ f. p (q f)) at x r
    over_on a b = record { goes = λ f. a.goes (q f) ∙ b.goes f; stands = b.stands }

    pub over_off : {r place : ℕ} → Over w p at x (Went.off r place) → Over w (λ f. p (q f)) at x (Went.off r place)
    over_off a = record { goes = λ f. a.goes (q f); stands = tt }

  -- an empty part, which stays at its place
  pub over_none : {at : ℕ} {x : X} → w.Here at x → Over w (λ f. f) at x (Went.on at x)
  over_none h = record { goes = λ f. refl; stands = h }

  -- ---- a field, and what depends on its value

  module _ {k : Kind} {at : ℕ} {x : X} (part : ℕ → Format → Format) where
    pub value_on : {v to : ℕ} {y : X} {r : Went X} → Took w k at x (Got.is v to y) → Over w (part v) to y r
        → Over w (λ f. field k (λ u. part u f)) at x r
    value_on a b = record { goes = λ f. a.goes (λ u. part u f) ∙ b.goes f; stands = b.stands }

    pub value_off : {r place : ℕ} → Took w k at x (Got.off r place) → Over w (λ f. field k (λ u. part u f)) at x (Went.off r place)
    value_off a = record { goes = λ f. a.goes (λ u. part u f); stands = tt }

  -- ---- a part with a value: made of other parts, and what depends on the value

  pub gave_took : {k : Kind} {at : ℕ} {x : X} {r : Got X} → Took w k at x r → Gave w (field k) at x r
  gave_took a = record { goes = a.goes; stands = a.stands }

  module _ {p : Format → Format} {q : (ℕ → Format) → Format} {at : ℕ} {x : X} where
    pub gave_on : {to : ℕ} {y : X} {r : Got X} → Over w p at x (Went.on to y) → Gave w q to y r → Gave w (λ next. p (q next)) at x r
    gave_on a b = record { goes = λ next. a.goes (q next) ∙ b.goes next; stands = b.stands }

    pub gave_off : {r place : ℕ} → Over w p at x (Went.off r place) → Gave w (λ next. p (q next)) at x (Got.off r place)
    gave_off a = record { goes = λ next. a.goes (q next); stands = tt }

  module _ {p : (ℕ → Format) → Format} {q : Format → Format} {at : ℕ} {x : X} where
    pub gave_then : {v to a : ℕ} {y z : X} → Gave w p at x (Got.is v to y) → Over w q to y (Went.on a z) → Gave w (λ next. p (λ u. q (next u))) at x (Got.is v a z)
    gave_then {v} g o = record { goes = λ next. g.goes (λ u. q (next u)) ∙ o.goes (next v); stands = o.stands }

    pub gave_stop : {v to r place : ℕ} {y : X} → Gave w p at x (Got.is v to y) → Over w q to y (Went.off r place) → Gave w (λ next. p (λ u. q (next u))) at x (Got.off r place)
    gave_stop {v} g o = record { goes = λ next. g.goes (λ u. q (next u)) ∙ o.goes (next v); stands = tt }

  pub gave_none : {p : (ℕ → Format) → Format} (q : Format → Format) {at : ℕ} {x : X} {r place : ℕ} → Gave w p at x (Got.off r place) → Gave w (λ next. p (λ u. q (next u))) at x (Got.off r place)
  gave_none q g = record { goes = λ next. g.goes (λ u. q (next u)); stands = tt }

  module _ {p : (ℕ → Format) → Format} {at : ℕ} {x : X} (part : ℕ → Format → Format) where
    pub part_on : {v to : ℕ} {y : X} {r : Went X} → Gave w p at x (Got.is v to y) → Over w (part v) to y r → Over w (λ f. p (λ u. part u f)) at x r
    part_on a b = record { goes = λ f. a.goes (λ u. part u f) ∙ b.goes f; stands = b.stands }

    pub part_off : {r place : ℕ} → Gave w p at x (Got.off r place) → Over w (λ f. p (λ u. part u f)) at x (Went.off r place)
    part_off a = record { goes = λ f. a.goes (λ u. part u f); stands = tt }

  -- ---- the loops: what is left of a part

  pub left_all : {p : Format → Format} {at : ℕ} {x : X} → w.Here at x → Left w p p at x at x
  left_all h = record { stands = h; same = λ f. refl }

  pub left_none : {p : Format → Format} {at to : ℕ} {x y : X} → Left w p (λ f. f) at x to y → Over w p at x (Went.on to y)
  left_none l = record { goes = l.same; stands = l.stands }

  module _ {p : Format → Format} (q r : Format → Format) {at to : ℕ} {x y : X} (l : Left w p (λ f. q (r f)) at x to y) where
    pub left_on : {a : ℕ} {z : X} → Over w q to y (Went.on a z) → Left w p r at x a z
    left_on o = record { stands = o.stands; same = λ f. l.same f ∙ o.goes (r f) }

    pub left_off : {e place : ℕ} → Over w q to y (Went.off e place) → Over w p at x (Went.off e place)
    left_off o = record { goes = λ f. l.same f ∙ o.goes (r f); stands = tt }

  module _ {k : Kind} {p : Format → Format} {at to : ℕ} {x y : X} (part : ℕ → Format → Format) (l : Left w p (λ f. field k (λ u. part u f)) at x to y) where
    pub left_value : {v a : ℕ} {z : X} → Took w k to y (Got.is v a z) → Left w p (part v) at x a z
    left_value o = record { stands = o.stands; same = λ f. l.same f ∙ o.goes (λ u. part u f) }

    pub left_refused : {e place : ℕ} → Took w k to y (Got.off e place) → Over w p at x (Went.off e place)
    left_refused o = record { goes = λ f. l.same f ∙ o.goes (λ u. part u f); stands = tt }

  -- a part replaced by an equal part
  pub left_as : {p q : Format → Format} (r : Format → Format) {at to : ℕ} {x y : X} → ((f : Format) → q f ≡ r f) → Left w p q at x to y → Left w p r at x to y
  left_as r {to = to} {y = y} e l = record { stands = l.stands; same = λ f. l.same f ∙ ap (λ (g : Format). w.run g to y) (e f) }

  -- ---- a part n times: one more, and none left

  module _ {p : Format → Format} (part : Format → Format) {n at to : ℕ} {x y : X} (l : Left w p (times part n) at x to y) where
    module _ (some : 0 < n) where
      more : Left w p (λ f. part (times part (n - 1) f)) at x to y
      more = left_as (λ f. part (times part (n - 1) f)) (times_more part n some) l

      pub times_on : {a : ℕ} {z : X} → Over w part to y (Went.on a z) → Left w p (times part (n - 1)) at x a z
      times_on o = left_on part (times part (n - 1)) more o

      pub times_off : {e place : ℕ} → Over w part to y (Went.off e place) → Over w p at x (Went.off e place)
      times_off o = left_off part (times part (n - 1)) more o

    pub times_end_lem : n ≤ 0 → Over w p at x (Went.on to y)
    times_end_lem h = left_none (left_as (λ f. f) (times_none part n h) l)

  -- ---- what was promised of the answer, carried on

  module _ {Good : B → Type 0} where
    pub ahead_first : {p : Format → Format} (q : Format → Format) {at : ℕ} {x : X} → Ahead w Good (λ f. p (q f)) at x → Ahead w Good p at x
    ahead_first q h = record { follows = q h.follows; good = h.good }

    pub ahead_on : {p : Format → Format} (q : Format → Format) {at to : ℕ} {x y : X} → Over w p at x (Went.on to y) → Ahead w Good (λ f. p (q f)) at x → Ahead w Good q to y
    ahead_on q o h = record { follows = h.follows; good = rw (o.goes (q h.follows)) at h.good }

    pub ahead_value : {k : Kind} (part : ℕ → Format → Format) {v at to : ℕ} {x y : X} → Took w k at x (Got.is v to y)
        → Ahead w Good (λ f. field k (λ u. part u f)) at x → Ahead w Good (part v) to y
    ahead_value part o h = record { follows = h.follows; good = rw (o.goes (λ u. part u h.follows)) at h.good }

    pub ahead_left : {p q : Format → Format} {at to : ℕ} {x y : X} → Left w p q at x to y → Ahead w Good p at x → Ahead w Good q to y
    ahead_left l h = record { follows = h.follows; good = rw (l.same h.follows) at h.good }

    pub ahead_as : {p : Format → Format} (q : Format → Format) {at : ℕ} {x : X} → ((f : Format) → p f ≡ q f) → Ahead w Good p at x → Ahead w Good q at x
    ahead_as q e h = record { follows = h.follows; good = rw (e h.follows) at h.good }

    -- no good answer is a refusal
    pub ahead_never : {k : Kind} (part : ℕ → Format → Format) {at : ℕ} {x : X} {r place : ℕ} {C : Type 0} → (Good (w.refusal r place) → ⊥) → Took w k at x (Got.off r place)
        → Ahead w Good (λ f. field k (λ u. part u f)) at x → C
    ahead_never part n o h = absurd (n (rw (o.goes (λ u. part u h.follows)) at h.good))

-- ---- a field taken at a place, in any medium that is seen at places

module _ {A X B : Type 0} {m : Medium A} {view : ℕ → List A} {took : Kind → ℕ → Taken} {There : ℕ → Type 0} (seen : Seen m view took There)
    (t : Task X B) (Here : ℕ → X → Type 0) (k : Kind) {at : ℕ} {x : X} (h : There at) where
  pub took_is : {i : Item} {to : ℕ} → Taken.Is i to ≡ took k at → Here to (t.on k i x) → Took (passing m t view Here) k at x (Got.is i.packet to (t.on k i x))
  took_is e s = record { goes = λ next. rw (pass_field seen t k next x at h, ← e); stands = s }

  pub took_off : {r : ℕ} → Taken.Refused r ≡ took k at → Took (passing m t view Here) k at x (Got.off r at)
  took_off e = record { goes = λ next. rw (pass_field seen t k next x at h, ← e); stands = tt }
