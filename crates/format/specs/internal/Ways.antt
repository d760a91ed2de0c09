-- A step over a part of a tree, in a pass that may carry anything from place to place. Used by contracts of the code; no promise names these.
use Rattle.std.specs.Prelude.{◌≡◌, List, ℕ}
use Rattle.kinds.specs.Kind.{Kind}
use Rattle.format.specs.Format.{Format, field, Medium}
use Rattle.format.specs.internal.Pass.{Task, pass}

-- A pass seen at places: the answer of a tree that stands at a place, with what is carried there; a refusal's answer at a place;
-- and what is known at a place that is reached.
pub record Way (X B : Type 0) : Type 1 where
  pub run : Format → ℕ → X → B
  pub refusal : ℕ → ℕ → B
  pub Here : ℕ → X → Type 0

-- a task over a medium that is seen at places
abbrev pub passing : {A X B : Type 0} → Medium A → Task X B → (ℕ → List A) → (ℕ → X → Type 0) → Way X B
passing m t view Here = record { run = λ f at x. pass m t f x at (view at); refusal = t.refusal; Here = Here }

-- where a step over a part leads: to a place with what is carried there, or to a refusal with its place
pub data Went (X : Type 0) : Type 0 where
  on : ℕ → X → Went X
  off : ℕ → ℕ → Went X

-- where a step over one field leads: to its value and a place, with what is carried there, or to a refusal with its place
pub data Got (X : Type 0) : Type 0 where
  is : ℕ → ℕ → X → Got X
  off : ℕ → ℕ → Got X

module _ {X B : Type 0} (w : Way X B) where
  -- the answer from a step on
  abbrev pub onward : Went X → (ℕ → X → B) → B
  onward (Went.on at x) go = go at x
  onward (Went.off r at) go = w.refusal r at

  abbrev pub Stands : Went X → Type 0
  Stands (Went.on at x) = w.Here at x
  Stands (Went.off r at) = Unit {0}

  abbrev pub with_value : Got X → (ℕ → ℕ → X → B) → B
  with_value (Got.is v at x) go = go v at x
  with_value (Got.off r at) go = w.refusal r at

  abbrev pub Holds : Got X → Type 0
  Holds (Got.is v at x) = w.Here at x
  Holds (Got.off r at) = Unit {0}

  -- A step over a part of the tree: whatever follows the part, the answer is the answer from the step on.
  pub record Over (part : Format → Format) (at : ℕ) (x : X) (r : Went X) : Type 0 where
    pub goes : (f : Format) → w.run (part f) at x ≡ onward r (w.run f)
    pub stands : Stands r

  -- A step over one field, on whose value what follows may depend.
  pub record Took (k : Kind) (at : ℕ) (x : X) (r : Got X) : Type 0 where
    pub goes : (next : ℕ → Format) → w.run (field k next) at x ≡ with_value r (λ v. w.run (next v))
    pub stands : Holds r

  -- what is left of a loop: the part p from here is the part q from there
  pub record Left (p q : Format → Format) (at : ℕ) (x : X) (to : ℕ) (y : X) : Type 0 where
    pub stands : w.Here to y
    pub same : (f : Format) → w.run (p f) at x ≡ w.run (q f) to y

  -- What was promised of the whole answer: something follows the part with which the answer is good.
  pub record Ahead (Good : B → Type 0) (part : Format → Format) (at : ℕ) (x : X) : Type 0 where
    pub follows : Format
    pub good : Good (w.run (part follows) at x)

  -- A part with a field on whose value what follows may depend.
  pub record Gave (part : (ℕ → Format) → Format) (at : ℕ) (x : X) (r : Got X) : Type 0 where
    pub goes : (next : ℕ → Format) → w.run (part next) at x ≡ with_value r (λ v. w.run (next v))
    pub stands : Holds r
