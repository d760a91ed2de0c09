-- A pass over a tree: it takes the fields in order, adds each value to what it made before, and answers at the end or at a refusal. Used by contracts of the code; no promise names these.
use Rattle.std.specs.Prelude.{List, [], ◌∷◌, ℕ, ◌+◌, length, Result, Ok, Err}
use Rattle.kinds.specs.declared.Item.{Item}
use Rattle.kinds.specs.Kind.{Kind}
use Rattle.format.specs.Format.{Format, end, field, FieldStep, step, stopped_with, Medium}
use Rattle.format.specs.internal.Places.{Taken}

-- what a pass makes of a value, what it answers where all is taken, and what of a refusal at a place
pub record Task (X B : Type 0) : Type 0 where
  pub on : Kind → Item → X → X
  pub answer : X → B
  pub refusal : ℕ → ℕ → B

-- the answer from what the next field gives
abbrev pub of_step : {A B : Type 0} → (ℕ → B) → FieldStep A → (Item → List A → B) → B
of_step refusal (step i s) go = go i s
of_step refusal (stopped_with r) go = refusal r

-- the answer from a field taken at a place, and from a field's value judged
abbrev pub of_taken : {B : Type 0} → (ℕ → B) → Taken → (Item → ℕ → B) → B
of_taken refusal (Taken.Is i to) go = go i to
of_taken refusal (Taken.Refused r) go = refusal r

abbrev pub of_field : {B : Type 0} → (ℕ → B) → Result Item ℕ → (Item → B) → B
of_field refusal (Ok i) go = go i
of_field refusal (Err r) go = refusal r

module _ {A X B : Type 0} where
  -- the answer of a tree, from what was made so far, the place and what is left
  abbrev pub pass : Medium A → Task X B → Format → X → ℕ → List A → B
  pass m t end x at [] = t.answer x
  pass m t end x at (a ∷ s) = t.refusal m.left at
  pass m t (field k next) x at s =
      of_step (λ r. t.refusal r at) (m.take k s) (λ i u. pass m t (next i.packet) (t.on k i x) (at + length (m.put k i)) u)

-- what is made of a tree's values
abbrev pub made : {X B : Type 0} → Task X B → Format → List Item → X → X
made t end l x = x
made t (field k next) [] x = x
made t (field k next) (i ∷ l) x = made t (next i.packet) l (t.on k i x)
