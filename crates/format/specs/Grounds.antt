-- The grounds of a refusal, for any tree and any medium: what stands in front of the fault, the fault, and its place. No reader is run.
use Rattle.std.specs.Prelude.{◌≡◌, Bool, false, List, [], ◌∷◌, ◌++◌, ℕ, ◌+◌, ◌^◌, ◌<◌, length}
use Rattle.std.proofs.Math.Option.{none}
use Rattle.bits.specs.Bits.{bits_of}
use Rattle.numbers.specs.Numbers.{groups_in}
use Rattle.kinds.specs.declared.Item.{Item}
use Rattle.kinds.specs.Kind.{Kind}
use Rattle.format.specs.Format.{Format, end, field, Medium, write}
use Rattle.format.specs.Conforming.{Conforming}

-- "field by field in order": values that conform to the front of a tree, one good value for each field, and the tree that stands after them
pub data Front (Good : Kind → Item → Type 0) : Format → List Item → Format → Type 0 where
  here : {f : Format} → Front Good f [] f
  past : {k : Kind} {next : ℕ → Format} {i : Item} {l : List Item} {g : Format} → Good k i → Front Good (next i.packet) l g → Front Good (field k next) (i ∷ l) g

-- what holds of every kind in a tree, whatever the values
pub data Every (Holds : Kind → Type 0) : Format → Type 0 where
  at_end : Every Holds end
  each : {k : Kind} {next : ℕ → Format} → Holds k → ((v : ℕ) → Every Holds (next v)) → Every Holds (field k next)

-- one of the numbers of a list, as the "Refusal numbers"
pub data Among (a : ℕ) : List ℕ → Type 0 where
  first : {l : List ℕ} → Among a (a ∷ l)
  later : {b : ℕ} {l : List ℕ} → Among a l → Among a (b ∷ l)

-- "When a packet is written": an input that is written of conforming values
pub record Written {A : Type 0} (m : Medium A) (Good : Kind → Item → Type 0) (f : Format) (s : List A) (values : List Item) : Type 0 where
  pub good : Conforming Good f values
  pub whole : s ≡ write m f values

-- "6 before 4 or 5": what is wrong with a field of a packet that these bits are left for
pub data BitsFault (k : Kind) (bits : List Bool) (r : ℕ) : Type 0 where
  -- "6: a field doesn't fit in the body's remaining bits"
  unfitting : length bits < k.width → r ≡ 6 → BitsFault k bits r
  -- it fits, and its value is not allowed: refused as its kind says, "4: a field outside its range or set", 5 for a change's location
  unallowed : (v : ℕ) (more : List Bool) → v < 2 ^ k.width → bits ≡ bits_of k.width v ++ more → k.allowed v ≡ false → r ≡ k.refusal v
      → BitsFault k bits r

-- bytes that begin with the shortest form of a number "below 4,294,967,296"
pub record Begins (bytes : List ℕ) (a : ℕ) : Type 0 where
  pub below : a < 4294967296
  pub more : List ℕ
  pub whole : bytes ≡ groups_in a ++ more

-- "9 before 2, 4 or 5": what is wrong with a field of a sheet that these bytes are left for
pub data GroupsFault (k : Kind) (bytes : List ℕ) (r : ℕ) : Type 0 where
  -- "9: sheet ends too soon, .. or a number is not in its shortest form or not below 4,294,967,296"
  numberless : ((a : ℕ) → Begins bytes a → ⊥) → r ≡ 9 → GroupsFault k bytes r
  -- a number, and no value of the packet for it: refused as its kind says, with 2, 4 or 5
  unallowed : (a : ℕ) → Begins bytes a → k.lower a ≡ none → r ≡ k.refusal a → GroupsFault k bytes r

module _ {A : Type 0} (m : Medium A) (Good : Kind → Item → Type 0) (Fault : Kind → List A → ℕ → Type 0) where
  -- "field by field in order": a field at fault, after values that conform; its place, "the first bit of the field at fault", "the first byte of the number"
  pub record AtField (f : Format) (at : ℕ) (s : List A) (r place : ℕ) : Type 0 where
    pub values : List Item
    pub kind : Kind
    pub next : ℕ → Format
    pub front : Front Good f values (field kind next)
    pub rest : List A
    pub whole : s ≡ write m f values ++ rest
    pub fault : Fault kind rest r
    pub stands : place ≡ at + length (write m f values)

  -- "13 .. for body bits left", "9 for bytes left": something left after the last field; "the place is the first one left"
  pub record LeftOver (f : Format) (at : ℕ) (s : List A) (r place : ℕ) : Type 0 where
    pub values : List Item
    pub good : Conforming Good f values
    pub rest : List A
    pub whole : s ≡ write m f values ++ rest
    pub some : 0 < length rest
    pub number : r ≡ m.left
    pub stands : place ≡ at + length (write m f values)

  -- the ground on which r is given at a place, for what stands at the place at: "field by field in order", then what is left over
  pub data Ground (f : Format) (at : ℕ) (s : List A) (r place : ℕ) : Type 0 where
    at_field : AtField f at s r place → Ground f at s r place
    left_over : LeftOver f at s r place → Ground f at s r place

-- "an answer or the one refusal": an answer, or a ground
pub data Ending (Answered : Type 0) {I : Type 0} (Ground : I → Type 0) : Type 0 where
  answered : Answered → Ending Answered Ground
  grounded : (i : I) → Ground i → Ending Answered Ground

-- "ends with an answer or the one refusal the rules name"
pub record OneEnding (Answered : Type 0) {I : Type 0} (Ground : I → Type 0) : Type 0 where
  pub ending : Ending Answered Ground
  pub apart : (i : I) → Answered → Ground i → ⊥
  pub one : (i j : I) → Ground i → Ground j → i ≡ j

-- "Each refusal is given then and not otherwise", with its place: good values, or one ground, for one number and one place
abbrev pub OneJudgement : (List Item → Type 0) → (ℕ → ℕ → Type 0) → Type 0
OneJudgement Values Ground = OneEnding ((l : List Item) × Values l) {I = ℕ × ℕ} (λ p. Ground p.0 p.1)
