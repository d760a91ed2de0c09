-- How long what is written of a format is, at least and at most: counted once for any costs of its fields, and applied to each medium.
use mathlib.Core.Path.{◌≡◌}
use mathlib.Core.Bool.{true}
use mathlib.Core.List.{List}
use Prim.Native.Nat.{ℕ, ◌+◌, ◌≤◌}
use native.Mathlib.Omega.{arith}
use lib.ListN.{length, length-append}
use Rattle.bits.proofs.Spelling.{length_bits}
use Rattle.numbers.specs.Numbers.{groups_in}
use Rattle.numbers.proofs.Counting.{count_most, count_some}
use Rattle.kinds.specs.declared.Item.{Item}
use Rattle.kinds.specs.Kind.{Kind}
use Rattle.fields.proofs.Lawful.{LawfulKind}
use Rattle.format.specs.Format.{Format, end, field, Medium, write}
use Rattle.format.specs.Media.{packet, sheet}
use Rattle.format.specs.Conforming.{Conforming, also, InPacket, InSheet}
use Rattle.format.specs.Grounds.{Front, here, past, Ground, at_field, left_over}
use Rattle.format.proofs.Lawful.{Lawful, ends, goes}
use Rattle.format.proofs.Grounds.{all_front}

-- a format of lawful kinds, with the sum of its fields' least and most costs, or wider bounds
pub data Measured (lo hi : Kind → ℕ) : Format → ℕ → ℕ → Type 0 where
  over : Measured lo hi end 0 0
  plus : {k : Kind} {next : ℕ → Format} {a b : ℕ} → LawfulKind k → ((v : ℕ) → k.allowed v ≡ true → Measured lo hi (next v) a b)
      → Measured lo hi (field k next) (lo k + a) (hi k + b)
  wider : {f : Format} {a b low high : ℕ} → Measured lo hi f a b → low ≤ a → b ≤ high → Measured lo hi f low high

pub within : {lo hi : Kind → ℕ} {f : Format} {a b : ℕ} (low high : ℕ) → Measured lo hi f a b → low ≤ a → b ≤ high → Measured lo hi f low high
within low high m p q = wider m p q

pub lawful : {lo hi : Kind → ℕ} {f : Format} {low high : ℕ} → Measured lo hi f low high → Lawful f
lawful over = ends
lawful (plus w rest) = goes w (λ v e. lawful (rest v e))
lawful (wider m p q) = lawful m

-- a medium in which a field of a lawful kind costs lo to hi
pub record Priced {A : Type 0} (m : Medium A) (Good : Kind → Item → Type 0) (lo hi : Kind → ℕ) : Type 0 where
  pub allows : (k : Kind) (i : Item) → LawfulKind k → Good k i → k.allowed i.packet ≡ true
  pub least : (k : Kind) (i : Item) → LawfulKind k → Good k i → lo k ≤ length (m.put k i)
  pub most : (k : Kind) (i : Item) → LawfulKind k → Good k i → length (m.put k i) ≤ hi k

module _ {A : Type 0} {m : Medium A} {Good : Kind → Item → Type 0} {lo hi : Kind → ℕ} (price : Priced m Good lo hi) where
  pub size_least : {f : Format} {low high : ℕ} → Measured lo hi f low high → {l : List Item} → Conforming Good f l → low ≤ length (write m f l)
  size_least over c = omega arith
  size_least (plus {k = k} w rest) (also {i = i} g c) =
      rw length-append (omega (arith, price.least k i w g, size_least (rest i.packet (price.allows k i w g)) c))
  size_least (wider s p q) c = omega (arith, size_least s c)

  -- the most that is written of values that conform to the front of a format
  pub front_most : {f g : Format} {low high : ℕ} → Measured lo hi f low high → {l : List Item} → Front Good f l g → length (write m f l) ≤ high
  front_most over here = omega arith
  front_most (plus w rest) here = omega arith
  front_most (plus {k = k} w rest) (past {i = i} g c) =
      rw length-append (omega (arith, price.most k i w g, front_most (rest i.packet (price.allows k i w g)) c))
  front_most (wider s p q) c = omega (arith, front_most s c)

  pub size_most : {f : Format} {low high : ℕ} → Measured lo hi f low high → {l : List Item} → Conforming Good f l → length (write m f l) ≤ high
  size_most s c = front_most s (all_front c)

  -- how far a refusal's place can be from the start
  pub ground_most : {Fault : Kind → List A → ℕ → Type 0} {f : Format} {low high : ℕ} → Measured lo hi f low high → {at : ℕ} {s : List A} {r place : ℕ}
      → Ground m Good Fault f at s r place → place ≤ at + high
  ground_most s (at_field a) = omega (arith, a.stands, front_most s a.front)
  ground_most s (left_over a) = omega (arith, a.stands, size_most s a.good)

-- a packet's field costs its width
pub packet_priced : Priced packet InPacket (λ k. k.width) (λ k. k.width)
packet_priced = record {
  allows = λ k i w g. g.allowed;
  least = λ k i w g. omega (arith, length_bits k.width i.packet);
  most = λ k i w g. omega (arith, length_bits k.width i.packet);
}

-- a packet's field costs its width, for a value as a sheet gives it
pub lowered_priced : Priced packet InSheet (λ k. k.width) (λ k. k.width)
lowered_priced = record {
  allows = λ k i w g. w.into i.sheet i.packet g.lowered;
  least = λ k i w g. omega (arith, length_bits k.width i.packet);
  most = λ k i w g. omega (arith, length_bits k.width i.packet);
}

-- a sheet's field costs a group at least, and the groups of its kind's highest number at most
pub sheet_priced : Priced sheet InSheet (λ k. 1) (λ k. length (groups_in k.highest))
sheet_priced = record {
  allows = λ k i w g. w.into i.sheet i.packet g.lowered;
  least = λ k i w g. count_some i.sheet;
  most = λ k i w g. count_most i.sheet k.highest (w.top i.sheet i.packet g.lowered);
}
