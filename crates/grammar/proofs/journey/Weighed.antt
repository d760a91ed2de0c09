-- How long the sheet of a tree is at most, by the bits of its packet: p times the bytes and leave are at most q times the bits and add. A law for any tree.
use mathlib.Core.Path.{◌≡◌}
use mathlib.Core.Bool.{true}
use mathlib.Core.List.{List}
use Prim.Native.Nat.{ℕ, ◌+◌, ◌*◌, ◌≤◌}
use native.Mathlib.Nat.{mul-le-mul_left, mul-add}
use native.Mathlib.Omega.{arith}
use lib.ListN.{length, length-append}
use Rattle.bits.proofs.Spelling.{length_bits}
use Rattle.numbers.specs.Numbers.{groups_in}
use Rattle.numbers.proofs.Counting.{count_most}
use Rattle.kinds.specs.declared.Item.{Item}
use Rattle.kinds.specs.Kind.{Kind}
use Rattle.fields.proofs.Lawful.{LawfulKind}
use Rattle.format.specs.Format.{Format, end, field, write}
use Rattle.format.specs.Media.{packet, sheet}
use Rattle.format.specs.Conforming.{Conforming, done, also, InSheet}

-- p times the bytes of a tree's sheet and leave are at most q times the bits of its packet and add, for the factors p and q
pub data Weighed (p q : ℕ) : Format → ℕ → ℕ → Type 0 where
  empty : Weighed p q end 0 0
  more : {k : Kind} {next : ℕ → Format} {add leave : ℕ} → LawfulKind k → ((v : ℕ) → k.allowed v ≡ true → Weighed p q (next v) add leave)
      → Weighed p q (field k next) (p * length (groups_in k.highest) + add) (q * k.width + leave)
  looser : {f : Format} {a b add leave : ℕ} → Weighed p q f a b → a + leave ≤ add + b → Weighed p q f add leave

pub weighs : {p q add leave : ℕ} {f : Format} {l : List Item} → Weighed p q f add leave → Conforming InSheet f l
    → p * length (write sheet f l) + leave ≤ q * length (write packet f l) + add
weighs empty done = omega arith
weighs {p} {q} (more {k = k} {next = next} {add = a} {leave = b} w rest) (also {i = i} {l = l} g c) =
    let v = i.packet in
    let tree = next v in
    let h = weighs (rest v (w.into i.sheet v g.lowered)) c in
    let few : p * length (groups_in i.sheet) ≤ p * length (groups_in k.highest) =
    mul-le-mul_left p (count_most i.sheet k.highest (w.top i.sheet v g.lowered)) in
    rw (length-append, length-append, length_bits k.width v, mul-add, mul-add) (omega arith)
weighs (looser w h) c = omega (arith, weighs w c)
