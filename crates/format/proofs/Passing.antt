-- A pass is a reading and what is made of its values; and a pass at a place, field by field.
use mathlib.Core.Path.{◌≡◌, refl, ◌∙◌}
use mathlib.Core.List.{List, [], ◌∷◌}
use Prim.Native.Nat.{ℕ, ◌+◌, ◌-◌, ◌≤◌}
use native.Mathlib.Omega.{arith}
use borrow.Author.Tests.{ltb-false}
use lib.Dec.{ltb}
use lib.ListN.{length, drop}
use lib.Seq.{take-take, drop-drop}
use Rattle.bits.specs.Bits.{bits_of_bytes, field_at}
use Rattle.bits.proofs.Tests.{by_cases}
use Rattle.bits.proofs.Spelling.{length_bits}
use Rattle.bits.proofs.Fields.{drop_take}
use Rattle.std.specs.Prelude.{Some, None, Option}
use Rattle.numbers.specs.Numbers.{number_in, groups_in}
use Rattle.kinds.specs.declared.Item.{Item}
use Rattle.std.specs.Prelude.{Result, Ok, Err}
use Rattle.kinds.specs.Kind.{Kind}
use Rattle.kinds.specs.Judged.{value_in_packet, number_in_sheet}
use Rattle.format.specs.Format.{Format, end, field, Read, accepted, refused, FieldStep, step, stopped_with, Medium, with, follow, read, answer_of}
use Rattle.format.specs.Media as media
use Rattle.format.specs.Media.{take_bits, put_bits, take_groups, put_groups, packet, sheet}
use Rattle.format.specs.internal.Places as places
use Rattle.format.specs.internal.Places.{Taken, bits_between, Placed, taken_at, bits_taken, number_taken}
use Rattle.format.proofs.Places.{rest_length}
use Rattle.format.proofs.Media.{from_sheet_lem}
use Rattle.format.specs.internal.Pass.{Task, of_step, of_taken, pass, made}

module _ {A X B : Type 0} (m : Medium A) (t : Task X B) where
  -- a pass is a reading, and what is made of the values
  pub pass_read : (f : Format) (x : X) (at : ℕ) (s : List A)
      → pass m t f x at s ≡ answer_of t.refusal (λ l. t.answer (made t f l x)) (read m f at s)
  pass_read end x at [] = refl
  pass_read end x at (a ∷ s) = refl
  pass_read (field k next) x at s = go (λ i v. pass_read (next i.packet) (t.on k i x) (at + length (m.put k i)) v) (m.take k s)
    where
      with_one : (i : Item) (r : Read) → answer_of t.refusal (λ l. t.answer (made t (next i.packet) l (t.on k i x))) r
          ≡ answer_of t.refusal (λ l. t.answer (made t (field k next) l x)) (with i r)
      with_one i (accepted l) = refl
      with_one i (refused r n) = refl

      go : ((i : Item) (v : List A) → pass m t (next i.packet) (t.on k i x) (at + length (m.put k i)) v
          ≡ answer_of t.refusal (λ l. t.answer (made t (next i.packet) l (t.on k i x))) (read m (next i.packet) (at + length (m.put k i)) v))
          → (u : FieldStep A) → of_step (λ r. t.refusal r at) u (λ i v. pass m t (next i.packet) (t.on k i x) (at + length (m.put k i)) v)
          ≡ answer_of t.refusal (λ l. t.answer (made t (field k next) l x))
          (follow at u (λ i v. read m (next i.packet) (at + length (m.put k i)) v))
      go more (step i v) = more i v ∙ with_one i (read m (next i.packet) (at + length (m.put k i)) v)
      go more (stopped_with r) = refl

-- ---- a medium seen at places

-- the medium's step, from a field taken at a place
abbrev pub step_at : {A : Type 0} → (ℕ → List A) → Taken → FieldStep A
step_at view (Taken.Is i to) = step i (view to)
step_at view (Taken.Refused r) = stopped_with r

-- what is taken at a place is what the medium takes of what stands there, and the place after it is as far as what is put for it
pub record Seen {A : Type 0} (m : Medium A) (view : ℕ → List A) (took : Kind → ℕ → Taken) (Here : ℕ → Type 0) : Type 0 where
  pub sees : (k : Kind) (at : ℕ) → Here at → m.take k (view at) ≡ step_at view (took k at)
  pub moves : (k : Kind) (at : ℕ) → Here at → {i : Item} {to : ℕ} → took k at ≡ Taken.Is i to → at + length (m.put k i) ≡ to

module _ {A X B : Type 0} {m : Medium A} {view : ℕ → List A} {took : Kind → ℕ → Taken} {Here : ℕ → Type 0} (seen : Seen m view took Here) (t : Task X B) where
  -- a field at a place, and then what follows at the place after it
  pub pass_field : (k : Kind) (next : ℕ → Format) (x : X) (at : ℕ) → Here at
      → pass m t (field k next) x at (view at) ≡ of_taken (λ r. t.refusal r at) (took k at) (λ i to. pass m t (next i.packet) (t.on k i x) to (view to))
  pass_field k next x at h = rw (seen.sees k at h) (go (took k at) refl)
    where
      go : (u : Taken) → took k at ≡ u
          → of_step (λ r. t.refusal r at) (step_at view u) (λ i v. pass m t (next i.packet) (t.on k i x) (at + length (m.put k i)) v)
          ≡ of_taken (λ r. t.refusal r at) u (λ i to. pass m t (next i.packet) (t.on k i x) to (view to))
      go (Taken.Is i to) e = rw (seen.moves k at h e)
      go (Taken.Refused r) e = refl

-- ---- a packet's bits

stepped_taken : {A : Type 0} (view : ℕ → List A) (f : Result Item ℕ) (to : ℕ) → media.stepped f (view to) ≡ step_at view (taken_at f to)
stepped_taken view (Ok i) to = refl
stepped_taken view (Err r) to = refl

-- a value judged and taken: the value, and the place after it
taken_is : {C : Type 0} (f : Result Item ℕ) (next : ℕ) {i : Item} {to : ℕ} → taken_at f next ≡ Taken.Is i to → (f ≡ Ok i → next ≡ to → C) → C
taken_is (Ok j) next e k = k (cc) (cc)
taken_is (Err r) next e k = cc

module _ (s : List ℕ) (end : ℕ) where
  bits_sees : (k : Kind) (at : ℕ) → Placed s at end → take_bits k (bits_between s at end) ≡ step_at (λ n. bits_between s n end) (bits_taken k s at end)
  unfolding field_at
  bits_sees k at h =
      rw (rest_length s end at h)
      (by_cases (ltb (end - at) k.width)
      (λ d. rw d)
      (λ d. let l : k.width ≤ end - at = ltb-false (end - at) k.width d in
      let e : end - at - k.width ≡ end - (at + k.width) = omega arith in
      rw (
        d,
        take-take k.width (end - at) (drop at (bits_of_bytes s)) l,
        drop_take k.width (end - at) (drop at (bits_of_bytes s)),
        drop-drop,
        e,
      )
      (stepped_taken (λ n. bits_between s n end) (value_in_packet k (field_at s at k.width)) (at + k.width))))

  bits_moves : (k : Kind) (at : ℕ) → Placed s at end → {i : Item} {to : ℕ} → bits_taken k s at end ≡ Taken.Is i to → at + length (put_bits k i) ≡ to
  bits_moves k at h {i} e =
      by_cases (ltb (end - at) k.width)
      (λ d. let z = rw d at e in cc)
      (λ d. taken_is (value_in_packet k (field_at s at k.width)) (at + k.width) (rw d at e) λ f n. rw (length_bits k.width i.packet) n)

  pub packet_seen : Seen packet (λ at. bits_between s at end) (λ k at. bits_taken k s at end) (λ at. Placed s at end)
  packet_seen = record { sees = bits_sees; moves = bits_moves }

-- ---- a sheet's groups

module _ (s : List ℕ) where
  groups_sees : (k : Kind) (at : ℕ) → Unit {0} → take_groups k (drop at s) ≡ step_at (λ n. drop n s) (number_taken k s at)
  groups_sees k at h = go (number_in (drop at s))
    where
      go : (x : Option ℕ) → media.numbered k x (drop at s) ≡ step_at (λ n. drop n s) (places.taken_of k at x)
      go (Some a) = rw drop-drop (stepped_taken (λ n. drop n s) (number_in_sheet k a) (at + length (groups_in a)))
      go None = refl

  groups_moves : (k : Kind) (at : ℕ) → Unit {0} → {i : Item} {to : ℕ} → number_taken k s at ≡ Taken.Is i to → at + length (put_groups k i) ≡ to
  groups_moves k at h {i} {to} = go (number_in (drop at s))
    where
      go : (x : Option ℕ) → places.taken_of k at x ≡ Taken.Is i to → at + length (groups_in i.sheet) ≡ to
      go (Some a) e = taken_is (number_in_sheet k a) (at + length (groups_in a)) e λ f n. from_sheet_lem k a (k.lower a) i refl f λ v l j. rw j n
      go None e = cc

  pub sheet_seen : Seen sheet (λ at. drop at s) (λ k at. number_taken k s at) (λ at. Unit {0})
  sheet_seen = record { sees = groups_sees; moves = groups_moves }
