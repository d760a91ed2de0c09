-- Writing a part of an accepted packet's sheet: a field, what is left of a part, and that what is put fits.
use mathlib.Core.Path.{◌≡◌, refl, ◌∙◌}
use mathlib.Core.Bool.{true, false}
use mathlib.Core.List.{List, [], ◌∷◌}
use Prim.Native.Nat.{ℕ, ◌+◌, ◌*◌, ◌-◌, ◌≤◌, ◌<◌}
use native.Mathlib.Omega.{arith}
use borrow.Author.Tests.{ltb-true, ltb-false}
use lib.Dec.{ltb}
use lib.ListN.{length}
use lib.Seq.{length-sets}
use Rattle.bits.specs.Bits.{field_at}
use Rattle.bits.proofs.Tests.{by_cases}
use Rattle.numbers.specs.Numbers.{groups_in}
use Rattle.numbers.specs.internal.Groups.{Put}
use Rattle.kinds.specs.declared.Item.{Item}
use Rattle.kinds.specs.Kind.{Kind}
use Rattle.kinds.specs.Judged.{value_in_packet}
use Rattle.format.specs.Format.{Format, end, field, times, FieldStep, step, stopped_with, Medium}
use Rattle.format.specs.internal.Places.{Taken, Placed, taken_at, bits_taken}
use Rattle.format.specs.internal.Pass.{of_step, pass}
use Rattle.format.specs.internal.Ways.{Got, Took, Left, Ahead}
use Rattle.format.specs.internal.Tasks.{Told}
use Rattle.format.proofs.Places.{bits_short, bits_whole}
use Rattle.format.proofs.Passing.{packet_seen}
use Rattle.format.proofs.Ways.{over_on, took_is, took_off, left_all, left_none, left_as, left_on, left_value, times_more, times_none, ahead_first, ahead_value, ahead_left, ahead_never}
use Rattle.sheet_write_segment.specs.internal.elements.Writing.{writing, putting, Reads, writer, Fits, PartWritable, Wrote}

-- ---- a pass that writes never goes back, and its room stays as long as it is

abbrev Grows : Put → Told Put → Type 0
Grows p (Told.told q) = (p.next ≤ q.next) × (length q.bytes ≡ length p.bytes)
Grows p (Told.not r at) = Unit {0}

grows_put : (p : Put) (v : ℕ) (r : Told Put) → Grows (putting p v) r → Grows p r
grows_put p v (Told.told q) h = (omega (arith, h.0), h.1 ∙ length-sets p.bytes p.next (groups_in v))
grows_put p v (Told.not r at) h = tt

module _ {A : Type 0} (m : Medium A) where
  grows : (f : Format) (p : Put) (at : ℕ) (s : List A) → Grows p (pass m writing f p at s)
  grows end p at [] = (omega arith, refl)
  grows end p at (a ∷ s) = tt
  grows (field k next) p at s = go (λ i u. grows (next i.packet) (putting p i.sheet) (at + length (m.put k i)) u) (m.take k s)
    where
      go : ((i : Item) (u : List A) → Grows (putting p i.sheet) (pass m writing (next i.packet) (putting p i.sheet) (at + length (m.put k i)) u))
          → (x : FieldStep A) → Grows p (of_step (λ r. writing.refusal r at) x (λ i u. pass m writing (next i.packet) (putting p i.sheet) (at + length (m.put k i)) u))
      go more (step i u) = grows_put p i.sheet (pass m writing (next i.packet) (putting p i.sheet) (at + length (m.put k i)) u) (more i u)
      go more (stopped_with r) = tt

fits_now : (p : Put) (r : Told Put) → Grows p r → Fits r → p.next ≤ length p.bytes
fits_now p (Told.told q) g h = omega (arith, g.0, g.1, h)
fits_now p (Told.not r at) g h = absurd h

-- ---- a field of an accepted packet

-- a field of w bits that is there, has a value that is allowed, and whose number fits
pub record Puts (k : Kind) (s : List ℕ) (stop at : ℕ) (p : Put) (w v : ℕ) : Type 0 where
  pub whole : w ≤ stop - at
  pub allowed : k.allowed v ≡ true
  pub fits : p.next + length (groups_in (k.raise v)) ≤ length p.bytes
  pub took : Took (writer s stop) k at p (Got.is v (at + w) (putting p (k.raise v)))

module _ (s : List ℕ) (stop : ℕ) where
  room_now : {part : Format → Format} {at : ℕ} {p : Put} → Ahead (writer s stop) Fits part at p → p.next ≤ length p.bytes
  room_now {part} {at} {p} h = fits_now p ((writer s stop).run (part h.follows) at p) (grows _ (part h.follows) p at _) h.good

  reads_placed : {at : ℕ} → Reads s stop at → Placed s at stop
  reads_placed h = record { before = h.before; inside = h.inside; few = h.few }

  reads_on : {at : ℕ} (w : ℕ) → w ≤ stop - at → Reads s stop at → Reads s stop (at + w)
  reads_on w l h = record { before = omega (arith, h.before); inside = h.inside; few = h.few; long = h.long }

  module _ (k : Kind) (part : ℕ → Format → Format) {at : ℕ} {p : Put} (h : Reads s stop at) (a : Ahead (writer s stop) Fits (λ f. field k (λ u. part u f)) at p) where
    abbrev value : ℕ
    value = field_at s at k.width

    never : {C : Type 0} {r : ℕ} → Taken.Refused r ≡ bits_taken k s at stop → C
    never e = ahead_never part (λ z. z) (took_off (packet_seen s stop) writing (λ at p. Reads s stop at) k (reads_placed h) e) a

    there : k.width ≤ stop - at → k.allowed value ≡ true → Puts k s stop at p k.width value
    there l e =
        let q : Taken.Is (record { sheet = k.raise value; packet = value }) (at + k.width) ≡ taken_at (value_in_packet k value) (at + k.width) = rw e in
        let t = took_is (packet_seen s stop) writing (λ at p. Reads s stop at) k {x = p} (reads_placed h) (q ∙ bits_whole k s at stop l) (reads_on k.width l h) in
        record {
          whole = l;
          allowed = e;
          fits = omega (arith, room_now (ahead_value part t a), length-sets p.bytes p.next (groups_in (k.raise value)));
          took = t;
        }

    not_there : k.width ≤ stop - at → k.allowed value ≡ false → Puts k s stop at p k.width value
    not_there l e = let q : Taken.Refused (k.refusal value) ≡ taken_at (value_in_packet k value) (at + k.width) = rw e in never (q ∙ bits_whole k s at stop l)

    field_puts : Puts k s stop at p k.width (field_at s at k.width)
    field_puts =
        by_cases (ltb (stop - at) k.width)
        (λ d. never (bits_short k s at stop (ltb-true (stop - at) k.width d)))
        λ d. let l = ltb-false (stop - at) k.width d in by_cases (k.allowed value) (λ e. there l e) (λ e. not_there l e)

  -- ---- what is left of a part, in a room of the same length

  pub record Along (p q : Format → Format) (at : ℕ) (x : Put) (to : ℕ) (y : Put) : Type 0 where
    pub left : Left (writer s stop) p q at x to y
    pub long : length y.bytes ≡ length x.bytes

  pub along_all : {p : Format → Format} {at : ℕ} {x : Put} → PartWritable p s stop at x → Along p p at x at x
  along_all h = record { left = left_all h.reads; long = refl }

  module _ {p : Format → Format} {at to : ℕ} {x y : Put} where
    pub along_as : {q : Format → Format} (r : Format → Format) → ((f : Format) → q f ≡ r f) → Along p q at x to y → Along p r at x to y
    along_as r e l = record { left = left_as r e l.left; long = l.long }

    pub along_none : Along p (λ f. f) at x to y → Wrote p s stop at x to y
    along_none l = record { over = left_none l.left; long = l.long }

    pub along_here : {q : Format → Format} → Along p q at x to y → PartWritable p s stop at x → PartWritable q s stop to y
    along_here l h = record { reads = l.left.stands; ahead = ahead_left l.left h.ahead }

    module _ (q r : Format → Format) (l : Along p (λ f. q (r f)) at x to y) where
      pub along_next : PartWritable p s stop at x → PartWritable q s stop to y
      along_next h = record { reads = l.left.stands; ahead = ahead_first r (ahead_left l.left h.ahead) }

      pub along_on : {a : ℕ} {z : Put} → Wrote q s stop to y a z → Along p r at x a z
      along_on o = record { left = left_on q r l.left o.over; long = o.long ∙ l.long }

  -- a part so many times: one more, and none left
  module _ {p : Format → Format} (part : Format → Format) {n at to : ℕ} {x y : Put} (l : Along p (times part n) at x to y) where
    module _ (some : 0 < n) where
      more : Along p (λ f. part (times part (n - 1) f)) at x to y
      more = along_as (λ f. part (times part (n - 1) f)) (times_more part n some) l

      pub times_next : PartWritable p s stop at x → PartWritable part s stop to y
      times_next h = along_next part (times part (n - 1)) more h

      pub times_on : {a : ℕ} {z : Put} → Wrote part s stop to y a z → Along p (times part (n - 1)) at x a z
      times_on o = along_on part (times part (n - 1)) more o

    pub times_end_lem : n ≤ 0 → Wrote p s stop at x to y
    times_end_lem h = along_none (along_as (λ f. f) (times_none part n h) l)

  pub wrote_on : (p q : Format → Format) {at to a : ℕ} {x y z : Put} → Wrote p s stop at x to y → Wrote q s stop to y a z → Wrote (λ f. p (q f)) s stop at x a z
  wrote_on p q o w = record { over = over_on o.over w.over; long = w.long ∙ o.long }

  -- ---- a field where it is the next

  module _ (k : Kind) (part : ℕ → Format → Format) (w : ℕ) (e : k.width ≡ w) where
    module _ {at : ℕ} {p : Put} (h : PartWritable (λ f. field k (λ u. part u f)) s stop at p) where
      pub field_here : (v : ℕ) → v ≡ field_at s at w → Puts k s stop at p w v
      field_here v q = rw (q, ← e) (field_puts k part h.reads h.ahead)

      -- what reading it asks for
      pub field_read : 0 < w → w ≤ 32 → (0 < w) × (w ≤ 32) × (at + w ≤ 8 * length s) × (8 ≤ length s)
      field_read a b =
          let g = h.reads in
          let f = (field_here (field_at s at w) refl).whole in
          (a, b, omega (arith, g.inside, g.before), g.long)

    -- it is put, and what is left
    pub along_put : {p : Format → Format} {at to : ℕ} {x y : Put} → Along p (λ f. field k (λ u. part u f)) at x to y → PartWritable p s stop at x
        → (v : ℕ) → v ≡ field_at s to w → (a : ℕ) → a ≡ to + w → {z : Put} → z ≡ putting y (k.raise v) → Along p (part v) at x a z
    along_put {y = y} l h v q a d c =
        rw (c, d)
        record { left = left_value part l.left (field_here (along_here l h) v q).took; long = length-sets y.bytes y.next (groups_in (k.raise v)) ∙ l.long }
