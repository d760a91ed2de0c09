-- A field of an accepted packet, and the fields of an entry and of an element, which are read at once.
use mathlib.Core.Path.{◌≡◌, refl, sym, ap, ◌∙◌}
use mathlib.Core.Bool.{true}
use mathlib.Core.List.{List, [], ◌∷◌}
use Prim.Native.Nat.{ℕ, zero, suc, ◌+◌, ◌*◌, ◌-◌, ◌/◌, ◌%◌, ◌≤◌, ◌<◌}
use native.Mathlib.Omega.{arith}
use borrow.Author.Tests.{ltb-true, ltb-false}
use lib.Dec.{ltb, lit≤}
use lib.ListN.{length, drop, get_or}
use Rattle.bits.specs.Bits.{field_at}
use Rattle.bits.proofs.Tests.{by_cases}
use Rattle.bits.proofs.Fields.{field_small}
use Rattle.bits.proofs.Windows.{parts_at, part}
use Rattle.kinds.specs.declared.Item.{Item}
use Rattle.kinds.specs.Kind.{Kind}
use Rattle.kinds.specs.Judged.{value_in_packet}
use Rattle.kinds.specs.Kinds.{q_diff, class, speed, q_front, n_iter}
use Rattle.fields.proofs.raise.Raised.{category_raised}
use Rattle.format.specs.Format.{Format, field, then, sheet_numbers}
use Rattle.format.specs.Media.{packet}
use Rattle.format.specs.internal.Places.{Taken, bits_between, taken_at, bits_taken}
use Rattle.format.proofs.Places.{bits_short, bits_whole}
use Rattle.format.proofs.Passing.{packet_seen}
use Rattle.format.proofs.Accepted.{Accepts, field_accepted}
use Rattle.grammar.specs.segment.Segment.{entries, profile}
use Rattle.grammar.specs.internal.segment.Parts.{entry}
use Rattle.grammar.proofs.segment.Parts.{class_width}
use Rattle.speed.specs.Speed.{after_entries}
use Rattle.speed_element.specs.internal.Elements.{none, Kept}
use Rattle.speed_element.specs.internal.Reading.{Readable, Past, Passes, FieldRead}
use Rattle.speed_element.proofs.Reading.{entries_end, readable_field, entry_passes, entries_pass}
use Rattle.speed_packet.specs.internal.Asking.{end_of, Reads}

module _ (s : List ℕ) where
  -- a field of w bits that is there and has an allowed value
  pub record Fits (k : Kind) (at : ℕ) : Type 0 where
    pub whole : k.width ≤ end_of s - at
    pub allowed : k.allowed (field_at s at k.width) ≡ true

  abbrev item : Kind → ℕ → Item
  item k at = record { sheet = k.raise (field_at s at k.width); packet = field_at s at k.width }

  -- what is taken there
  module _ (k : Kind) (at : ℕ) {i : Item} {to : ℕ} (e : bits_taken k s at (end_of s) ≡ Taken.Is i to) where
    refused_apart : {C : Type 0} {r : ℕ} → Taken.Refused r ≡ bits_taken k s at (end_of s) → C
    refused_apart d = absurd (let z : ◌≡◌ {A = ℕ} 0 1 = cc in omega arith)

    taken_whole : k.width ≤ end_of s - at
    taken_whole = by_cases (ltb (end_of s - at) k.width) (λ d. refused_apart (bits_short k s at (end_of s) (ltb-true (end_of s - at) k.width d))) (λ d. ltb-false (end_of s - at) k.width d)

    taken_allowed : k.allowed (field_at s at k.width) ≡ true
    taken_allowed =
        by_cases (k.allowed (field_at s at k.width)) (λ d. d) λ d.
        let q : Taken.Refused (k.refusal (field_at s at k.width)) ≡ taken_at (value_in_packet k (field_at s at k.width)) (at + k.width) = rw d in
        refused_apart (q ∙ bits_whole k s at (end_of s) taken_whole)

    taken_item : Taken.Is i to ≡ Taken.Is (item k at) (at + k.width)
    taken_item =
        let q : Taken.Is (item k at) (at + k.width) ≡ taken_at (value_in_packet k (field_at s at k.width)) (at + k.width) = rw taken_allowed in
        sym (q ∙ bits_whole k s at (end_of s) taken_whole ∙ e)

  module _ (k : Kind) {next : ℕ → Format} {at : ℕ} {l : List Item} (h : Reads s (field k next) at l) where
    accepts : Accepts packet (λ n. bits_between s n (end_of s)) (λ j n. bits_taken j s n (end_of s)) k next at l
    accepts =
        field_accepted packet (λ n. bits_between s n (end_of s)) (λ j n. bits_taken j s n (end_of s)) (packet_seen s (end_of s)) k next at l
        (record { before = h.before; inside = h.inside; few = h.few }) h.reads

    pub field_fits : Fits k at
    field_fits = let a = accepts in record { whole = taken_whole k at a.takes; allowed = taken_allowed k at a.takes }

    field_item : accepts.item ≡ item k at
    field_item = let e = taken_item k at accepts.takes in cc

    field_to : accepts.to ≡ at + k.width
    field_to = let e = taken_item k at accepts.takes in cc

    field_past : Past (Reads s) (next (field_at s at k.width)) (at + k.width) (drop 1 (sheet_numbers l))
    field_past =
        let a = accepts in
        record {
          values = a.values;
          reads =
              record {
                before = omega (arith, field_fits.whole, h.before);
                inside = h.inside;
                few = h.few;
                long = h.long;
                reads = rw (field_item, field_to) at a.reads;
              };
          numbers = sym (ap (λ (m : List Item). drop 1 (sheet_numbers m)) a.is);
        }

    field_number : get_or (sheet_numbers l) 0 0 ≡ k.raise (field_at s at k.width)
    field_number = ap (λ (m : List Item). get_or (sheet_numbers m) 0 0) accepts.is ∙ ap (λ (i : Item). i.sheet) field_item

  -- a field of w bits at a place
  pub field_read : (k : Kind) (at w to : ℕ) {v : ℕ} → k.width ≡ w → at + w ≡ to → v ≡ field_at s at w → FieldRead (Reads s) k at to v (k.raise v)
  field_read k at w to d g e = rw (e, ← g, ← d) (record { past = λ next l h. field_past k h; is = λ next l h. field_number k h })

  -- ---- an entry

  pub record EntryAt (at t : ℕ) : Type 0 where
    pub allowed : (class (t / 2048)).allowed (t / 128 % 16) ≡ true
    pub first : FieldRead (Reads s) q_diff at (at + 2) (t / 2048) (t / 2048)
    pub second : FieldRead (Reads s) (class (t / 2048)) (at + 2) (at + 2 + 4) (t / 128 % 16) ((class (t / 2048)).raise (t / 128 % 16))
    pub third : FieldRead (Reads s) speed (at + 2 + 4) (at + 13) (t % 128) (t % 128 * 5)

  module _ {at : ℕ} (h : Readable (Reads s) entry at) where
    entry_first : FieldRead (Reads s) q_diff at (at + 2) (field_at s at 2) (field_at s at 2)
    entry_first = field_read q_diff at 2 (at + 2) refl refl refl

    entry_second : Readable (Reads s) (λ f. then (class (field_at s at 2)) (then speed f)) (at + 2)
    entry_second = readable_field (Reads s) entry_first (λ q f. then (class q) (then speed f)) h

    entry_third : Readable (Reads s) (λ f. then speed f) (at + 2 + 4)
    entry_third =
        let q = field_at s at 2 in
        readable_field (Reads s) (field_read (class q) (at + 2) 4 (at + 2 + 4) (class_width q) refl refl) (λ c f. then speed f) entry_second

    pub entry_whole : 13 ≤ end_of s - at
    entry_whole =
        let q = field_at s at 2 in
        let a = (field_fits q_diff h.reads).whole in
        let b = (field_fits (class q) entry_second.reads).whole in
        let c = (field_fits speed entry_third.reads).whole in
        omega (arith, class_width q)

    pub entry_inside : at + 13 ≤ 8 * length s
    entry_inside = omega (arith, entry_whole, h.reads.inside)

    pub entry_at : {t : ℕ} → t ≡ field_at s at 13 → EntryAt at t
    entry_at {t} e =
        let v = parts_at s at (2 ∷ 4 ∷ 7 ∷ []) e entry_inside in
        let f : t / 2048 ≡ field_at s at 2 = part v 0 in
        let g : t / 128 % 16 ≡ field_at s (at + 2) 4 = part v 1 in
        let b = (field_fits (class (field_at s at 2)) entry_second.reads).allowed in
        let w = class_width (field_at s at 2) in
        record {
          allowed = rw (f, g) (rw w at b);
          first = field_read q_diff at 2 (at + 2) refl refl f;
          second = field_read (class (t / 2048)) (at + 2) 4 (at + 2 + 4) (class_width (t / 2048)) refl g;
          third = field_read speed (at + 2 + 4) 7 (at + 13) refl (omega arith) (part v 2);
        }

    pub entry_kept : {t g : ℕ} → t ≡ field_at s at 13 → g ≡ (class (t / 2048)).raise (t / 128 % 16) → Kept (t / 2048) g (t % 128 * 5)
    entry_kept {t} {g} e r =
        record {
          few = omega (arith, field_small s at 13 13 (lit≤ tt));
          category = λ p. rw r (category_raised (t / 2048) (t / 128 % 16) p (entry_at e).allowed);
          speed = omega arith;
        }

  -- an element's V_STATIC is a speed
  pub static_small : (at : ℕ) {t : ℕ} → t ≡ field_at s at 13 → t / 64 * 5 < none
  static_small at e = omega (arith, field_small s at 13 13 (lit≤ tt))

  -- entries passed over: each has 13 bits
  entry_pass : (at : ℕ) → Passes (Reads s) entry (drop 3) at (at + 13)
  entry_pass at =
      let q = field_at s at 2 in
      entry_passes (Reads s) (field_read q_diff at 2 (at + 2) refl refl refl) (field_read (class q) (at + 2) 4 (at + 6) (class_width q) (omega arith) refl)
      (field_read speed (at + 6) 7 (at + 13) refl (omega arith) refl)

  entries_bits : (n at : ℕ) → entries_end (λ m. m + 13) n at ≡ at + 13 * n
  entries_bits zero at = omega arith
  entries_bits (suc n) at = entries_bits n (at + 13) ∙ omega arith

  pub entries_passed : (n at to : ℕ) → to ≡ at + 13 * n → Passes (Reads s) (entries n) (after_entries n) at to
  entries_passed n at to e = rw (e ∙ sym (entries_bits n at)) (entries_pass (Reads s) (λ m. m + 13) entry_pass n at)

  -- ---- what an element begins with

  pub record ElementAt (at t : ℕ) : Type 0 where
    pub first : FieldRead (Reads s) speed at (at + 7) (t / 64) (t / 64 * 5)
    pub second : FieldRead (Reads s) q_front (at + 7) (at + 7 + 1) (t / 32 % 2) (t / 32 % 2)
    pub third : FieldRead (Reads s) (n_iter 31) (at + 7 + 1) (at + 13) (t % 32) (t % 32)

  module _ {at : ℕ} (h : Readable (Reads s) profile at) where
    front_readable : Readable (Reads s) (λ f. then q_front (field (n_iter 31) λ n. entries n f)) (at + 7)
    front_readable = readable_field (Reads s) (field_read speed at 7 (at + 7) refl refl refl) (λ v f. then q_front (field (n_iter 31) λ n. entries n f)) h

    count_readable : Readable (Reads s) (λ f. field (n_iter 31) λ n. entries n f) (at + 7 + 1)
    count_readable = readable_field (Reads s) (field_read q_front (at + 7) 1 (at + 7 + 1) refl refl refl) (λ v f. field (n_iter 31) λ n. entries n f) front_readable

    pub element_inside : at + 13 ≤ 8 * length s
    element_inside =
        let a = (field_fits speed h.reads).whole in
        let b = (field_fits q_front front_readable.reads).whole in
        let c = (field_fits (n_iter 31) count_readable.reads).whole in
        omega (arith, h.reads.inside)

    pub element_at : {t : ℕ} → t ≡ field_at s at 13 → ElementAt at t
    element_at {t} e =
        let v = parts_at s at (7 ∷ 1 ∷ 5 ∷ []) e element_inside in
        record {
          first = field_read speed at 7 (at + 7) refl refl (part v 0);
          second = field_read q_front (at + 7) 1 (at + 7 + 1) refl refl (part v 1);
          third = field_read (n_iter 31) (at + 7 + 1) 5 (at + 13) refl (omega arith) (part v 2);
        }
