-- A number of an accepted sheet, as the code reads it: with its groups counted.
use mathlib.Core.Path.{◌≡◌, refl, sym, ap, ◌∙◌}
use mathlib.Core.List.{List, ◌++◌}
use mathlib.Core.Option.{Option, none, some}
use Prim.Native.Nat.{ℕ, ◌+◌, ◌*◌, ◌/◌, ◌%◌, ◌^◌, ◌≤◌, ◌<◌}
use native.Mathlib.Omega.{arith}
use borrow.Author.Tests.{ltb-true, ltb-false}
use lib.Dec.{ltb}
use lib.ListN.{length, drop, get_or, length-append, length-drop}
use Rattle.std.specs.Prelude as std
use Rattle.std.specs.Prelude.{Some, None}
use Rattle.numbers.specs.Numbers.{number_in, groups_in}
use Rattle.bits.proofs.Tests.{by_cases}
use Rattle.numbers.specs.declared.Found.{Found}
use Rattle.numbers.specs.internal.Groups.{counted, found}
use Rattle.numbers.proofs.Reading.{found_counted, number_only, number_end_lem}
use Rattle.numbers.proofs.Counting.{last_group, more_groups}
use Rattle.kinds.specs.declared.Item.{Item}
use Rattle.kinds.specs.Kind.{Kind}
use Rattle.kinds.specs.Judged.{field_with}
use Rattle.format.specs.Format.{Format, field, sheet_numbers}
use Rattle.format.specs.Media.{sheet}
use Rattle.format.specs.internal.Places as places
use Rattle.format.specs.internal.Places.{Taken, taken_at, number_taken}
use Rattle.format.proofs.Media.{bytes_drop}
use Rattle.format.proofs.Passing.{sheet_seen}
use Rattle.format.proofs.Accepted.{Accepts, field_accepted}
use Rattle.speed_element.specs.internal.Reading.{Past, FieldRead}
use Rattle.speed_element.proofs.Reading.{first_left}
use Rattle.speed_sheet.specs.internal.Asking.{counted_at, NumberAt, Reads}

-- what is taken of a number
record NumberTaken (k : Kind) (s : List ℕ) (at : ℕ) (i : Item) (to : ℕ) : Type 0 where
  pub number : number_in (drop at s) ≡ Some i.sheet
  pub lowers : k.lower i.sheet ≡ some i.packet
  pub place : to ≡ at + length (groups_in i.sheet)

module _ (k : Kind) (s : List ℕ) (at : ℕ) {i : Item} {to : ℕ} where
  apart : {C : Type 0} {r : ℕ} → Taken.Refused r ≡ Taken.Is i to → C
  apart d = absurd (let z : ◌≡◌ {A = ℕ} 0 1 = cc in omega arith)

  taken_number : number_taken k s at ≡ Taken.Is i to → NumberTaken k s at i to
  taken_number e = go (number_in (drop at s)) refl e
    where
      by_value : (a : ℕ) → number_in (drop at s) ≡ Some a → (o : Option ℕ) → k.lower a ≡ o → taken_at (field_with k a o) (at + length (groups_in a)) ≡ Taken.Is i to → NumberTaken k s at i to
      by_value a d none p q = apart q
      by_value a d (some v) p q =
          let x : i ≡ record { sheet = a; packet = v } = cc in
          let y : to ≡ at + length (groups_in a) = cc in
          rw x record { number = d; lowers = p; place = y }

      go : (x : std.Option ℕ) → number_in (drop at s) ≡ x → places.taken_of k at x ≡ Taken.Is i to → NumberTaken k s at i to
      go (Some a) d f = by_value a d (k.lower a) refl f
      go None d f = apart f

-- a number and its groups, from the count of both
module _ (a n c : ℕ) (small : a < 2 ^ 32) (e : c ≡ a + 4294967296 * n) where
  value_of : c % 4294967296 ≡ a
  value_of = omega arith

  groups_of : c / 4294967296 ≡ n
  groups_of = omega arith

-- of at most two, the first byte tells how many
short_groups : (a : ℕ) (t : List ℕ) → a < 16384 → length (groups_in a) ≡ 1 + get_or (groups_in a ++ t) 0 0 / 128
unfolding groups_in
short_groups a t h =
    by_cases (ltb a 128)
    (λ d. let l = ltb-true a 128 d in rw (last_group 4 a l) (omega arith))
    (λ d. let l = ltb-false a 128 d in rw (more_groups 4 a l, last_group 3 (a / 128) (omega arith)) (omega arith))

single_group : (a : ℕ) (t : List ℕ) → a < 128 → get_or (groups_in a ++ t) 0 0 ≡ a
unfolding groups_in
single_group a t h = rw (last_group 4 a h)

-- the value of one that may be none
abbrev pub value_or : Option ℕ → ℕ
value_or none = 0
value_or (some v) = v

module _ (s : List ℕ) (k : Kind) {next : ℕ → Format} {at : ℕ} {l : List Item} (h : Reads s (field k next) at l) where
  accepts : Accepts sheet (λ n. drop n s) (λ j n. number_taken j s n) k next at l
  accepts = field_accepted sheet (λ n. drop n s) (λ j n. number_taken j s n) (sheet_seen s) k next at l tt h.reads

  -- the number as it is spelled, and as it is counted
  record Spelled : Type 0 where
    pub value : counted_at s at % 4294967296 ≡ accepts.item.sheet
    pub to : accepts.to ≡ at + counted_at s at / 4294967296
    pub inside : at + counted_at s at / 4294967296 ≤ length s
    pub lowers : k.lower (counted_at s at % 4294967296) ≡ some accepts.item.packet
    pub groups : counted_at s at / 4294967296 ≡ length (groups_in (counted_at s at % 4294967296))
    pub number : number_in (drop at s) ≡ Some (counted_at s at % 4294967296)
    pub first : counted_at s at % 4294967296 < 16384 → counted_at s at / 4294967296 ≡ 1 + get_or s at 0 / 128
    pub single : counted_at s at % 4294967296 < 128 → get_or s at 0 ≡ counted_at s at % 4294967296

  spelled : Spelled
  spelled =
      let n = taken_number k s at accepts.takes in
      let a = accepts.item.sheet in
      let w = number_only (drop at s) a (bytes_drop at s h.ok) n.number in
      let d : counted_at s at ≡ a + 4294967296 * length (groups_in a) = rw n.number in
      let v = value_of a (length (groups_in a)) (counted_at s at) w.small d in
      let g = groups_of a (length (groups_in a)) (counted_at s at) w.small d in
      let long = ap length w.bytes ∙ length-append (groups_in a) (drop (length (groups_in a)) (drop at s)) in
      record {
        value = v;
        to = n.place ∙ ap (λ (m : ℕ). at + m) (sym g);
        inside = omega (arith, long, length-drop at s, h.before, g);
        lowers = rw v n.lowers;
        groups = rw v g;
        number = rw v n.number;
        first = λ m.
            g ∙ short_groups a (drop (length (groups_in a)) (drop at s)) (rw v at m) ∙ ap (λ (b : List ℕ). 1 + get_or b 0 0 / 128) (sym w.bytes)
            ∙ ap (λ (b : ℕ). 1 + b / 128) (first_left at s);
        single = λ m.
            sym (first_left at s) ∙ ap (λ (b : List ℕ). get_or b 0 0) w.bytes ∙ single_group a (drop (length (groups_in a)) (drop at s)) (rw v at m) ∙ sym v;
      }

  -- what is known of a field that is left
  pub record Known : Type 0 where
    pub packet : ℕ
    pub lowers : k.lower (counted_at s at % 4294967296) ≡ some packet
    pub inside : at + counted_at s at / 4294967296 ≤ length s
    pub groups : counted_at s at / 4294967296 ≡ length (groups_in (counted_at s at % 4294967296))
    pub number : number_in (drop at s) ≡ Some (counted_at s at % 4294967296)
    pub first : counted_at s at % 4294967296 < 16384 → counted_at s at / 4294967296 ≡ 1 + get_or s at 0 / 128
    pub single : counted_at s at % 4294967296 < 128 → get_or s at 0 ≡ counted_at s at % 4294967296

  pub known : Known
  known = let w = spelled in record { packet = accepts.item.packet; lowers = w.lowers; inside = w.inside; groups = w.groups; number = w.number; first = w.first; single = w.single }

  field_past : (v : ℕ) → ((u : ℕ) → k.lower (counted_at s at % 4294967296) ≡ some u → u ≡ v) → Past (Reads s) (next v) (at + counted_at s at / 4294967296) (drop 1 (sheet_numbers l))
  field_past v only =
      let a = accepts in
      let w = spelled in
      record {
        values = a.values;
        reads = record { before = w.inside; ok = h.ok; reads = rw (only a.item.packet w.lowers, w.to) at a.reads };
        numbers = sym (ap (λ (m : List Item). drop 1 (sheet_numbers m)) a.is);
      }

  field_number : get_or (sheet_numbers l) 0 0 ≡ counted_at s at % 4294967296
  field_number = ap (λ (m : List Item). get_or (sheet_numbers m) 0 0) accepts.is ∙ sym spelled.value

module _ (s : List ℕ) (k : Kind) {at to a : ℕ} (n : NumberAt s at to a) where
  -- a field at a place, whose packet's value is v
  pub field_read : (v : ℕ) → ((u : ℕ) → k.lower a ≡ some u → u ≡ v) → FieldRead (Reads s) k at to v a
  field_read v only =
      rw (n.next, n.value)
      record { past = λ next l h. field_past s k h v (λ u d. only u (rw n.value d)); is = λ next l h. field_number s k h }

  -- one on whose value nothing depends
  pub field_any : FieldRead (Reads s) k at to (value_or (k.lower a)) a
  field_any = field_read (value_or (k.lower a)) (λ u d. sym (ap value_or d))

-- past the end there is none
pub found_is_counted : (s : List ℕ) (at : ℕ) {f : Found} → f ≡ found (number_in (drop at s)) → f.value + 4294967296 * f.count ≡ counted_at s at
found_is_counted s at e = rw e (found_counted (number_in (drop at s)))

pub none_past : (s : List ℕ) (at : ℕ) → length s ≤ at → counted_at s at ≡ 0
none_past s at h = sym (ap counted (number_end_lem s at 5 h))
