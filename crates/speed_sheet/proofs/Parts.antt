-- The parts of an accepted sheet, from the numbers that the code reads.
use mathlib.Core.Path.{◌≡◌, refl, sym, ap, ◌∙◌}
use mathlib.Core.Bool.{Bool, true, false, ◌&&◌}
use mathlib.Core.List.{List, [], ◌∷◌}
use mathlib.Core.Option.{some}
use Prim.Native.Nat.{ℕ, zero, suc, ◌+◌, ◌/◌, ◌%◌, ◌≤◌, ◌<◌}
use native.Mathlib.Omega.{arith}
use borrow.Author.Tests.{leb-true, ltb-true, ltb-false}
use lib.Dec.{leb, ltb, lit<}
use lib.ListN.{length, drop, get_or}
use Rattle.bits.specs.Bits.{Bytes}
use Rattle.bits.proofs.Tests.{by_cases, and_left, and_right}
use Rattle.numbers.specs.Numbers.{groups_in}
use Rattle.numbers.proofs.Counting.{count_some, last_count}
use Rattle.kinds.specs.declared.Item.{Item}
use Rattle.kinds.specs.Kind.{Kind, when, up_to}
use Rattle.kinds.specs.Kinds.{nid_packet_ato, nid_operational, q_diff, class, speed, q_front, n_iter, l_sp}
use Rattle.fields.proofs.Lawful.{LawfulKind, narrow, range_lawful, up_to_lawful, speed_lawful, class_lawful}
use Rattle.format.specs.Format.{Format, end, field, then, read, values_of, sheet_numbers}
use Rattle.format.specs.Media.{sheet}
use Rattle.grammar.specs.internal.rows.Rows.{row}
use Rattle.grammar.specs.segment.Segment.{entries, profile, part, sheet_fields, wire_changes}
use Rattle.grammar.specs.segment.Judgement.{from_sheet}
use Rattle.grammar.specs.internal.segment.Parts.{entry, three_lists, header_widths, header_most, identity_widths, identity_most, offset_widths, offset_most, offset_rows, segment_rows}
use Rattle.grammar.proofs.segment.Parts.{fields_rows}
use Rattle.speed.proofs.Lowering.{when_is}
use Rattle.speed_element.specs.internal.Elements.{none, Kept}
use Rattle.speed_element.specs.internal.Reading.{Readable, Past, Passes, FieldRead, HeadRead}
use Rattle.speed_element.proofs.Reading.{readable_field, past_here, then_past, then_is}
use Rattle.speed_sheet.specs.internal.Asking.{AcceptedSheet, numbers_of_sheet, counted_at, NumberAt, NumberHere, numbers_end, Numbers, short_end, entry_end, Reads}
use Rattle.speed_sheet.proofs.Numbers.{value_or, field_read, field_any, known}

class_highest : (q : ℕ) → (class q).highest < 16384
class_highest zero = lit< tt
class_highest (suc q) = lit< tt

category_highest : (q : ℕ) → 0 < q → (class q).highest < 3
category_highest zero h = absurd (omega arith)
category_highest (suc q) h = lit< tt

q_diff_lawful : LawfulKind q_diff
q_diff_lawful = up_to_lawful 2 2 (narrow tt) (lit< tt)

front_lawful : LawfulKind q_front
front_lawful = up_to_lawful 1 1 (narrow tt) (lit< tt)

length_lawful : LawfulKind l_sp
length_lawful = range_lawful 24 1 16777215 4 (narrow tt) (lit< tt)

pub count_lawful : LawfulKind (n_iter 31)
count_lawful = up_to_lawful 5 31 (narrow tt) (lit< tt)

module _ (s : List ℕ) where
  module _ {at to a : ℕ} (n : NumberAt s at to a) where
    -- a field whose number in the sheet is its value
    pub same_read : (k : Kind) → ((u : ℕ) → k.lower u ≡ when (k.allowed u) u) → FieldRead (Reads s) k at to a a
    same_read k q = field_read s k n a (λ u d. when_is (k.allowed a) a u (sym (q a) ∙ d))

    pub class_read : (q : ℕ) → FieldRead (Reads s) (class q) at to (value_or ((class q).lower a)) a
    class_read q = field_any s (class q) n

    pub speed_read : FieldRead (Reads s) speed at to (value_or (speed.lower a)) a
    speed_read = field_any s speed n

    pub number_most : {k : Kind} → LawfulKind k → (part : ℕ → Format → Format) → Readable (Reads s) (λ i. field k (λ u. part u i)) at → a ≤ k.highest
    number_most {k} w part h = rw n.value (w.top _ _ (known s k h.reads).lowers)

    pub speed_small : (part : ℕ → Format → Format) → Readable (Reads s) (λ i. field speed (λ u. part u i)) at → a < none
    speed_small part h = omega (arith, number_most speed_lawful part h)

  pub entry_kept : {at b d to q g w : ℕ} → NumberAt s at b q → NumberAt s b d g → NumberAt s d to w → Readable (Reads s) entry at → Kept q g w
  entry_kept {q = q} x y z h =
      let second = readable_field (Reads s) (same_read x q_diff (λ u. refl)) (λ u f. then (class u) (then speed f)) h in
      let third = readable_field (Reads s) (class_read y q) (λ c f. then speed f) second in
      record {
        few = omega (arith, number_most x q_diff_lawful (λ u f. then (class u) (then speed f)) h);
        category = λ p. omega (arith, number_most y (class_lawful q) (λ c f. then speed f) second, category_highest q p);
        speed = speed_small z (λ u f. f) third;
      }

  -- ---- numbers by their first bytes

  module _ {k : Kind} (w : LawfulKind k) {next : ℕ → Format} {at : ℕ} {l : List Item} (h : Reads s (field k next) at l) where
    -- a number of at most two groups, and where it ends
    short_at : k.highest < 16384 → NumberAt s at (short_end s at) (counted_at s at % 4294967296)
    short_at m =
        let n = known s k h in
        record { next = omega (arith, n.first (omega (arith, w.top (counted_at s at % 4294967296) n.packet n.lowers))); value = refl }

    -- and one of a single group, which is its byte
    single_at : k.highest < 128 → NumberAt s at (at + 1) (get_or s at 0)
    single_at m =
        let n = known s k h in
        let small : counted_at s at % 4294967296 < 128 = omega (arith, w.top (counted_at s at % 4294967296) n.packet n.lowers) in
        record { next = omega (arith, n.groups ∙ last_count (counted_at s at % 4294967296) small); value = n.single small }

    here_inside : at < length s
    here_inside = let n = known s k h in omega (arith, n.inside, n.groups, count_some (counted_at s at % 4294967296))

  -- ---- entries passed over

  -- the three numbers of an entry
  module _ {f : Format} {at : ℕ} (l : List Item) (h : Reads s (entry f) at l) where
    q_diff_past : Past (Reads s) (then (class (get_or s at 0)) (then speed f)) (at + 1) (drop 1 (sheet_numbers l))
    q_diff_past = then_past (Reads s) (same_read (single_at q_diff_lawful h (lit< tt)) q_diff (λ u. refl)) 0 (sheet_numbers l) (past_here (Reads s) l h)

    class_past : Past (Reads s) (then speed f) (short_end s (at + 1)) (drop 2 (sheet_numbers l))
    class_past =
        let q = get_or s at 0 in
        then_past (Reads s) (class_read (short_at (class_lawful q) q_diff_past.reads (class_highest q)) q) 1 (sheet_numbers l) q_diff_past

    entry_past : Past (Reads s) f (entry_end s at) (drop 3 (sheet_numbers l))
    entry_past = then_past (Reads s) (speed_read (short_at speed_lawful class_past.reads (lit< tt))) 2 (sheet_numbers l) class_past

  pub entry_pass : (at : ℕ) → Passes (Reads s) entry (drop 3) at (entry_end s at)
  entry_pass at = record { past = λ f l h. entry_past l h }

  -- where the code looks, bytes are
  module _ {at : ℕ} (r : Readable (Reads s) entry at) where
    pub class_inside : at + 1 < length s
    class_inside = here_inside (class_lawful (get_or s at 0)) (q_diff_past r.values r.reads).reads

    pub speed_inside : short_end s (at + 1) < length s
    speed_inside = here_inside speed_lawful (class_past r.values r.reads).reads

  -- ---- what an element begins with: after V_STATIC, two numbers of a single group

  module _ {at b v : ℕ} (n : NumberAt s at b v) (r : Readable (Reads s) profile at) where
    front_readable : Readable (Reads s) (λ f. then q_front (field (n_iter 31) λ m. entries m f)) b
    front_readable = readable_field (Reads s) (speed_read n) (λ v f. then q_front (field (n_iter 31) λ m. entries m f)) r

    pub front_inside : b < length s
    front_inside = here_inside front_lawful front_readable.reads

    pub front_at : {q : ℕ} → q ≡ get_or s b 0 → NumberAt s b (b + 1) q
    front_at e = let m = single_at front_lawful front_readable.reads (lit< tt) in record { next = m.next; value = e ∙ m.value }

    count_readable : Readable (Reads s) (λ f. field (n_iter 31) λ m. entries m f) (b + 1)
    count_readable = readable_field (Reads s) (same_read (front_at refl) q_front (λ u. refl)) (λ q f. field (n_iter 31) λ m. entries m f) front_readable

    pub count_inside : b + 1 < length s
    count_inside = here_inside count_lawful count_readable.reads

    pub count_at : {k : ℕ} → k ≡ get_or s (b + 1) 0 → NumberAt s (b + 1) (b + 2) k
    count_at e = let m = single_at count_lawful count_readable.reads (lit< tt) in record { next = omega (arith, m.next); value = e ∙ m.value }

  -- ---- the head

  -- n numbers are read from the byte from on, after d numbers of all; the tree f follows
  record Walked (from d : ℕ) (all : List ℕ) (n : ℕ) (f : Format) : Type 0 where
    pub here : (i : ℕ) → i < n → NumberHere s (numbers_end s from i)
    pub value : (i : ℕ) → i < n → get_or all (d + i) 0 ≡ counted_at s (numbers_end s from i) % 4294967296
    pub past : Past (Reads s) f (numbers_end s from n) (drop (d + n) all)

  module _ {from d : ℕ} {all : List ℕ} where
    walk_start : {f : Format} → Past (Reads s) f from (drop (d + 0) all) → Walked from d all 0 f
    walk_start p = record { here = λ i h. absurd (omega arith); value = λ i h. absurd (omega arith); past = p }

    walk_field : {n : ℕ} (k : Kind) {f : Format} → Walked from d all n (then k f) → Walked from d all (suc n) f
    walk_field {n} k w =
        let z : d + n + 1 ≡ d + suc n = omega arith in
        let r = field_any s k (record { next = refl; value = refl }) in
        record {
          here = λ i h. by_cases (ltb i n) (λ e. w.here i (ltb-true i n e)) (λ e. let q : i ≡ n = omega (arith, ltb-false i n e) in rw q (known s k w.past.reads).number);
          value = λ i h. by_cases (ltb i n) (λ e. w.value i (ltb-true i n e)) (λ e. let q : i ≡ n = omega (arith, ltb-false i n e) in rw q (then_is (Reads s) r (d + n) all w.past));
          past = rw z at (then_past (Reads s) r (d + n) all w.past);
        }

    walk_row : {n : ℕ} (ws ms : List ℕ) → length ws ≡ length ms → {f : Format} → Walked from d all n (row ws ms f) → Walked from d all (n + length ws) f
    unfolding row
    walk_row {n} [] ms e x = let z : n + 0 ≡ n = omega arith in rw z x
    walk_row (w ∷ ws) [] e x = absurd (omega arith)
    walk_row {n} (w ∷ ws) (m ∷ ms) e x = let z : suc n + length ws ≡ n + suc (length ws) = omega arith in rw z at (walk_row ws ms (omega arith) (walk_field (up_to w m) x))

  -- the first number is the packet number, one byte
  number_first : {a v : ℕ} → nid_packet_ato.lower a ≡ some v → a ≡ 6
  number_first {a} {v} e = go (leb 6 a && leb a 6) refl e
    where
      go : (b : Bool) → (leb 6 a && leb a 6) ≡ b → when b a ≡ some v → a ≡ 6
      go true d p = omega (arith, leb-true 6 a (and_left (leb 6 a) (leb a 6) d), leb-true a 6 (and_right (leb 6 a) (leb a 6) d))
      go false d p = absurd (let z : ◌≡◌ {A = ℕ} 0 1 = cc in omega arith)

  one_group : length (groups_in 6) ≡ 1
  unfolding groups_in
  one_group = refl

  sheet_rows : sheet_fields wire_changes ≡ then nid_packet_ato (segment_rows end)
  unfolding sheet_fields
  sheet_rows = ap (then nid_packet_ato) fields_rows

  module _ (e : AcceptedSheet s) (ok : Bytes s) where
    abbrev all : List ℕ
    all = numbers_of_sheet s

    all_reads : Reads s (then nid_packet_ato (segment_rows end)) 0 (values_of (from_sheet wire_changes s))
    unfolding from_sheet
    all_reads = record { before = omega arith; ok = ok; reads = ap (λ (f : Format). read sheet f 0 s) (sym sheet_rows) ∙ e }

    -- the fields after the packet number
    head_past : Past (Reads s) (segment_rows end) 1 (drop 1 all)
    head_past =
        let w = known s nid_packet_ato all_reads in
        let g : counted_at s 0 / 4294967296 ≡ 1 = w.groups ∙ ap (λ (a : ℕ). length (groups_in a)) (number_first w.lowers) ∙ one_group in
        then_past (Reads s) (field_any s nid_packet_ato (record { next = omega arith; value = refl })) 0 all (past_here (Reads s) (values_of (from_sheet wire_changes s)) all_reads)

    -- up to L_SP
    head_walk : Walked 1 1 all 9 (field l_sp λ lsp. offset_rows lsp end)
    head_walk = walk_row identity_widths identity_most refl (walk_row header_widths header_most refl (walk_field nid_operational (walk_start head_past)))

    pub head_numbers : Numbers s 1 9
    head_numbers = record { ok = ok; here = head_walk.here }

    -- the values of the numbers between the packet number and L_SP
    pub head_values : (i : ℕ) → i < 9 → get_or all (1 + i) 0 ≡ counted_at s (numbers_end s 1 i) % 4294967296
    head_values = head_walk.value

    module _ {at : ℕ} (r : at ≡ numbers_end s 1 9) {to a : ℕ} (n : NumberAt s at to a) where
      length_past : Past (Reads s) (field l_sp λ lsp. offset_rows lsp end) at (drop 10 all)
      length_past = rw r head_walk.past

      -- up to the speed profile
      offset_walk : Walked to 11 all 3 (three_lists a end)
      offset_walk = walk_row offset_widths offset_most refl (walk_start (then_past (Reads s) (same_read n l_sp (λ u. refl)) 10 all length_past))

      pub offset_numbers : Numbers s to 3
      offset_numbers = record { ok = ok; here = offset_walk.here }

      pub head_read : {p : ℕ} → p ≡ numbers_end s to 3 → HeadRead (Reads s) all a p
      head_read q =
          let most : a ≤ 16777215 = number_most n length_lawful offset_rows (record { follows = end; values = length_past.values; reads = length_past.reads }) in
          record { length_is = sym (then_is (Reads s) (same_read n l_sp (λ u. refl)) 10 all length_past); small = omega (arith, most); past = rw q offset_walk.past }
