-- The ends at every limit of wire changes up to 31: no segment is outside them, and one is at each; 23 and today's limit are instances.
use mathlib.Core.Path.{◌≡◌, refl, ap, ◌∙◌}
use mathlib.Core.Bool.{Bool, true, false, ◌&&◌}
use mathlib.Core.List.{List, [], ◌∷◌, ◌++◌}
use mathlib.Core.Option.{Option, none, some}
use borrow.Author.Tests.{eqb-true, ltb-true, eq-eqb, le-leb, lt-ltb}
use Prim.Native.Nat.{ℕ, zero, suc, ◌+◌, ◌*◌, ◌/◌, ◌≤◌, ◌<◌}
use native.Mathlib.Omega.{arith}
use lib.Dec.{eqb, ltb, lit<, lit≤}
use lib.ListN.{length, length-append}
use Rattle.bits.proofs.Tests.{and_left, and_right}
use Rattle.bits.proofs.Spelling.{length_bits}
use Rattle.numbers.specs.Numbers.{groups_in}
use Rattle.numbers.proofs.Counting.{count_of, last_count}
use Rattle.kinds.specs.declared.Item.{Item}
use Rattle.kinds.specs.Kind.{Kind}
use Rattle.kinds.specs.Kinds.{digits, n_iter, d_location}
use Rattle.kinds.specs.Tables.{place}
use Rattle.format.specs.Format.{Format, end, field, Medium, write}
use Rattle.format.specs.Media.{packet, sheet}
use Rattle.format.specs.Conforming.{Conforming, done, also, InSheet}
use Rattle.format.proofs.Sized.{size_least, size_most, sheet_priced, lowered_priced}
use Rattle.grammar.specs.segment.Segment.{entries, profile, voltage, current, changes, part, lists, body, fields, sheet_fields, wire_changes}
use Rattle.grammar.specs.segment.Judgement.{segment_number, after_number, to_packet, to_sheet}
use Rattle.grammar.specs.segment.Ends.{most_bits, most_bytes, most_sheet, Sized, Ends}
use Rattle.grammar.proofs.segment.Framing.{framed_length}
use Rattle.grammar.proofs.segment.Ends.{fields_bits, sheet_groups}

-- ---- the values

abbrev pub item : ℕ → ℕ → Item
item a v = record { sheet = a; packet = v }

abbrev pub repeated : ℕ → List Item → List Item
repeated zero l = []
repeated (suc n) l = l ++ repeated n l

-- n changes from the location x on, one centimetre apart, each with what its list begins with
changed : (List Item → List Item) → ℕ → ℕ → List Item → List Item
changed start x zero l = l
changed start x (suc n) l = item x x ∷ start (changed start (suc x) n l)

abbrev parted : (List Item → List Item) → ℕ → List Item → List Item
parted start n l = start (item n n ∷ changed start 2097152 n l)

-- the largest element that each of the three lists can begin with
abbrev speeds : List Item → List Item
speeds l = item 604 120 ∷ item 1 1 ∷ item 31 31 ∷ repeated 31 (item 0 0 ∷ item 300 10 ∷ item 604 120 ∷ []) ++ l

abbrev volts : List Item → List Item
volts l = item 25000 1 ∷ item 1023 1023 ∷ l

abbrev amperes : List Item → List Item
amperes l = item 10010 1000 ∷ l

abbrev wires : ℕ → List Item
wires limit = parted volts limit (parted amperes limit [])

abbrev largest : ℕ → List Item
largest limit =
    item 6 6 ∷ item 4294967295 4294967295 ∷ item 16777215 16777215 ∷ item 32767 32767 ∷ item 86399 86399 ∷ item 255 255
    ∷ item 1023 1023 ∷ item 4294967295 4294967295 ∷ item 255 255 ∷ item 255 255 ∷ item 16777215 16777215 ∷ item 16777215 16777215
    ∷ item 112 112 ∷ item 1048575 1048575 ∷ parted speeds 31 (wires limit)

abbrev smallest : List Item
smallest = item 6 6 ∷ repeated 9 (item 0 0 ∷ []) ++ item 1 1 ∷ repeated 10 (item 0 0 ∷ []) ++ item 0 1023 ∷ item 0 0 ∷ []

-- ---- conforming, as a test that antt computes

abbrev pub matches : Option ℕ → ℕ → Bool
matches none v = false
matches (some u) v = eqb u v

abbrev pub good : Kind → Item → Bool
good k i = matches (k.lower i.sheet) i.packet && ltb i.sheet 4294967296

abbrev pub conforms : Format → List Item → Bool
conforms end [] = true
conforms end (i ∷ l) = false
conforms (field k next) [] = false
conforms (field k next) (i ∷ l) = good k i && conforms (next i.packet) l

matched : (o : Option ℕ) (v : ℕ) → matches o v ≡ true → o ≡ some v
matched none v e = cc
matched (some u) v e = ap (λ (n : ℕ). some n) (eqb-true u v e)

pub conformed : (f : Format) (l : List Item) → conforms f l ≡ true → Conforming InSheet f l
conformed end [] e = done
conformed end (i ∷ l) e = cc
conformed (field k next) [] e = cc
conformed (field k next) (i ∷ l) e =
    let g : good k i ≡ true = and_left (good k i) (conforms (next i.packet) l) e in
    let test : Bool = matches (k.lower i.sheet) i.packet in
    also {k = k} {i = i}
    (record {
      lowered = matched (k.lower i.sheet) i.packet (and_left test (ltb i.sheet 4294967296) g);
      fits = ltb-true i.sheet 4294967296 (and_right test (ltb i.sheet 4294967296) g);
    })
    (conformed (next i.packet) l (and_right (good k i) (conforms (next i.packet) l) e))

-- ---- sizes, added up field by field

added : {A : Type 0} → Medium A → Format → List Item → ℕ → ℕ
added m end l n = n
added m (field k next) [] n = n
added m (field k next) (i ∷ l) n = added m (next i.packet) l (n + length (m.put k i))

added_size : {A : Type 0} (m : Medium A) (f : Format) (l : List Item) (n : ℕ) → added m f l n ≡ n + length (write m f l)
unfolding added
added_size m end l n = omega arith
added_size m (field k next) [] n = omega arith
added_size m (field k next) (i ∷ l) n =
    added_size m (next i.packet) l (n + length (m.put k i)) ∙ omega (arith, length-append (m.put k i) (write m (next i.packet) l))

-- ---- a list of as many changes as its limit, one centimetre apart, on the longest segment

abbrev longest : ℕ
longest = 16777215

module _ (start : Format → Format) (values : List Item → List Item) (begun : (f : Format) (l : List Item) → conforms (start f) (values l) ≡ conforms f l) where
  changes_conform : (f : Format) (l : List Item) (c last x : ℕ) → last < x → x + c ≤ longest
      → conforms (changes start longest last c f) (changed values x c l) ≡ conforms f l
  unfolding changes changed
  changes_conform f l zero last x h k = refl
  changes_conform f l (suc c) last x h k =
      rw (lt-ltb last x h, lt-ltb x longest (omega arith), eq-eqb x x refl, lt-ltb x 4294967296 (omega arith))
      (begun (changes start longest x c f) (changed values (suc x) c l) ∙ changes_conform f l c x (suc x) (omega arith) (omega arith))

  part_conforms : (limit : ℕ) → limit ≤ 31 → (f : Format) (l : List Item) → conforms (part start limit longest f) (parted values limit l) ≡ conforms f l
  part_conforms limit h f l =
      begun (field (n_iter limit) λ n. changes start longest 0 n f) (item limit limit ∷ changed values 2097152 limit l)
      ∙ rw (le-leb 0 limit (omega arith), le-leb limit limit (omega arith), eq-eqb limit limit refl, lt-ltb limit 4294967296 (omega arith))
      (changes_conform f l limit 0 2097152 (lit< tt) (omega arith))

-- what a location and a count take in a medium
record Steady {A : Type 0} (m : Medium A) (of_place of_count : ℕ) : Type 0 where
  places : (last x : ℕ) → 2097152 ≤ x → x < longest → length (m.put (d_location last longest) (item x x)) ≡ of_place
  counts : (limit : ℕ) → limit ≤ 31 → length (m.put (n_iter limit) (item limit limit)) ≡ of_count

packet_steady : Steady packet 24 5
packet_steady = record { places = λ last x h k. length_bits 24 x; counts = λ limit h. length_bits 5 limit }

sheet_steady : Steady sheet 4 1
sheet_steady = record {
  places = λ last x h k. count_of x 4 (omega arith) (record { some = omega arith; fits = omega arith; least = λ _. omega arith });
  counts = λ limit h. last_count limit (omega arith);
}

module _ {A : Type 0} (m : Medium A) {of_place of_count : ℕ} (steady : Steady m of_place of_count) (start : Format → Format) (values : List Item → List Item) (size : ℕ)
    (begun : (f : Format) (l : List Item) (n : ℕ) → added m (start f) (values l) n ≡ added m f l (n + size)) where
  changes_added : (f : Format) (l : List Item) (c last x n : ℕ) → 2097152 ≤ x → x + c ≤ longest
      → added m (changes start longest last c f) (changed values x c l) n ≡ added m f l (n + c * (of_place + size))
  unfolding changes changed added
  changes_added f l zero last x n h k = ap (added m f l) (omega arith)
  changes_added f l (suc c) last x n h k =
      rw (steady.places last x h (omega arith))
      (begun (changes start longest x c f) (changed values (suc x) c l) (n + of_place)
      ∙ changes_added f l c x (suc x) (n + of_place + size) (omega arith) (omega arith) ∙ ap (added m f l) (omega arith))

  part_added : (limit : ℕ) → limit ≤ 31 → (f : Format) (l : List Item) (n : ℕ)
      → added m (part start limit longest f) (parted values limit l) n ≡ added m f l (n + (size + of_count + limit * (of_place + size)))
  unfolding added changes
  part_added limit h f l n =
      begun (field (n_iter limit) λ c. changes start longest 0 c f) (item limit limit ∷ changed values 2097152 limit l) n
      ∙ rw (steady.counts limit h)
      (changes_added f l limit 0 2097152 (n + size + of_count) (lit≤ tt) (omega arith) ∙ ap (added m f l) (omega arith))

-- the lists of wires
abbrev wires_part : ℕ → Format
wires_part limit = part voltage limit longest (part current limit longest end)

module _ (limit : ℕ) (h : limit ≤ 31) where
  largest_conforms : conforms (sheet_fields limit) (largest limit) ≡ true
  unfolding digits place entries lists body fields sheet_fields
  largest_conforms =
      part_conforms profile speeds (λ f l. refl) 31 (lit≤ tt) (wires_part limit) (wires limit)
      ∙ part_conforms voltage volts (λ f l. refl) limit h (part current limit longest end) (parted amperes limit [])
      ∙ part_conforms current amperes (λ f l. refl) limit h end []

  -- the bits or bytes of the three lists in a medium, by the bits or bytes of what each list begins with
  lists_added : {A : Type 0} (m : Medium A) {of_place of_count : ℕ} → Steady m of_place of_count → (of_speeds of_volts of_amperes : ℕ)
      → ((f : Format) (l : List Item) (n : ℕ) → added m (profile f) (speeds l) n ≡ added m f l (n + of_speeds))
      → ((f : Format) (l : List Item) (n : ℕ) → added m (voltage f) (volts l) n ≡ added m f l (n + of_volts))
      → ((f : Format) (l : List Item) (n : ℕ) → added m (current f) (amperes l) n ≡ added m f l (n + of_amperes))
      → (n : ℕ) → added m (part profile 31 longest (wires_part limit)) (parted speeds 31 (wires limit)) n
      ≡ n + (of_speeds + of_count + 31 * (of_place + of_speeds)) + (of_volts + of_count + limit * (of_place + of_volts)) + (of_amperes + of_count + limit * (of_place + of_amperes))
  unfolding added
  lists_added m {of_place} {of_count} steady a b c first second third n =
      part_added m steady profile speeds a first 31 (lit≤ tt) (wires_part limit) (wires limit) n
      ∙ part_added m steady voltage volts b second limit h (part current limit longest end) (parted amperes limit []) (n + (a + of_count + 31 * (of_place + a)))
      ∙ part_added m steady current amperes c third limit h end [] (n + (a + of_count + 31 * (of_place + a)) + (b + of_count + limit * (of_place + b)))

  largest_bits : added packet (fields limit) (after_number (largest limit)) 0 ≡ 96 + most_bits limit
  unfolding entries lists body fields added
  largest_bits =
      lists_added packet packet_steady 416 14 10 (λ f l n. ap (added packet f l) (omega arith)) (λ f l n. ap (added packet f l) (omega arith)) (λ f l n. refl) 229
      ∙ omega arith

  largest_bytes : added sheet (sheet_fields limit) (largest limit) 0 ≡ most_sheet limit
  unfolding groups_in entries lists body fields sheet_fields added
  largest_bytes =
      lists_added sheet sheet_steady 159 5 2 (λ f l n. ap (added sheet f l) (omega arith)) (λ f l n. ap (added sheet f l) (omega arith)) (λ f l n. refl) 41
      ∙ omega arith

  smallest_conforms : conforms (sheet_fields limit) smallest ≡ true
  unfolding digits place entries changes lists body fields sheet_fields
  smallest_conforms = rw (le-leb 0 limit (omega arith))

  -- a packet's bytes by the bits of its fields
  packet_bytes_lem : (l : List Item) → length (to_packet limit l) ≡ (24 + length (write packet (fields limit) (after_number l)) + 7) / 8
  unfolding to_packet
  packet_bytes_lem l = framed_length segment_number (write packet (fields limit) (after_number l))

  body_within : (l : List Item) → Conforming InSheet (sheet_fields limit) l
      → (96 + 185 ≤ length (write packet (fields limit) (after_number l))) × (length (write packet (fields limit) (after_number l)) ≤ 96 + most_bits limit)
  unfolding sheet_fields
  body_within [] x' = elim x' [ ]
  body_within (i ∷ l) (also g c) = (size_least lowered_priced (fields_bits limit h) c, size_most lowered_priced (fields_bits limit h) c)

  sheet_within : (l : List Item) → Conforming InSheet (sheet_fields limit) l → (23 ≤ length (to_sheet limit l)) × (length (to_sheet limit l) ≤ most_sheet limit)
  unfolding to_sheet
  sheet_within l c = (size_least sheet_priced (sheet_groups limit h) c, size_most sheet_priced (sheet_groups limit h) c)

  -- values that the tests pass, with the sizes that were added up
  sized : (l : List Item) (b s : ℕ) → conforms (sheet_fields limit) l ≡ true → added packet (fields limit) (after_number l) 0 ≡ 96 + b → added sheet (sheet_fields limit) l 0 ≡ s
      → Sized limit l b (15 + (b + 7) / 8) s
  unfolding to_sheet
  sized l b s c bits bytes =
      let body : length (write packet (fields limit) (after_number l)) ≡ 96 + b = omega (arith, added_size packet (fields limit) (after_number l) 0) in
      record {
        conforming = conformed (sheet_fields limit) l c;
        of_body = body;
        of_packet = packet_bytes_lem l ∙ omega arith;
        of_sheet = omega (arith, added_size sheet (sheet_fields limit) l 0);
      }

  -- "The smallest body has 185 bits (packet of 39 bytes), the largest ..", at any limit
  pub ends : Ends limit (most_bits limit) (most_bytes limit) (most_sheet limit)
  unfolding groups_in entries changes lists body fields sheet_fields added
  ends = record {
    least = λ {l} z. (omega (arith, body_within l z.conforming), omega (arith, body_within l z.conforming, packet_bytes_lem l), omega (arith, sheet_within l z.conforming));
    most = λ {l} z. (omega (arith, body_within l z.conforming), omega (arith, body_within l z.conforming, packet_bytes_lem l), omega (arith, sheet_within l z.conforming));
    smallest = (smallest, sized smallest 185 23 smallest_conforms refl refl);
    largest = (largest limit, sized (largest limit) (most_bits limit) (most_sheet limit) largest_conforms largest_bits largest_bytes);
  }

-- "the largest 15,884 (2,001 bytes)", "A sheet has at most 5,608 bytes", with 23 wire changes
pub ends_23 : Ends 23 15884 2001 5608
ends_23 = ends 23 (lit≤ tt)

-- "The largest body becomes 16,460 bits, the packet 2,073 bytes, the sheet 5,728", at today's limit
pub ends_now : Ends wire_changes 16460 2073 5728
ends_now = ends wire_changes (lit≤ tt)
