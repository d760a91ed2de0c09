-- From an accepted sheet to its packet: the fields of the header, the fields of the body, and the room that they make.
use mathlib.Core.Path.{◌≡◌, refl, sym, ap, ◌∙◌}
use mathlib.Core.Bool.{Bool, ◌&&◌}
use mathlib.Core.List.{List, [], ◌∷◌, ◌++◌, append_assoc}
use mathlib.Core.Option.{none, some}
use Prim.Native.Nat.{ℕ, ◌+◌, ◌*◌, ◌-◌, ◌/◌, ◌^◌, ◌<◌, ◌≤◌}
use native.Mathlib.Omega.{arith}
use borrow.Author.Tests.{lt-ltb, le-ltb, leb-true}
use lib.Dec.{leb}
use lib.ListN.{length, take, drop, length-append, length-drop, take-append-drop}
use lib.Seq.{drop-drop, length-take-le, take_all, take_at, drop-append-add, drop_at}
use Rattle.bits.specs.Bits.{Bytes, bits_of, bytes_of_bits}
use Rattle.bits.proofs.Padding.{bytes_append}
use Rattle.numbers.specs.Numbers.{groups_in}
use Rattle.bits.specs.internal.write.Filling.{Filled, Filling}
use Rattle.kinds.specs.declared.Item.{Item}
use Rattle.kinds.specs.Kind.{when}
use Rattle.format.specs.Format.{Format, Read, accepted, read, write, values_of}
use Rattle.format.specs.Media.{packet, sheet}
use Rattle.bits.proofs.Tests.{by_cases, and_left, and_right}
use Rattle.format.specs.Conforming.{Conforming, also, InSheet}
use Rattle.format.proofs.Media.{sheet_again, sheet_only}
use Rattle.grammar.specs.segment.Frame.{frame, packet_of_bits, number_item}
use Rattle.grammar.specs.segment.Judgement.{after_number}
use Rattle.grammar.proofs.segment.Framing.{frame_length, framed_length}
use Rattle.format.specs.Format.{end, refused, answer_of}
use Rattle.format.specs.internal.Pass.{pass}
use Rattle.format.specs.internal.Tasks.{Told, recording}
use Rattle.grammar.specs.segment.Segment.{lists, body}
use Rattle.grammar.specs.internal.rows.Rows.{row}
use Rattle.grammar.specs.internal.segment.Parts.{header_rows}
use Rattle.grammar.specs.journey.Journey.{journey_body}
use Rattle.grammar.specs.declared.link.Tree.{Tree}
use Rattle.grammar.specs.declared.link.Tree.TheVariants.{Segment, Journey}
use Rattle.grammar.specs.link.Link.{tree_number, tree_body, tree_fields, link_bits, within_count, to_either_packet, from_either_sheet}
use Rattle.grammar.specs.internal.link.Trees.{tree_sheet_fields, tree_sheet, tree_of_sheet}
use Rattle.grammar.proofs.link.Values.{tree_packet_lem, count_accepted}
use Rattle.grammar.proofs.link.Ends.{bits_is, tree_bits}
use Rattle.grammar.proofs.link.Sheets as link
use Rattle.packet_write_segment.specs.declared.elements.PacketSpot.{PacketSpot}
use Rattle.packet_write_segment.specs.internal.elements.Writing.{writer, Ready, Wrote}
use Rattle.packet_write_segment.proofs.elements.Writing.{run_told}
use Rattle.verdict.specs.internal.Verdict.{Verdict, size_from, sheet_verdict}
use Rattle.convert.specs.Convert.{Outcome, refused_with, fitted, converted, sheet_to_packet}
use Rattle.convert.specs.internal.Writers.{bits_of_sheet, SheetAccepted, body_read, body_bits_of, BodyAt, Headed, sheet_judged, tree_to_packet}
use Rattle.convert_sheet.specs.internal.Counted.{counted_verdict, tree_body_part}
use Rattle.verdict.proofs.Sizes.{verdict_sorts}
use Rattle.verdict.proofs.Accepted.{verdict_accepted, verdict_refused}

-- ---- the trees as parts

body_part : (t : Tree) → tree_body t ≡ tree_body_part t end
unfolding body lists row journey_body
body_part Segment = refl
body_part Journey = refl

header_part : (t : Tree) → tree_fields t ≡ header_rows (tree_body_part t end)
unfolding body lists row journey_body
header_part Segment = refl
header_part Journey = refl

-- ---- the sheet: its first number, and the size of its bits

first_number : (n a v : ℕ) → when (leb n a && leb a n) a ≡ some v → (a ≡ n) × (v ≡ n)
first_number n a v e =
    by_cases (leb n a && leb a n)
    (λ d. let f : some a ≡ some v = rw d at e in
    let q : a ≡ v = cc in
    let l : n ≤ a = leb-true n a (and_left (leb n a) (leb a n) d) in
    let h : a ≤ n = leb-true a n (and_right (leb n a) (leb a n) d) in
    (omega arith, omega arith))
    (λ d. let f : none ≡ some v = rw d at e in absurd (let z : ◌≡◌ {A = ℕ} 0 1 = cc in omega arith))

-- the values l of an accepted sheet are its packet number and the values after it
pub record Numbered (t : Tree) (s : List ℕ) (l : List Item) : Type 0 where
  pub values : List Item
  pub all : l ≡ number_item (tree_number t) ∷ values
  pub reads : read sheet (tree_fields t) (length (groups_in (tree_number t))) (drop (length (groups_in (tree_number t))) s) ≡ accepted values
  pub inside : length (groups_in (tree_number t)) ≤ length s
  pub conforms : Conforming InSheet (tree_fields t) values

numbered : (t : Tree) (s : List ℕ) (l : List Item) → Bytes s → tree_sheet t s ≡ accepted l → Numbered t s l
numbered t s l ok e = let o = sheet_only (tree_sheet_fields t) 0 s l ok e in go l o.0 o.1
  where
    go : (m : List Item) → Conforming InSheet (tree_sheet_fields t) m → s ≡ write sheet (tree_sheet_fields t) m → Numbered t s m
    go m (also {i = i} {l = v} g c) d =
        let n = first_number (tree_number t) i.sheet i.packet g.lowered in
        let q : ◌≡◌ {A = Item} i (number_item (tree_number t)) = λ j. record { sheet = n.0 j; packet = n.1 j } in
        let w : s ≡ groups_in (tree_number t) ++ write sheet (tree_fields t) v = d ∙ ap (λ (a : ℕ). groups_in a ++ write sheet (tree_fields t) v) n.0 in
        let r : drop (length (groups_in (tree_number t))) s ≡ write sheet (tree_fields t) v = ap (drop (length (groups_in (tree_number t)))) w ∙ drop_at (groups_in (tree_number t)) (write sheet (tree_fields t) v) (length (groups_in (tree_number t))) refl in
        record {
          values = v;
          all = ap (λ (x : Item). x ∷ v) q;
          reads = ap (read sheet (tree_fields t) (length (groups_in (tree_number t)))) r ∙ sheet_again c (length (groups_in (tree_number t)));
          inside = omega (arith, ap length w, length-append (groups_in (tree_number t)) (write sheet (tree_fields t) v));
          conforms = c;
        }

module _ (t : Tree) (s : List ℕ) (ok : Bytes s) (a : SheetAccepted t s) where
  pub own : Numbered t s (values_of (sheet_judged t s))
  own = count_accepted (tree_sheet t s) (values_of (sheet_judged t s)) a λ e few. numbered t s (values_of (sheet_judged t s)) ok e

  pub sheet_bits : bits_of_sheet t s ≡ write packet (tree_fields t) own.values
  sheet_bits = ap (λ (l : List Item). write packet (tree_fields t) (after_number l)) own.all

  pub bits_low : 96 + 11 ≤ length (bits_of_sheet t s)
  bits_low = omega (arith, ap length sheet_bits, tree_bits t own.conforms)

  pub bits_high : length (bits_of_sheet t s) ≤ 96 + 65535
  bits_high =
      count_accepted (tree_sheet t s) (values_of (sheet_judged t s)) a λ e few.
      omega (arith, ap length sheet_bits, ap (λ (l : List Item). length (link_bits l)) own.all, ap length (bits_is t own.values))

-- ---- the header

filled_none : (s : List ℕ) → Filled [] s 0 0
filled_none s = record { count = refl; waits = refl; bytes = λ h. refl }

cut : (p b r f : List Bool) (n : ℕ) → f ≡ b ++ r → length (p ++ b) ≡ n → take n (p ++ f) ≡ p ++ b
cut p b r f n e l = ap (λ (x : List Bool). take n (p ++ x)) e ∙ ap (take n) (sym (append_assoc p b r)) ∙ take_at (p ++ b) r n l

module _ (t : Tree) (s : List ℕ) (ok : Bytes s) (a : SheetAccepted t s) where
  all_told : (x : List Bool) → (writer s).run (header_rows (tree_body_part t end)) (length (groups_in (tree_number t))) x ≡ Told.told (x ++ bits_of_sheet t s)
  all_told x =
      ap (λ (f : Format). (writer s).run f (length (groups_in (tree_number t))) x) (sym (header_part t))
      ∙ run_told s (tree_fields t) (length (groups_in (tree_number t))) x
      ∙ rw ((own t s ok a).reads, sheet_bits t s ok a)

  header_ready : (room : List ℕ) (x : List Bool) (wait : ℕ) → Filled x room 24 wait → Ready header_rows s room (record { from = length (groups_in (tree_number t)); at = 24; wait = wait })
  header_ready room x wait f = record {
    bytes = ok;
    inside = (own t s ok a).inside;
    bits = x;
    filled = f;
    ahead = record { follows = tree_body_part t end; good = rw (all_told x) (omega (arith, f.count, length-append x (bits_of_sheet t s), bits_high t s ok a)) };
  }

  -- the bits of a sheet's fields are the header's bits and the body's bits, and the body's numbers begin at the byte `at`
  record Apart (bits : List Bool) (at : ℕ) : Type 0 where
    pub place : BodyAt t s at
    pub all : bits_of_sheet t s ≡ bits ++ body_bits_of t s at

  apart : (bits : List Bool) (at : ℕ) → at ≤ length s → Told.told (bits_of_sheet t s) ≡ (writer s).run (tree_body_part t end) at bits → Apart bits at
  apart bits at l e = go (body_read t s at) refl (e ∙ ap (λ (f : Format). (writer s).run f at bits) (sym (body_part t)) ∙ run_told s (tree_body t) at bits)
    where
      go : (r : Read) → body_read t s at ≡ r → Told.told (bits_of_sheet t s) ≡ answer_of Told.not (λ v. Told.told (bits ++ write packet (tree_body t) v)) r → Apart bits at
      go (accepted v) q d =
          let i : bits_of_sheet t s ≡ bits ++ write packet (tree_body t) v = cc in
          record { place = record { inside = l; accepts = q ∙ ap accepted (sym (ap values_of q)) }; all = i ∙ ap (λ (r : Read). bits ++ write packet (tree_body t) (values_of r)) (sym q) }
      go (refused r n) q d = absurd (let z : ◌≡◌ {A = ℕ} 0 1 = cc in omega arith)

  module _ {h0 h1 h2 : List ℕ} {number wait n : ℕ} (fifteen : length h0 ≡ 15) (ln : n ≡ length (bits_of_sheet t s) - 96)
      (one : Filling h0 0 0 8 (tree_number t) h1 number) (two : Filling h1 8 number 16 n h2 wait) where
    begun : Filled (bits_of 8 (tree_number t) ++ bits_of 16 n) h2 24 wait
    begun = two.fills (bits_of 8 (tree_number t)) (one.fills [] (filled_none h0))

    pub header_may : Ready header_rows s h2 (record { from = length (groups_in (tree_number t)); at = 24; wait = wait })
    header_may = header_ready h2 (bits_of 8 (tree_number t) ++ bits_of 16 n) wait begun

    pub header_done : {h3 : List ℕ} {q : PacketSpot} → Wrote header_rows s h2 (record { from = length (groups_in (tree_number t)); at = 24; wait = wait }) h3 q → q.at ≡ 120 → Headed t s h3 q.from
    header_done {h3} {q} w e =
        let b = w.bits in
        let g = apart b q.from (w.over []).stands (sym (all_told []) ∙ (w.over []).goes (tree_body_part t end)) in
        let f = w.puts.fills (bits_of 8 (tree_number t) ++ bits_of 16 n) begun in
        let h : length h3 ≡ 15 = w.puts.long ∙ two.long ∙ one.long ∙ fifteen in
        let p = bits_of 8 (tree_number t) ++ bits_of 16 n in
        let lp : length (p ++ b) ≡ 120 = sym f.count ∙ e in
        let lb : length b ≡ 96 = omega (arith, lp, length-append p b) in
        let m : frame (tree_number t) (bits_of_sheet t s) ≡ p ++ bits_of_sheet t s = rw (← ln) (sym (append_assoc (bits_of 8 (tree_number t)) (bits_of 16 n) (bits_of_sheet t s))) in
        let k : take 15 h3 ≡ bytes_of_bits (p ++ b) = rw e at (f.bytes (omega (arith, h, e))) in
        record {
          bytes = sym (take_all 15 h3 (omega (arith, h))) ∙ k ∙ ap bytes_of_bits (sym (ap (take 120) m ∙ cut p b (body_bits_of t s q.from) (bits_of_sheet t s) 120 g.all lp));
          place = g.place;
          rest = ap (drop 96) g.all ∙ drop_at b (body_bits_of t s q.from) 96 lb;
        }

-- ---- the body

module _ (t : Tree) (s : List ℕ) (ok : Bytes s) (at : ℕ) (h : BodyAt t s at) (few : length (body_bits_of t s at) < 2 ^ 31) where
  body_told : (x : List Bool) → (writer s).run (tree_body_part t end) at x ≡ Told.told (x ++ body_bits_of t s at)
  body_told x =
      ap (λ (f : Format). (writer s).run f at x) (sym (body_part t))
      ∙ run_told s (tree_body t) at x
      ∙ ap (answer_of Told.not (λ v. Told.told (x ++ write packet (tree_body t) v))) h.accepts

  pub body_may : (room : List ℕ) → Ready (tree_body_part t) s room (record { from = at; at = 0; wait = 0 })
  body_may room = record {
    bytes = ok;
    inside = h.inside;
    bits = [];
    filled = filled_none room;
    ahead = record { follows = end; good = rw (body_told []) (omega (arith, few)) };
  }

  -- the bits that the body's writer puts are the bits of the body
  body_bits_lem : (bits : List Bool) (to : ℕ) (u : List ℕ) → Told.told (body_bits_of t s at) ≡ pass sheet (recording packet) end bits to u → bits ≡ body_bits_of t s at
  body_bits_lem bits to [] e = cc
  body_bits_lem bits to (b ∷ u) e = absurd (let z : ◌≡◌ {A = ℕ} 0 1 = cc in omega arith)

  pub body_done : {room after : List ℕ} {q : PacketSpot} → length room ≡ (length (body_bits_of t s at) + 7) / 8 → Wrote (tree_body_part t) s room (record { from = at; at = 0; wait = 0 }) after q
      → after ≡ bytes_of_bits (body_bits_of t s at)
  body_done {room} {after} {q} l w =
      let e : w.bits ≡ body_bits_of t s at = body_bits_lem w.bits q.from (drop q.from s) (sym (body_told []) ∙ (w.over []).goes end) in
      let f = w.puts.fills [] (filled_none room) in
      let c : q.at ≡ length (body_bits_of t s at) = f.count ∙ ap length e in
      let n : length after ≡ (q.at + 7) / 8 = w.puts.long ∙ l ∙ rw c in
      sym (take_all ((q.at + 7) / 8) after (omega (arith, n))) ∙ f.bytes (omega (arith, n)) ∙ ap bytes_of_bits e

-- ---- the answers

module _ (t : Tree) (s room : List ℕ) where
  pub packet_refused : (r place : ℕ) → Verdict.refused r place ≡ counted_verdict t s → refused_with r place room ≡ tree_to_packet t s room
  unfolding counted_verdict tree_to_packet
  packet_refused r place e = rw (verdict_refused verdict_sorts (size_from packet (tree_sheet_fields t) 0) (sheet_judged t s) r place e)

  module _ (ok : Bytes s) (n : ℕ) (e : Verdict.sized n ≡ counted_verdict t s) where
    pub packet_accepts : SheetAccepted t s
    unfolding counted_verdict
    packet_accepts = verdict_accepted verdict_sorts (size_from packet (tree_sheet_fields t) 0) (sheet_judged t s) n e λ p q. p

    -- the verdict counts the 8 bits of the packet number and the bits of the fields
    pub packet_bits : n ≡ 8 + length (bits_of_sheet t s)
    unfolding counted_verdict
    packet_bits =
        let o = own t s ok packet_accepts in
        let v = o.values in
        let z : n ≡ 0 + length (write packet (tree_sheet_fields t) (values_of (sheet_judged t s))) =
        verdict_accepted verdict_sorts (size_from packet (tree_sheet_fields t) 0) (sheet_judged t s) n e λ p q. q in
        omega (
          arith,
          ap (λ (l : List Item). length (write packet (tree_sheet_fields t) l)) o.all,
          ap length (sheet_bits t s ok packet_accepts),
          length-append (bits_of 8 (tree_number t)) (write packet (tree_fields t) v),
        )

    pub packet_low : 104 + 11 ≤ n
    packet_low = omega (arith, packet_bits, bits_low t s ok packet_accepts)

    pub packet_high : n ≤ 104 + 65535
    packet_high = omega (arith, packet_bits, bits_high t s ok packet_accepts)

    by_bits : tree_to_packet t s room ≡ fitted (packet_of_bits (tree_number t) (bits_of_sheet t s)) room
    unfolding tree_to_packet
    by_bits =
        let o = own t s ok packet_accepts in
        ap (λ (r : Read). converted to_either_packet r room) packet_accepts
        ∙ ap (λ (l : List ℕ). fitted l room)
        (ap to_either_packet o.all ∙ tree_packet_lem t o.values ∙ ap (packet_of_bits (tree_number t)) (sym (sheet_bits t s ok packet_accepts)))

    packet_long : length (packet_of_bits (tree_number t) (bits_of_sheet t s)) ≡ 15 + (n - 104 + 7) / 8
    packet_long = framed_length (tree_number t) (bits_of_sheet t s) ∙ omega (arith, packet_bits, packet_low)

    pub packet_too_long : length room < 15 + (n - 104 + 7) / 8 → refused_with 8 0 room ≡ tree_to_packet t s room
    packet_too_long h = sym (by_bits ∙ rw (lt-ltb (length room) (length (packet_of_bits (tree_number t) (bits_of_sheet t s))) (omega (arith, packet_long))))

    module _ (header : List ℕ) (at : ℕ) (h : Headed t s header at) where
      pub body_long : length (body_bits_of t s at) ≡ n - 104
      body_long = omega (arith, ap length h.rest, length-drop 96 (bits_of_sheet t s), packet_bits)

      bits_apart : frame (tree_number t) (bits_of_sheet t s) ≡ take 120 (frame (tree_number t) (bits_of_sheet t s)) ++ body_bits_of t s at
      bits_apart =
          let f : List Bool = bits_of_sheet t s in
          let p : List Bool = bits_of 8 (tree_number t) ++ bits_of 16 (length f - 96) in
          let d : drop 120 (p ++ f) ≡ drop 96 f = drop-append-add p f 96 in
          sym (take-append-drop 120 (frame (tree_number t) f)) ∙ ap (λ (x : List Bool). take 120 (frame (tree_number t) f) ++ x)
          (ap (drop 120) (sym (append_assoc (bits_of 8 (tree_number t)) (bits_of 16 (length f - 96)) f)) ∙ d ∙ h.rest)

      front : length (take 120 (frame (tree_number t) (bits_of_sheet t s))) ≡ 8 * 15
      front = length-take-le 120 (frame (tree_number t) (bits_of_sheet t s)) (omega (arith, frame_length (tree_number t) (bits_of_sheet t s), bits_low t s ok packet_accepts))

      -- the packet is the bytes of the header and the bytes of the body
      packet_parts : packet_of_bits (tree_number t) (bits_of_sheet t s) ≡ header ++ bytes_of_bits (body_bits_of t s at)
      packet_parts =
          ap bytes_of_bits bits_apart ∙ bytes_append (take 120 (frame (tree_number t) (bits_of_sheet t s))) (body_bits_of t s at) 15 front
          ∙ ap (λ (x : List ℕ). x ++ bytes_of_bits (body_bits_of t s at)) (sym h.bytes)

      pub packet_done : 15 + (n - 104 + 7) / 8 ≤ length room → (rest : List ℕ) → rest ≡ bytes_of_bits (body_bits_of t s at) ++ drop ((length (body_bits_of t s at) + 7) / 8) (drop 15 room)
          → ◌≡◌ {A = Outcome} (record { answer = record { refusal = 0; place = 0; length = 15 + (n - 104 + 7) / 8 }; room = header ++ rest }) (tree_to_packet t s room)
      packet_done g rest q =
          let all : List ℕ = packet_of_bits (tree_number t) (bits_of_sheet t s) in
          let k : 15 + (length (body_bits_of t s at) + 7) / 8 ≡ length all = omega (arith, body_long, packet_long) in
          let c : header ++ rest ≡ all ++ drop (length all) room =
          ap (λ (x : List ℕ). header ++ x) (q ∙ ap (λ (x : List ℕ). bytes_of_bits (body_bits_of t s at) ++ x) (drop-drop ((length (body_bits_of t s at) + 7) / 8) 15 room ∙ ap (λ (m : ℕ). drop m room) k))
          ∙ sym (append_assoc header (bytes_of_bits (body_bits_of t s at)) (drop (length all) room)) ∙ ap (λ (x : List ℕ). x ++ drop (length all) room) (sym packet_parts) in
          let f : length all ≤ length room = omega (arith, packet_long) in
          sym (by_bits ∙ rw (le-ltb (length room) (length all) f) (λ j. record { answer = record { refusal = 0; place = 0; length = packet_long j }; room = sym c j }))

-- ---- refusal 12

module _ (t : Tree) (s : List ℕ) (ok : Bytes s) where
  -- the bits in a sheet's verdict are the bits that 12 counts
  judged_bits : (n : ℕ) → Verdict.sized n ≡ sheet_verdict t s → {C : Type 0}
      → (tree_sheet t s ≡ accepted (values_of (tree_sheet t s)) → n ≡ 8 + length (link_bits (values_of (tree_sheet t s))) → n ≡ 0 + length (write packet (tree_sheet_fields t) (values_of (tree_sheet t s))) → C) → C
  unfolding sheet_verdict
  judged_bits n e f =
      verdict_accepted verdict_sorts (size_from packet (tree_sheet_fields t) 0) (tree_sheet t s) n e λ a z.
      let o = numbered t s (values_of (tree_sheet t s)) ok a in
      let v = o.values in
      f a (omega (
        arith,
        z,
        ap (λ (l : List Item). length (write packet (tree_sheet_fields t) l)) o.all,
        ap (λ (l : List Item). length (link_bits l)) o.all,
        ap length (bits_is t v),
        length-append (bits_of 8 (tree_number t)) (write packet (tree_fields t) v),
      )) z

  pub counted_refused : (r place : ℕ) → Verdict.refused r place ≡ sheet_verdict t s → Verdict.refused r place ≡ counted_verdict t s
  unfolding sheet_verdict counted_verdict
  counted_refused r place e = rw (verdict_refused verdict_sorts (size_from packet (tree_sheet_fields t) 0) (tree_sheet t s) r place e)

  pub counted_12 : (n : ℕ) → Verdict.sized n ≡ sheet_verdict t s → 65535 + 104 < n → Verdict.refused 12 0 ≡ counted_verdict t s
  unfolding counted_verdict
  counted_12 n e h =
      judged_bits n e λ a b z.
      rw (a, lt-ltb 65535 (length (link_bits (values_of (tree_sheet t s))) - 96) (omega (arith, b)))

  pub counted_accepted : (n : ℕ) → Verdict.sized n ≡ sheet_verdict t s → n ≤ 65535 + 104 → Verdict.sized n ≡ counted_verdict t s
  unfolding counted_verdict
  counted_accepted n e h =
      judged_bits n e λ a b z.
      rw (a, le-ltb 65535 (length (link_bits (values_of (tree_sheet t s))) - 96) (omega (arith, b))) (ap Verdict.sized z)

-- the conversion by the tree that the first number names is the conversion
pub packet_by_tree : (s room : List ℕ) → tree_to_packet (tree_of_sheet s) s room ≡ sheet_to_packet s room
unfolding tree_to_packet sheet_to_packet from_either_sheet
packet_by_tree s room = ap (λ (r : Read). converted to_either_packet (within_count r) room) (sym (link.sheet_by_tree s))
