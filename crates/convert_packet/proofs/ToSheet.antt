-- From an accepted packet to its sheet: what the writers require, and what they leave in the room.
use mathlib.Core.Path.{◌≡◌, refl, sym, ap, ◌∙◌}
use mathlib.Core.List.{List, [], ◌∷◌, ◌++◌}
use Prim.Native.Nat.{ℕ, ◌+◌, ◌<◌, ◌≤◌}
use native.Mathlib.Omega.{arith}
use borrow.Author.Tests.{lt-ltb, le-ltb}
use lib.ListN.{length, drop, length-append}
use lib.Seq.{sets, sets-eq}
use Rattle.bits.specs.Bits.{Bytes, field_at}
use Rattle.bits.proofs.Cells.{sets_append}
use Rattle.numbers.specs.Numbers.{groups_in}
use Rattle.kinds.specs.declared.Item.{Item}
use Rattle.format.specs.Format.{Read, accepted, write, values_of}
use Rattle.format.specs.Media.{sheet}
use Rattle.format.proofs.Lawful.{to_sheet_lem}
use Rattle.grammar.specs.segment.Frame.{packet_number}
use Rattle.grammar.specs.declared.link.Tree.{Tree}
use Rattle.grammar.specs.declared.link.Tree.TheVariants.{Segment, Journey}
use Rattle.grammar.specs.link.Link.{tree_number, tree_fields, tree_of, from_either_packet, to_either_sheet}
use Rattle.grammar.specs.internal.link.Trees.{tree_sheet_fields, tree_packet, fields_of, FieldsWritable}
use Rattle.grammar.proofs.link.Trees.{link_lawful}
use Rattle.grammar.proofs.link.Values.{tree_sheet_lem, tree_packet_values}
use Rattle.grammar.proofs.link.Ends.{either_sheet_size}
use Rattle.verdict.specs.internal.Verdict.{Verdict, size_from, packet_verdict}
use Rattle.verdict.specs.internal.frame.Framed.{frame_of}
use Rattle.verdict.proofs.frame.Framing.{whole}
use Rattle.verdict.proofs.Sizes.{verdict_sorts}
use Rattle.verdict.proofs.Accepted.{verdict_accepted, verdict_refused, accepted_frame, Parts, parts}
use Rattle.convert.specs.Convert.{Outcome, refused_with, success_with, fitted, converted, packet_to_sheet}
use Rattle.convert.specs.internal.Writers.{sheet_of, SheetWritable, tree_to_sheet}

-- bytes written at the start of a room that holds them make the outcome of a success
pub done_placed : (bytes room : List ℕ) (n : ℕ) (cells : List ℕ) → n ≡ length bytes → length bytes ≤ length room → cells ≡ sets room 0 bytes
    → ◌≡◌ {A = Outcome} (record { answer = record { refusal = 0; place = 0; length = n }; room = cells }) (success_with bytes room)
done_placed bytes room n cells l f q =
    let z : 0 + length bytes ≡ length bytes = omega arith in
    let b : cells ≡ bytes ++ drop (length bytes) room = q ∙ sets-eq bytes room 0 (omega arith) ∙ rw z in
    λ j. record { answer = record { refusal = 0; place = 0; length = l j }; room = b j }

-- the packet number has one byte in the sheet
number_bytes : (t : Tree) → length (groups_in (tree_number t)) ≡ 1
unfolding groups_in
number_bytes Segment = refl
number_bytes Journey = refl

module _ (t : Tree) (s : List ℕ) where
  abbrev number : List ℕ
  number = groups_in (tree_number t)

  -- ---- the writers

  module _ (room : List ℕ) (w : SheetWritable t s room) (stop : ℕ) (e : Verdict.sized stop ≡ frame_of (tree_number t) s) where
    own : Parts t s stop (values_of (tree_packet t s))
    own = parts t s stop (values_of (tree_packet t s)) e w.accepts

    fields_values : fields_of t s stop ≡ write sheet (tree_fields t) own.values
    fields_values = ap (λ (r : Read). write sheet (tree_fields t) (values_of r)) own.reads

    sheet_parts : sheet_of t s ≡ number ++ fields_of t s stop
    sheet_parts = ap to_either_sheet own.all ∙ tree_sheet_lem t own.values ∙ ap (λ (l : List ℕ). number ++ l) (sym fields_values)

    sheet_long : length (sheet_of t s) ≡ 1 + length (fields_of t s stop)
    sheet_long = ap length sheet_parts ∙ length-append number (fields_of t s stop) ∙ rw (number_bytes t)

    pub number_fits : 0 + length number ≤ length room
    number_fits = omega (arith, w.holds, sheet_long, number_bytes t)

    pub fields_writable : (next : ℕ) (cells : List ℕ) → next ≡ 0 + length number → length cells ≡ length room → FieldsWritable t s stop cells next
    fields_writable next cells p q = record {
      place = (whole (tree_number t) s stop e).placed;
      accepts = own.reads ∙ ap accepted (sym (ap values_of own.reads));
      holds = omega (arith, w.holds, sheet_long, number_bytes t);
    }

    pub sheet_written : (next : ℕ) (cells : List ℕ) → next ≡ 0 + length number → cells ≡ sets room 0 number
        → sets cells next (fields_of t s stop) ≡ sets room 0 (sheet_of t s)
    sheet_written next cells p q = rw (p, q) (sym (ap (sets room 0) sheet_parts ∙ sets_append room 0 number (fields_of t s stop)))

  -- ---- the answers

  pub sheet_refused : (room : List ℕ) (r place : ℕ) → Verdict.refused r place ≡ packet_verdict t s → refused_with r place room ≡ tree_to_sheet t s room
  unfolding packet_verdict tree_to_sheet
  sheet_refused room r place e = rw (verdict_refused verdict_sorts (size_from sheet (tree_sheet_fields t) 0) (tree_packet t s) r place e)

  module _ (room : List ℕ) (n : ℕ) (e : Verdict.sized n ≡ packet_verdict t s) where
    accepts : tree_packet t s ≡ accepted (values_of (tree_packet t s))
    unfolding packet_verdict
    accepts = verdict_accepted verdict_sorts (size_from sheet (tree_sheet_fields t) 0) (tree_packet t s) n e λ p q. p

    counted : n ≡ 0 + length (write sheet (tree_sheet_fields t) (values_of (tree_packet t s)))
    unfolding packet_verdict
    counted = verdict_accepted verdict_sorts (size_from sheet (tree_sheet_fields t) 0) (tree_packet t s) n e λ p q. q

    -- an accepted packet has a frame, and the values of its fields
    framed : {C : Type 0} → ((stop : ℕ) → Parts t s stop (values_of (tree_packet t s)) → C) → C
    framed {C} f = go (frame_of (tree_number t) s) refl
      where
        go : (g : Verdict) → g ≡ frame_of (tree_number t) s → C
        go (Verdict.refused r place) d = accepted_frame t s r accepts d
        go (Verdict.sized stop) d = f stop (parts t s stop (values_of (tree_packet t s)) d accepts)

    sheet_size : n ≡ length (sheet_of t s)
    sheet_size =
        framed λ stop o.
        let a = ap (λ (l : List Item). length (write sheet (tree_sheet_fields t) l)) o.all in
        let b = ap (λ (l : List Item). length (to_either_sheet l)) o.all ∙ ap length (tree_sheet_lem t o.values) in
        omega (arith, counted, a, b)

    by_values : tree_to_sheet t s room ≡ fitted (sheet_of t s) room
    unfolding tree_to_sheet
    by_values = ap (λ (r : Read). converted to_either_sheet r room) accepts

    -- a segment's sheet has at most 5,728 bytes, a journey's at most 15,226
    pub sheet_short : Bytes s → n ≤ 15226
    sheet_short ok =
        let v = (tree_packet_values t s (values_of (tree_packet t s)) ok accepts).0 in
        omega (arith, sheet_size, (either_sheet_size (record { good = to_sheet_lem link_lawful v.good; few = v.few })).1)

    pub sheet_too_long : length room < n → refused_with 8 0 room ≡ tree_to_sheet t s room
    sheet_too_long h = sym (by_values ∙ rw (lt-ltb (length room) (length (sheet_of t s)) (omega (arith, sheet_size))))

    pub sheet_writable : n ≤ length room → SheetWritable t s room
    sheet_writable h = record { accepts = accepts; holds = omega (arith, sheet_size) }

    pub sheet_done : n ≤ length room → (cells : List ℕ) → cells ≡ sets room 0 (sheet_of t s)
        → ◌≡◌ {A = Outcome} (record { answer = record { refusal = 0; place = 0; length = n }; room = cells }) (tree_to_sheet t s room)
    sheet_done h cells q =
        let l : n ≡ length (sheet_of t s) = sheet_size in
        let f : length (sheet_of t s) ≤ length room = omega arith in
        done_placed (sheet_of t s) room n cells l f q ∙ sym (by_values ∙ rw (le-ltb (length room) (length (sheet_of t s)) f))

-- the conversion by the tree that the packet number names is the conversion
pub sheet_by_tree : (s room : List ℕ) → tree_to_sheet (tree_of (packet_number s)) s room ≡ packet_to_sheet s room
unfolding tree_to_sheet packet_to_sheet from_either_packet
sheet_by_tree s room = refl

-- a packet of no byte counts as a segment
pub no_number : (s : List ℕ) → length s ≡ 0 → Segment ≡ tree_of (packet_number s)
unfolding field_at
no_number [] e = refl
no_number (b ∷ s) e = absurd (omega arith)
