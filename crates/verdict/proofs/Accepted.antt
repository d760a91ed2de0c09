-- What follows from a verdict about the values that were read; and the frame and the fields of an accepted packet.
use mathlib.Core.Path.{◌≡◌, refl, sym, ap, ◌∙◌}
use mathlib.Core.List.{List, ◌∷◌}
use Prim.Native.Nat.{ℕ}
use lib.ListN.{drop}
use Rattle.bits.specs.Bits.{bits_of_bytes}
use Rattle.kinds.specs.declared.Item.{Item}
use Rattle.format.specs.Format.{Read, accepted, refused, read, values_of, answer_of}
use Rattle.format.specs.Media.{packet}
use Rattle.grammar.specs.segment.Frame.{first_one, number_item}
use Rattle.grammar.specs.declared.link.Tree.{Tree}
use Rattle.grammar.specs.link.Link.{tree_number, tree_fields}
use Rattle.grammar.specs.internal.link.Trees.{tree_packet}
use Rattle.grammar.proofs.segment.Framing.{padded_accepted}
use Rattle.format.specs.internal.Places.{bits_between}
use Rattle.verdict.specs.internal.Verdict.{Verdict, verdict_of}
use Rattle.verdict.specs.internal.frame.Framed.{frame_of}
use Rattle.verdict.proofs.frame.Framing.{packet_frame, packet_fields}
use Rattle.verdict.proofs.Sizes.{Sorts, verdict_sorts}

module _ {B : Type 0} {accepts : ℕ → B} {refuses : ℕ → ℕ → B} (sorts : Sorts accepts refuses) (size : List Item → ℕ) where
  pub verdict_accepted : {C : Type 0} (r : Read) (n : ℕ) → accepts n ≡ verdict_of accepts refuses size r → (r ≡ accepted (values_of r) → n ≡ size (values_of r) → C) → C
  verdict_accepted (accepted l) n e k = k refl (sorts.size e)
  verdict_accepted (refused r place) n e k = absurd (sorts.apart (sym e))

  pub verdict_refused : (r : Read) (q place : ℕ) → refuses q place ≡ verdict_of accepts refuses size r → r ≡ refused q place
  verdict_refused (accepted l) q place e = absurd (sorts.apart e)
  verdict_refused (refused r p) q place e = rw (sorts.number e, sorts.place e)

module _ (t : Tree) (s : List ℕ) where
  -- the frame of an accepted packet is whole
  pub accepted_frame : {C : Type 0} (r : ℕ) {place : ℕ} {l : List Item} → tree_packet t s ≡ accepted l → Verdict.refused r place ≡ frame_of (tree_number t) s → C
  accepted_frame r a e =
      let none : List Item → _ = λ l. Verdict.sized 0 in
      absurd (verdict_sorts.apart {n = 0} (packet_frame Verdict.refused none (tree_number t) (tree_fields t) s e ∙ ap (answer_of Verdict.refused none) a))

  -- the fields' own values
  pub record Parts (stop : ℕ) (l : List Item) : Type 0 where
    pub values : List Item
    pub reads : read packet (tree_fields t) 24 (bits_between s 24 stop) ≡ accepted values
    pub all : l ≡ number_item (tree_number t) ∷ values

  pub parts : (stop : ℕ) (l : List Item) → Verdict.sized stop ≡ frame_of (tree_number t) s → tree_packet t s ≡ accepted l → Parts stop l
  parts stop l e a =
      padded_accepted (tree_number t) (first_one stop (drop stop (bits_of_bytes s))) (read packet (tree_fields t) 24 (bits_between s 24 stop)) l
      (sym (packet_fields (tree_number t) s (tree_fields t) stop e) ∙ a) λ m p none q.
      record { values = m; reads = p; all = q }
