-- The verdict on a packet, from its frame and from the verdict on its fields, over what the code has of each.
use mathlib.Core.Path.{◌≡◌, sym, ◌∙◌}
use mathlib.Core.List.{List}
use Prim.Native.Nat.{ℕ, ◌*◌}
use lib.ListN.{length, drop}
use Rattle.bits.specs.Bits.{bits_of_bytes}
use Rattle.verdict.specs.internal.frame.Framed.{frame_of, one_or_end}
use Rattle.verdict.proofs.frame.Framing.{Whole, whole, packet_frame, packet_refused, packet_accepted, packet_padding}
use Rattle.format.specs.Media.{sheet}
use Rattle.kinds.specs.declared.Item.{Item}
use Rattle.grammar.specs.declared.link.Tree.{Tree}
use Rattle.grammar.specs.link.Link.{tree_number, tree_fields}
use Rattle.grammar.specs.internal.link.Trees.{tree_sheet_fields}
use Rattle.verdict.specs.internal.Verdict.{Verdict, size_from, fields_verdict, packet_verdict}
use Rattle.verdict.proofs.Sizes.{verdict_sorts}

module _ (t : Tree) (s : List ℕ) where
  abbrev size : List Item → Verdict
  size l = Verdict.sized (size_from sheet (tree_sheet_fields t) 0 l)

  pub frame_refused : {r place : ℕ} → Verdict.refused r place ≡ frame_of (tree_number t) s → Verdict.refused r place ≡ packet_verdict t s
  unfolding packet_verdict
  frame_refused e = packet_frame Verdict.refused size (tree_number t) (tree_fields t) s e

  module _ {stop : ℕ} (framed : Verdict.sized stop ≡ frame_of (tree_number t) s) where
    pub framed_whole : Whole (tree_number t) s stop
    framed_whole = whole (tree_number t) s stop framed

    pub fields_refused : {r place : ℕ} → Verdict.refused r place ≡ fields_verdict t s stop → Verdict.refused r place ≡ packet_verdict t s
    unfolding packet_verdict
    fields_refused judged = packet_refused Verdict.refused size (tree_number t) (tree_fields t) s stop framed judged (λ l q. verdict_sorts.apart q)

    module _ {n one : ℕ} (judged : Verdict.sized n ≡ fields_verdict t s stop) (found : one ≡ one_or_end stop (drop stop (bits_of_bytes s))) where
      pub fields_accepted : one ≡ 8 * length s → Verdict.sized n ≡ packet_verdict t s
      unfolding packet_verdict
      fields_accepted e = packet_accepted Verdict.refused size (tree_number t) (tree_fields t) s stop framed judged (sym found ∙ e)

      pub padding_refused : (one ≡ 8 * length s → ⊥) → Verdict.refused 7 one ≡ packet_verdict t s
      unfolding packet_verdict
      padding_refused h = rw found (packet_padding Verdict.refused size (tree_number t) (tree_fields t) s stop framed judged (λ r p q. verdict_sorts.apart q) (λ e. h (found ∙ e)))
