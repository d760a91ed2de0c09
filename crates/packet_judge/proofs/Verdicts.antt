-- The verdict on a packet's fields, from the step over every field.
use mathlib.Core.Path.{◌≡◌, refl, sym, ap, ◌∙◌}
use mathlib.Core.List.{List, [], ◌∷◌}
use Prim.Native.Nat.{ℕ, ◌≤◌, ◌<◌}
use native.Mathlib.Omega.{arith}
use lib.Dec.{lit≤}
use lib.ListN.{length}
use Rattle.kinds.specs.declared.Item.{Item}
use Rattle.format.specs.Format.{Format, end, Read, accepted, refused, read, answer_of}
use Rattle.format.specs.Media.{packet, sheet}
use Rattle.format.specs.internal.Places.{bits_between, Placed}
use Rattle.format.specs.internal.Pass.{pass, made}
use Rattle.format.proofs.Places.{rest_none, rest_some}
use Rattle.format.proofs.Passing.{pass_read}
use Rattle.format.proofs.Tasks.{made_count}
use Rattle.grammar.specs.segment.Segment.{lists, body}
use Rattle.grammar.specs.internal.rows.Rows.{row}
use Rattle.verdict.specs.internal.Verdict.{Verdict, fields_verdict}
use Rattle.verdict.proofs.Sizes.{size_first}
use Rattle.format.specs.internal.Ways.{Went, Over}
use Rattle.packet_fields.specs.internal.Judging.{judging, judge, verdict_at, Standing}
use Rattle.grammar.specs.journey.Journey.{journey_body}
use Rattle.grammar.specs.declared.link.Tree.{Tree}
use Rattle.grammar.specs.declared.link.Tree.TheVariants.{Segment, Journey}
use Rattle.grammar.specs.link.Link.{tree_fields}
use Rattle.packet_judge.specs.internal.Whole.{tree_part}

-- the tree is that part and nothing after it
whole_part : (t : Tree) → tree_fields t ≡ tree_part t end
unfolding body lists row journey_body
whole_part Segment = refl
whole_part Journey = refl

-- answers that agree on every list of values
alike : (value more : List Item → Verdict) (r : Read) → ((l : List Item) → more l ≡ value l) → answer_of Verdict.refused more r ≡ answer_of Verdict.refused value r
alike value more (accepted l) h = h l
alike value more (refused r place) h = refl

module _ (s : List ℕ) (stop : ℕ) where
  -- where the fields begin, after the packet number's byte
  pub first : Placed s 24 stop → 8 ≤ length s → Standing s stop 24 1
  first h l = record { before = h.before; inside = h.inside; few = h.few; long = l; counted = lit≤ tt }

module _ (t : Tree) (s : List ℕ) (stop : ℕ) where
  fields_verdict_lem : fields_verdict t s stop ≡ verdict_at s stop (tree_part t end) 24 1
  fields_verdict_lem =
      let r = read packet (tree_fields t) 24 (bits_between s 24 stop) in
      sym (alike _ (λ l. Verdict.sized (made judging (tree_fields t) l 1)) r (λ l. ap Verdict.sized (made_count sheet Verdict.sized Verdict.refused (tree_fields t) l 1 ∙ size_first t l)))
      ∙ sym (pass_read packet judging (tree_fields t) 1 24 (bits_between s 24 stop))
      ∙ ap (λ (f : Format). verdict_at s stop f 24 1) (whole_part t)

  pub refused_whole : {r place : ℕ} → Over (judge s stop) (tree_part t) 24 1 (Went.off r place) → Verdict.refused r place ≡ fields_verdict t s stop
  refused_whole o = sym (fields_verdict_lem ∙ o.goes end)

  pub accepted_whole : {at n : ℕ} → Over (judge s stop) (tree_part t) 24 1 (Went.on at n) → at ≡ stop → Verdict.sized n ≡ fields_verdict t s stop
  accepted_whole {at} {n} o e = sym (fields_verdict_lem ∙ o.goes end ∙ ap (λ (u : List _). pass packet judging end n at u) (rest_none s stop at e))

  pub left_whole : {at n : ℕ} → Over (judge s stop) (tree_part t) 24 1 (Went.on at n) → (at ≡ stop → ⊥) → Verdict.refused 13 at ≡ fields_verdict t s stop
  left_whole {at} {n} o e =
      let h = o.stands in
      sym (fields_verdict_lem ∙ o.goes end ∙ over (bits_between s at stop) (rest_some s stop at (record { before = h.before; inside = h.inside; few = h.few }) e))
    where
      over : (u : List _) → 0 < length u → pass packet judging end n at u ≡ Verdict.refused 13 at
      over [] l = absurd (omega arith)
      over (b ∷ u) l = refl
