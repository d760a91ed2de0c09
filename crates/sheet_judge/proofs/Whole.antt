-- The verdict on a sheet, from the step over every field.
use mathlib.Core.Path.{◌≡◌, refl, sym, ap, ◌∙◌}
use mathlib.Core.List.{List, [], ◌∷◌}
use Prim.Native.Nat.{ℕ, ◌+◌, ◌^◌, ◌<◌}
use native.Mathlib.Nat.{mod-eq_of_lt}
use native.Mathlib.Omega.{arith}
use lib.Dec.{lit≤, lit<}
use lib.ListN.{length, drop, drop_of_length-le, length-drop}
use Rattle.bits.specs.Bits.{Bytes}
use Rattle.kinds.specs.declared.Item.{Item}
use Rattle.format.specs.Format.{Format, end, Read, accepted, refused, read, write, answer_of}
use Rattle.format.specs.Media.{packet, sheet}
use Rattle.format.specs.internal.Pass.{pass, made}
use Rattle.format.specs.internal.Ways.{Went, Over}
use Rattle.format.proofs.Media.{sheet_only}
use Rattle.format.proofs.Passing.{pass_read}
use Rattle.format.proofs.Tasks.{made_within}
use Rattle.format.proofs.Sized.{size_most, lowered_priced}
use Rattle.format.specs.Conforming.{Conforming, InSheet}
use Rattle.grammar.specs.segment.Segment.{lists, body, fields, sheet_fields, wire_changes}
use Rattle.grammar.specs.internal.rows.Rows.{row}
use Rattle.grammar.proofs.segment.Ends.{sheet_bits}
use Rattle.grammar.specs.journey.Journey.{journey_body, journey_fields, journey_sheet, constraints}
use Rattle.grammar.proofs.journey.Ends as journey
use Rattle.grammar.specs.declared.link.Tree.{Tree}
use Rattle.grammar.specs.declared.link.Tree.TheVariants.{Segment, Journey}
use Rattle.grammar.specs.internal.link.Trees.{tree_sheet_fields, tree_sheet}
use Rattle.grammar.proofs.link.Places.{sheet_place}
use Rattle.verdict.specs.internal.Verdict.{Verdict, size_from, sheet_verdict}
use Rattle.verdict.proofs.Sizes.{verdict_sorts}
use Rattle.verdict.proofs.Accepted.{verdict_refused}
use Rattle.sheet_fields.specs.internal.Judging.{judge, judging}
use Rattle.sheet_judge.specs.internal.Whole.{numbers_part}

-- the tree is that part and nothing after it
whole_part : (t : Tree) → tree_sheet_fields t ≡ numbers_part t end
unfolding body lists row journey_body
whole_part Segment = refl
whole_part Journey = refl

-- a sheet's packet has fewer bits than 2 to the 32
tree_few : (t : Tree) {l : List Item} → Conforming InSheet (tree_sheet_fields t) l → length (write packet (tree_sheet_fields t) l) < 2 ^ 32
unfolding sheet_fields fields journey_sheet journey_fields
tree_few Segment c = omega (arith, size_most lowered_priced (sheet_bits wire_changes (lit≤ tt)) c)
tree_few Journey c = omega (arith, size_most lowered_priced (journey.sheet_bits constraints (lit≤ tt)) c)

module _ (t : Tree) (s : List ℕ) (ok : Bytes s) where
  abbrev tree : Format
  tree = tree_sheet_fields t

  -- an accepted sheet's packet has fewer bits than 2 to the 32
  few : (l : List Item) → read sheet tree 0 s ≡ accepted l → length (write packet tree l) < 2 ^ 32
  few l e = tree_few t (sheet_only tree 0 s l ok e).0

  counts : (r : Read) → read sheet tree 0 s ≡ r
      → answer_of Verdict.refused (λ l. Verdict.sized (0 + length (write packet tree l))) r ≡ answer_of Verdict.refused (λ l. Verdict.sized (made judging tree l 0)) r
  counts (accepted l) e =
      let h = few l e in
      ap Verdict.sized (sym (made_within packet (2 ^ 32) Verdict.sized Verdict.refused tree l 0 (lit< tt) ∙ mod-eq_of_lt (omega arith)))
  counts (refused r place) e = refl

  sheet_verdict_lem : sheet_verdict t s ≡ pass sheet judging (numbers_part t end) 0 0 s
  unfolding sheet_verdict
  sheet_verdict_lem =
      counts (read sheet tree 0 s) refl
      ∙ sym (pass_read sheet judging tree 0 0 s)
      ∙ ap (λ (f : Format). pass sheet judging f 0 0 s) (whole_part t)

  pub refused_whole : {r place : ℕ} → Over (judge s) (numbers_part t) 0 0 (Went.off r place) → Verdict.refused r place ≡ sheet_verdict t s
  refused_whole o = sym (sheet_verdict_lem ∙ o.goes end)

  pub accepted_whole : {at n : ℕ} → Over (judge s) (numbers_part t) 0 0 (Went.on at n) → at ≡ length s → Verdict.sized n ≡ sheet_verdict t s
  accepted_whole {at} {n} o e =
      sym (sheet_verdict_lem ∙ o.goes end ∙ ap (λ (u : List ℕ). pass sheet judging end n at u) (drop_of_length-le s {i = at} (omega arith)))

  pub left_whole : {at n : ℕ} → Over (judge s) (numbers_part t) 0 0 (Went.on at n) → (at ≡ length s → ⊥) → Verdict.refused 9 at ≡ sheet_verdict t s
  left_whole {at} {n} o e =
      sym (sheet_verdict_lem ∙ o.goes end ∙ over (drop at s) (omega (arith, length-drop at s, o.stands.inside)))
    where
      over : (u : List ℕ) → 0 < length u → pass sheet judging end n at u ≡ Verdict.refused 9 at
      over [] l = absurd (omega arith)
      over (b ∷ u) l = refl

  -- a refusal's place is below 2 to the 32
  pub place_few : {r place : ℕ} → Verdict.refused r place ≡ sheet_verdict t s → place < 2 ^ 32
  unfolding sheet_verdict
  place_few {r} {place} e = sheet_place t s r place ok (verdict_refused verdict_sorts (size_from packet tree 0) (tree_sheet t s) r place e)
