-- The whole of an accepted journey, part after part.
use mathlib.Core.Path.{◌≡◌, refl}
use mathlib.Core.List.{List, [], ◌∷◌, ◌++◌}
use Prim.Native.Nat.{ℕ}
use Rattle.bits.specs.Bits.{field_at}
use Rattle.numbers.specs.internal.Groups.{Put}
use Rattle.kinds.specs.Kinds.{nid_operational}
use Rattle.format.specs.Format.{Format, end, field, then, times}
use Rattle.grammar.specs.internal.rows.Rows.{row}
use Rattle.kinds.specs.journey.Kinds.{q_jp_status, n_iter_sp}
use Rattle.grammar.specs.journey.Journey.{journey_body, journey_segment, constraints}
use Rattle.grammar.specs.declared.link.Tree.TheVariants.{Journey}
use Rattle.grammar.specs.link.Link.{tree_fields}
use Rattle.grammar.specs.internal.journey.Parts.{journey_body_part, journey_part}
use Rattle.grammar.specs.internal.segment.Parts.{header_widths, header_most}
use Rattle.grammar.proofs.segment.Parts.{header_rows_lem, header_fits}
use Rattle.sheet_write_segment.specs.internal.elements.Writing.{PartWritable, Wrote}
use Rattle.sheet_write_segment.proofs.elements.Writing.{Along, along_here, along_on, along_none}
use Rattle.sheet_write_segment.specs.internal.head.Widths.{header_fields}
use Rattle.sheet_write_segment.specs.internal.row.Row.{Row, copied}
use Rattle.sheet_write_segment.proofs.row.Tree.{Rowing, rowing_none, rowing_as, rowing_row, rowing_field, rowing_here}
use Rattle.sheet_write_journey.specs.internal.rows.Widths.{head_widths}

pub whole_part : tree_fields Journey ≡ journey_part end
unfolding journey_body
whole_part = refl

module _ (s : List ℕ) (stop : ℕ) {p : Put} (h : PartWritable journey_part s stop 24 p) where
  abbrev counted : ℕ → Format → Format
  counted u f = field n_iter_sp λ n. times (journey_segment constraints) n f

  head_rowing : (n : ℕ) → n ≡ field_at s 123 8 → Rowing s stop 24 p journey_part (times (journey_segment constraints) n) head_widths
  head_rowing n e =
      let start = rowing_as s stop 24 p (λ f. then nid_operational (row header_widths header_most (journey_body_part f))) (λ f. header_rows_lem (journey_body_part f)) (rowing_none s stop 24 p h) in
      let operational = rowing_field s stop 24 p [] h nid_operational (λ u f. row header_widths header_most (journey_body_part f)) 32 refl (λ v. refl) start _ refl in
      let header = rowing_row s stop 24 p (32 ∷ []) h journey_body_part header_widths header_most header_fits operational in
      let status = rowing_field s stop 24 p header_fields h q_jp_status counted 3 refl (λ v. refl) header _ refl in
      rowing_field s stop 24 p (header_fields ++ 3 ∷ []) h n_iter_sp (times (journey_segment constraints)) 8 refl (λ v. refl) status n e

  pub head_row : Row s 24 head_widths p
  head_row = rowing_here s stop 24 p (head_rowing _ refl)

  module _ {q : Put} (c : q ≡ copied s 24 head_widths p) {n : ℕ} (e : n ≡ field_at s 123 8) where
    at_segments : Along s stop journey_part (times (journey_segment constraints) n) 24 p 131 q
    at_segments = rw c (head_rowing n e).along

    pub segments_writable : PartWritable (times (journey_segment constraints) n) s stop 131 q
    segments_writable = along_here s stop at_segments h

    pub journey_wrote : {to : ℕ} {r : Put} → Wrote (times (journey_segment constraints) n) s stop 131 q to r → Wrote journey_part s stop 24 p to r
    journey_wrote o = along_none s stop (along_on s stop (times (journey_segment constraints) n) (λ f. f) at_segments o)
