-- An accepted segment, part after part: the row of fields before its lists, and the lists.
use mathlib.Core.Path.{◌≡◌, refl}
use mathlib.Core.List.{List, [], ◌∷◌, ◌++◌}
use Prim.Native.Nat.{ℕ, ◌+◌, ◌*◌, ◌≤◌, ◌<◌}
use native.Mathlib.Omega.{arith}
use lib.Dec.{lit<, lit≤}
use lib.ListN.{length}
use lib.Seq.{sets}
use Rattle.bits.specs.Bits.{field_at}
use Rattle.numbers.specs.Numbers.{groups_in}
use Rattle.numbers.specs.internal.Groups.{Put}
use Rattle.kinds.specs.Kinds.{nid_operational, l_sp}
use Rattle.format.specs.Format.{Format, end, field}
use Rattle.grammar.specs.segment.Segment.{fields}
use Rattle.grammar.specs.internal.rows.Rows.{row}
use Rattle.grammar.specs.internal.segment.Parts.{header_widths, header_most, identity_widths, identity_most, offset_widths, offset_most, offset_rows, body_rows, segment_rows, three_lists}
use Rattle.grammar.proofs.segment.Parts.{header_fits, identity_fits, offset_fits, fields_rows}
use Rattle.grammar.specs.declared.link.Tree.{Tree}
use Rattle.grammar.specs.declared.link.Tree.TheVariants.{Segment}
use Rattle.grammar.specs.link.Link.{tree_fields}
use Rattle.grammar.specs.internal.link.Trees.{fields_of, FieldsWritable}
use Rattle.sheet_write_segment.specs.internal.elements.Writing.{putting, filled, PartWritable, Wrote}
use Rattle.sheet_write_segment.specs.internal.head.Widths.{header_fields, length_widths, head_widths}
use Rattle.sheet_write_segment.specs.internal.row.Row.{Row, copied}
use Rattle.sheet_write_segment.proofs.elements.Whole.{tree_writable, tree_held}
use Rattle.sheet_write_segment.proofs.elements.Writing.{Along, along_here, along_on, along_none}
use Rattle.sheet_write_segment.proofs.row.Rows.{row_first, row_after, row_both, alone_fits, alone_copied}
use Rattle.sheet_write_segment.proofs.row.Tree.{Rowing, rowing_none, rowing_row, rowing_field, rowing_here}

-- ---- the fields of either tree, as a part and nothing after it

module _ (t : Tree) (part : Format → Format) (e : tree_fields t ≡ part end) (s : List ℕ) (stop : ℕ) (room : List ℕ) (start : ℕ)
    (h : FieldsWritable t s stop room start × (8 ≤ length s)) where
  -- all of it may be written
  pub fields_writable : PartWritable part s stop 24 (filled room start)
  fields_writable = tree_writable (tree_fields t) part e s stop 24 room start h.0.accepts h.0.place h.1 h.0.holds

  -- and once it is, the room holds the sheet
  pub fields_held : {to : ℕ} {p : Put} → Wrote part s stop 24 (filled room start) to p → p.bytes ≡ sets room start (fields_of t s stop)
  fields_held o = tree_held (tree_fields t) part e s stop 24 room start h.0.accepts o

-- ---- a segment

pub whole_part : tree_fields Segment ≡ segment_rows end
unfolding fields
whole_part = fields_rows

module _ {s : List ℕ} {stop : ℕ} {p : Put} (h : PartWritable segment_rows s stop 24 p) where
  abbrev after_identity : Format → Format
  after_identity f = field l_sp λ lsp. offset_rows lsp f

  head_rowing : (lsp : ℕ) → lsp ≡ field_at s 178 24 → Rowing s stop 24 p segment_rows (three_lists lsp) head_widths
  head_rowing lsp e =
      let operational = rowing_field s stop 24 p [] h nid_operational (λ u f. row header_widths header_most (body_rows f)) 32 refl (λ v. refl) (rowing_none s stop 24 p h) _ refl in
      let header = rowing_row s stop 24 p (32 ∷ []) h body_rows header_widths header_most header_fits operational in
      let identity = rowing_row s stop 24 p header_fields h after_identity identity_widths identity_most identity_fits header in
      let long = rowing_field s stop 24 p (header_fields ++ identity_widths) h l_sp offset_rows 24 refl (λ v. refl) identity lsp e in
      rowing_row s stop 24 p (header_fields ++ identity_widths ++ 24 ∷ []) h (three_lists lsp) offset_widths offset_most offset_fits long

  head_row : Row s 24 head_widths p
  head_row = rowing_here s stop 24 p (head_rowing _ refl)

  pub header_row_lem : Row s 24 header_fields p
  header_row_lem = row_first s 24 header_fields (identity_widths ++ length_widths) p head_row

  module _ {q : Put} (a : q ≡ copied s 24 header_fields p) where
    body_row : Row s 120 (identity_widths ++ length_widths) q
    body_row = row_after s 24 header_fields (identity_widths ++ length_widths) p 120 refl a head_row

    pub identity_row : Row s 120 identity_widths q
    identity_row = row_first s 120 identity_widths length_widths q body_row

    module _ {r : Put} (b : r ≡ copied s 120 identity_widths q) where
      length_row : Row s 178 length_widths r
      length_row = row_after s 120 identity_widths length_widths q 178 refl b body_row

      pub length_read : (0 < 24) × (24 ≤ 32) × (178 + 24 ≤ 8 * length s) × (8 ≤ length s)
      length_read = (lit< tt, lit≤ tt, omega (arith, length_row.inside), length_row.long)

      module _ {lsp : ℕ} (e : lsp ≡ field_at s 178 24) where
        pub length_fits : r.next + length (groups_in lsp) ≤ length r.bytes
        length_fits = alone_fits s 178 24 r (row_first s 178 (24 ∷ []) offset_widths r length_row) e

        module _ {t : Put} (c : t ≡ putting r lsp) where
          length_copied : t ≡ copied s 178 (24 ∷ []) r
          length_copied = alone_copied s 178 24 r (row_first s 178 (24 ∷ []) offset_widths r length_row) e c

          pub offsets_row : Row s 202 offset_widths t
          offsets_row = row_after s 178 (24 ∷ []) offset_widths r 202 refl length_copied length_row

          module _ {u : Put} (d : u ≡ copied s 202 offset_widths t) where
            head_copied : u ≡ copied s 24 head_widths p
            head_copied =
                row_both s 24 header_fields (identity_widths ++ length_widths) p 120 refl a
                (row_both s 120 identity_widths length_widths q 178 refl b (row_both s 178 (24 ∷ []) offset_widths r 202 refl length_copied d))

            at_lists : Along s stop segment_rows (three_lists lsp) 24 p 253 u
            at_lists = rw head_copied (head_rowing lsp e).along

            pub lists_writable : PartWritable (three_lists lsp) s stop 253 u
            lists_writable = along_here s stop at_lists h

            pub all_wrote : {to : ℕ} {v : Put} → Wrote (three_lists lsp) s stop 253 u to v → Wrote segment_rows s stop 24 p to v
            all_wrote o = along_none s stop (along_on s stop (three_lists lsp) (λ f. f) at_lists o)
