-- The header, the body and a list, step by step: the field that is next, what may be put after it, and what is put once all steps are taken.
use mathlib.Core.Path.{refl}
use mathlib.Core.List.{List}
use Prim.Native.Nat.{ℕ, ◌-◌, ◌^◌, ◌<◌}
use lib.Dec.{lit<}
use Rattle.kinds.specs.Kinds.{nid_operational, l_sp, n_iter, d_location}
use Rattle.fields.proofs.Lawful.{narrow, range_lawful, up_to_lawful, operational_lawful, location_lawful}
use Rattle.format.specs.Format.{Format, field}
use Rattle.grammar.specs.declared.segment.Part.{Part}
use Rattle.grammar.specs.segment.Segment as segment
use Rattle.grammar.specs.internal.rows.Rows.{row}
use Rattle.grammar.specs.internal.segment.Parts.{start_of, three_lists, header_widths, header_most, header_rows, identity_widths, identity_most, offset_widths, offset_most, offset_rows, body_rows}
use Rattle.grammar.proofs.segment.Parts.{changes_more}
use Rattle.packet_write_segment.specs.declared.elements.PacketSpot.{PacketSpot}
use Rattle.packet_write_segment.specs.internal.elements.Writing.{Ready, Wrote}
use Rattle.packet_write_segment.specs.declared.row.Given.{Given}
use Rattle.packet_write_segment.specs.internal.row.Alone.{Copied}
use Rattle.packet_write_segment.proofs.elements.Writing.{Along, along_all, along_as, along_next, along_on, along_none, Next, next_on}

-- ---- the header

abbrev header_row : Format → Format
header_row f = row header_widths header_most f

module _ {s room : List ℕ} {p : PacketSpot} (h : Ready header_rows s room p) where
  pub operational_next : Next header_rows nid_operational (λ v. header_row) s room p room p
  operational_next = record { ready = h; along = along_all h; lawful = operational_lawful; same = λ n. refl }

  module _ {mid : List ℕ} {r : Given} (d : Copied s room p 32 mid r) where
    pub header_row_ready : Ready header_row s mid r.next
    header_row_ready = along_next header_row (λ f. f) (next_on operational_next refl d) h

    pub header_wrote : {end : List ℕ} {q : PacketSpot} → Wrote header_row s mid r.next end q → Wrote header_rows s room p end q
    header_wrote w = along_none (along_on header_row (λ f. f) (next_on operational_next refl d) w)

-- ---- the body

abbrev identity : Format → Format
identity f = row identity_widths identity_most f

abbrev rest : Format → Format
rest f = field l_sp λ lsp. offset_rows lsp f

abbrev offsets : Format → Format
offsets f = row offset_widths offset_most f

module _ {s room : List ℕ} {p : PacketSpot} (h : Ready body_rows s room p) where
  pub identity_ready : Ready identity s room p
  identity_ready = along_next identity rest (along_all h) h

  module _ {mid : List ℕ} {q : PacketSpot} (a : Wrote identity s room p mid q) where
    pub length_next : Next body_rows l_sp offset_rows s room p mid q
    length_next = record { ready = h; along = along_on identity rest (along_all h) a; lawful = range_lawful 24 1 16777215 4 (narrow tt) (lit< tt); same = λ n. refl }

    module _ {far : List ℕ} {r : Given} (d : Copied s mid q 24 far r) where
      pub offsets_ready : Ready offsets s far r.next
      offsets_ready = along_next offsets (three_lists r.value) (next_on length_next refl d) h

      module _ {last : List ℕ} {v : PacketSpot} (o : Wrote offsets s far r.next last v) where
        after_offsets : Along body_rows (three_lists r.value) s room p last v
        after_offsets = along_on offsets (three_lists r.value) (next_on length_next refl d) o

        pub lists_ready : Ready (three_lists r.value) s last v
        lists_ready = along_next (three_lists r.value) (λ f. f) after_offsets h

        pub body_wrote : {end : List ℕ} {w : PacketSpot} → Wrote (three_lists r.value) s last v end w → Wrote body_rows s room p end w
        body_wrote w = along_none (along_on (three_lists r.value) (λ f. f) after_offsets w)

-- ---- a list

module _ (part : Part) (lsp : ℕ) where
  abbrev start : Format → Format
  start f = start_of part f

  abbrev changes : ℕ → ℕ → Format → Format
  changes last n f = segment.changes (start_of part) lsp last n f

  module _ (limit : ℕ) {s room : List ℕ} {p : PacketSpot} (h : Ready (segment.part (start_of part) limit lsp) s room p) where
    abbrev counted : Format → Format
    counted f = field (n_iter limit) λ n. changes 0 n f

    pub element_ready : Ready start s room p
    element_ready = along_next start counted (along_all h) h

    module _ (few : limit < 32) {mid : List ℕ} {q : PacketSpot} (a : Wrote start s room p mid q) where
      pub count_next : Next (segment.part (start_of part) limit lsp) (n_iter limit) (changes 0) s room p mid q
      count_next = record { ready = h; along = along_on start counted (along_all h) a; lawful = up_to_lawful 5 limit (narrow tt) few; same = λ n. refl }

      module _ {far : List ℕ} {r : Given} (d : Copied s mid q 5 far r) where
        pub changes_ready : Ready (changes 0 r.value) s far r.next
        changes_ready = along_next (changes 0 r.value) (λ f. f) (next_on count_next refl d) h

        pub list_wrote : {end : List ℕ} {w : PacketSpot} → Wrote (changes 0 r.value) s far r.next end w → Wrote (segment.part (start_of part) limit lsp) s room p end w
        list_wrote w = along_none (along_on (changes 0 r.value) (λ f. f) (next_on count_next refl d) w)

  -- the next change, after the location last: n are left
  module _ (count last n : ℕ) {s room mid : List ℕ} {u v : PacketSpot} (h : Ready (changes 0 count) s room u) (small : lsp < 2 ^ 24) (l : Along (changes 0 count) (changes last n) s room u mid v) (some : 0 < n) where
    abbrev after : ℕ → Format → Format
    after x f = start (changes x (n - 1) f)

    pub location_next : Next (changes 0 count) (d_location last lsp) after s room u mid v
    location_next = record { ready = h; along = along_as (λ f. field (d_location last lsp) λ x. after x f) (changes_more (start_of part) lsp last n some) l; lawful = location_lawful last lsp small; same = λ n. refl }

    module _ {far : List ℕ} {r : Given} (d : Copied s mid v 24 far r) where
      pub change_ready : Ready start s far r.next
      change_ready = along_next start (changes r.value (n - 1)) (next_on location_next refl d) h

      pub change_on : {end : List ℕ} {w : PacketSpot} → Wrote start s far r.next end w → Along (changes 0 count) (changes r.value (n - 1)) s room u end w
      change_on w = along_on start (changes r.value (n - 1)) (next_on location_next refl d) w
