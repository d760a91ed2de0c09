-- The parts of a journey's body, step by step: what may be written next, and what is written once all steps are taken.
use mathlib.Core.List.{List}
use Prim.Native.Nat.{ℕ}
use Rattle.kinds.specs.Kinds.{n_iter}
use Rattle.format.specs.Format.{Format, field, times}
use Rattle.grammar.specs.internal.rows.Rows.{row}
use Rattle.kinds.specs.journey.Kinds.{q_jp_status, n_iter_sp}
use Rattle.grammar.specs.journey.Journey.{timing_point, temporary_constraint, journey_segment, constraints}
use Rattle.grammar.specs.internal.journey.Parts.{segment_widths, segment_most, constraint_list, segment_rest, journey_body_part}
use Rattle.grammar.proofs.journey.Parts.{segment_rows_lem}
use Rattle.packet_write_segment.specs.declared.elements.PacketSpot.{PacketSpot}
use Rattle.packet_write_segment.specs.internal.elements.Writing.{Ready, Wrote}
use Rattle.packet_write_segment.proofs.elements.Writing.{Along, along_all, along_as, along_next, along_on, along_none}
use Rattle.packet_write_segment.specs.declared.row.Given.{Given}
use Rattle.packet_write_segment.specs.internal.row.Alone.{Offers, Gives}
use Rattle.packet_write_segment.proofs.row.Alone.{along_offers, along_gives}

-- ---- a segment

abbrev names : Format → Format
names f = row segment_widths segment_most f

abbrev rest : Format → Format
rest f = field (n_iter 31) λ n. segment_rest constraints n f

module _ {s room : List ℕ} {p : PacketSpot} (h : Ready (journey_segment constraints) s room p) where
  segment_all : Along (journey_segment constraints) (λ f. names (rest f)) s room p room p
  segment_all = along_as (λ f. names (rest f)) (segment_rows_lem constraints) (along_all h)

  pub segment_names : Ready names s room p
  segment_names = along_next names rest segment_all h

  module _ {mid : List ℕ} {q : PacketSpot} (a : Wrote names s room p mid q) where
    pub segment_count : Offers (n_iter 31) s mid q
    segment_count = along_offers (n_iter 31) (segment_rest constraints) (along_on names rest segment_all a) h

    module _ {end : List ℕ} {r : Given} (g : Gives (n_iter 31) s mid q end r) where
      after_count : Along (journey_segment constraints) (segment_rest constraints r.value) s room p end r.next
      after_count = along_gives (n_iter 31) (segment_rest constraints) (along_on names rest segment_all a) g

      pub segment_points : Ready (times timing_point r.value) s end r.next
      segment_points = along_next (times timing_point r.value) (constraint_list constraints) after_count h

      module _ {far : List ℕ} {t : PacketSpot} (w : Wrote (times timing_point r.value) s end r.next far t) where
        after_points_lem : Along (journey_segment constraints) (constraint_list constraints) s room p far t
        after_points_lem = along_on (times timing_point r.value) (constraint_list constraints) after_count w

        pub segment_last : Offers (n_iter constraints) s far t
        segment_last = along_offers (n_iter constraints) (times temporary_constraint) after_points_lem h

        module _ {on : List ℕ} {z : Given} (g2 : Gives (n_iter constraints) s far t on z) where
          after_last : Along (journey_segment constraints) (times temporary_constraint z.value) s room p on z.next
          after_last = along_gives (n_iter constraints) (times temporary_constraint) after_points_lem g2

          pub segment_constraints : Ready (times temporary_constraint z.value) s on z.next
          segment_constraints = along_next (times temporary_constraint z.value) (λ f. f) after_last h

          pub segment_wrote : {done : List ℕ} {y : PacketSpot} → Wrote (times temporary_constraint z.value) s on z.next done y → Wrote (journey_segment constraints) s room p done y
          segment_wrote x = along_none (along_on (times temporary_constraint z.value) (λ f. f) after_last x)

-- ---- the body

abbrev counted : Format → Format
counted f = field n_iter_sp λ n. times (journey_segment constraints) n f

module _ {s room : List ℕ} {p : PacketSpot} (h : Ready journey_body_part s room p) where
  pub body_status : Offers q_jp_status s room p
  body_status = along_offers q_jp_status (λ n. counted) (along_all h) h

  module _ {mid : List ℕ} {q : Given} (a : Gives q_jp_status s room p mid q) where
    after_status : Along journey_body_part counted s room p mid q.next
    after_status = along_gives q_jp_status (λ n. counted) (along_all h) a

    pub body_count : Offers n_iter_sp s mid q.next
    body_count = along_offers n_iter_sp (times (journey_segment constraints)) after_status h

    module _ {end : List ℕ} {r : Given} (g : Gives n_iter_sp s mid q.next end r) where
      after_segments : Along journey_body_part (times (journey_segment constraints) r.value) s room p end r.next
      after_segments = along_gives n_iter_sp (times (journey_segment constraints)) after_status g

      pub body_segments : Ready (times (journey_segment constraints) r.value) s end r.next
      body_segments = along_next (times (journey_segment constraints) r.value) (λ f. f) after_segments h

      pub body_wrote : {far : List ℕ} {t : PacketSpot} → Wrote (times (journey_segment constraints) r.value) s end r.next far t → Wrote journey_body_part s room p far t
      body_wrote w = along_none (along_on (times (journey_segment constraints) r.value) (λ f. f) after_segments w)
