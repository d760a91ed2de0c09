-- A timing point, step by step: what may be written next, and that it is written once all steps are taken.
use mathlib.Core.List.{List}
use Prim.Native.Nat.{ℕ}
use Rattle.format.specs.Format.{Format, field}
use Rattle.grammar.specs.internal.rows.Rows.{row}
use Rattle.kinds.specs.journey.Kinds.{q_stop_skip_passes}
use Rattle.grammar.specs.journey.Journey.{timing_point}
use Rattle.grammar.specs.internal.journey.Parts.{arrival_widths, arrival_most, stopping_widths, stopping_most}
use Rattle.grammar.proofs.journey.Parts.{point_rows_lem}
use Rattle.packet_write_segment.specs.declared.elements.PacketSpot.{PacketSpot}
use Rattle.packet_write_segment.specs.internal.elements.Writing.{Ready, Wrote}
use Rattle.packet_write_segment.proofs.elements.Writing.{Along, along_all, along_as, along_next, along_on, along_none}
use Rattle.packet_write_segment.specs.declared.row.Given.{Given}
use Rattle.packet_write_segment.specs.internal.row.Alone.{Offers, Gives}
use Rattle.packet_write_segment.proofs.row.Alone.{along_offers, along_gives}

abbrev arrival : Format → Format
arrival f = row arrival_widths arrival_most f

abbrev stopping : ℕ → Format → Format
stopping stop_skip_passes f = row stopping_widths (stopping_most stop_skip_passes) f

abbrev after_arrival : Format → Format
after_arrival f = field q_stop_skip_passes λ n. stopping n f

module _ {s room : List ℕ} {p : PacketSpot} (h : Ready timing_point s room p) where
  point_all : Along timing_point (λ f. arrival (after_arrival f)) s room p room p
  point_all = along_as (λ f. arrival (after_arrival f)) point_rows_lem (along_all h)

  pub point_arrival : Ready arrival s room p
  point_arrival = along_next arrival after_arrival point_all h

  module _ {mid : List ℕ} {q : PacketSpot} (a : Wrote arrival s room p mid q) where
    pub point_stop_skip_passes : Offers q_stop_skip_passes s mid q
    point_stop_skip_passes = along_offers q_stop_skip_passes stopping (along_on arrival after_arrival point_all a) h

    module _ {end : List ℕ} {r : Given} (g : Gives q_stop_skip_passes s mid q end r) where
      after_stop_skip_passes : Along timing_point (stopping r.value) s room p end r.next
      after_stop_skip_passes = along_gives q_stop_skip_passes stopping (along_on arrival after_arrival point_all a) g

      pub point_stopping : Ready (stopping r.value) s end r.next
      point_stopping = along_next (stopping r.value) (λ f. f) after_stop_skip_passes h

      pub point_wrote : {last : List ℕ} {t : PacketSpot} → Wrote (stopping r.value) s end r.next last t → Wrote timing_point s room p last t
      point_wrote w = along_none (along_on (stopping r.value) (λ f. f) after_stop_skip_passes w)
