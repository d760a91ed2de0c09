-- "stored packets and sheets read as before": each operation answers an input that was accepted at a lower limit of wire changes as it did at that limit.
use mathlib.Core.Path.{◌≡◌, refl, sym, ap, ◌∙◌}
use mathlib.Core.Bool.{true}
use mathlib.Core.List.{List}
use Prim.Native.Nat.{ℕ, ◌≤◌}
use Rattle.bits.specs.Bits.{Bytes}
use Rattle.kinds.specs.declared.Item.{Item}
use Rattle.format.specs.Format.{Read}
use Rattle.grammar.specs.segment.Segment.{wire_changes}
use Rattle.grammar.specs.segment.Judgement.{from_packet, from_sheet, to_packet, to_sheet}
use Rattle.grammar.proofs.segment.Higher.{higher_packet, higher_sheet, same_packet_lem, same_sheet_lem}
use Rattle.grammar.specs.link.Link.{from_either_sheet, to_either_packet, to_either_sheet}
use Rattle.grammar.proofs.link.Values.{either_sheet_taken}
use Rattle.grammar.proofs.link.Segments.{segment_accepted, on_link}
use Rattle.speed.specs.declared.Train.{Train}
use Rattle.speed.specs.Run.{Each}
use Rattle.speed_question.specs.Question.{Brought, medium_of, no_speed, read_as, lent, run_count, accepted, judged_run, answer_of_run, speed_of_run, permitted_speed}
use Rattle.speed_question.proofs.Values.{packet_values_lem, sheet_values}
use Rattle.altitude.specs.Altitude.{altitude_of_read, altitude_of}
use Rattle.convert.specs.Convert.{converted, fitted, packet_to_sheet, sheet_to_packet}
use Rattle.promises.specs.Promised.{read_at}
use Rattle.promises.proofs.Ranges.{good_sheet}
use Rattle.promises.proofs.Runs.{run_higher}
use Rattle.promises.proofs.Speeds.{permitted_speed_judged}

module _ {limit : ℕ} (h : limit ≤ wire_changes) (s : List ℕ) (ok : Bytes s) (l : List Item) where
  -- a stored packet has the sheet that it had at the lower limit
  pub stored_packet : (room : List ℕ) → from_packet limit s ≡ Read.accepted l → packet_to_sheet s room ≡ fitted (to_sheet limit l) room
  unfolding packet_to_sheet
  stored_packet room e =
      let now : from_packet wire_changes s ≡ Read.accepted l = higher_packet h s l e in
      ap (λ (r : Read). converted to_either_sheet r room) (segment_accepted s l now)
      ∙ ap (λ (b : List ℕ). fitted b room) ((on_link (good_sheet (packet_values_lem s l ok now).0)).same_sheet ∙ sym (same_sheet_lem h l))

  -- a stored sheet has the packet that it had at the lower limit
  pub stored_sheet : (room : List ℕ) → from_sheet limit s ≡ Read.accepted l → sheet_to_packet s room ≡ fitted (to_packet limit l) room
  unfolding sheet_to_packet
  stored_sheet room e =
      let v = sheet_values s l ok (higher_sheet h s l ok e) in
      let o = on_link v.0 in
      let now : from_either_sheet s ≡ Read.accepted l = ap from_either_sheet (v.1 ∙ sym o.same_sheet) ∙ either_sheet_taken l o.values in
      ap (λ (r : Read). converted to_either_packet r room) now ∙ ap (λ (b : List ℕ). fitted b room) (o.same_packet ∙ sym (same_packet_lem h l))

  -- a stored packet has the altitude that it had at the lower limit
  pub stored_altitude : from_packet limit s ≡ Read.accepted l → altitude_of s ≡ altitude_of_read (Read.accepted l)
  unfolding altitude_of
  stored_altitude e = ap altitude_of_read (higher_packet h s l e)

-- a run of stored packets or sheets gives each speed that it gave at the lower limit
pub stored_speed : {limit : ℕ} → limit ≤ wire_changes → (b : Brought) (count : ℕ) (first second third fourth : List ℕ) → Each Bytes (lent count first second third fourth)
    → (v : List (List Item)) (t : Train) (x : ℕ) → run_count count ≡ true → judged_run (read_at b limit) (lent count first second third fourth) ≡ accepted v
    → permitted_speed (medium_of b) count first second third fourth t x ≡ speed_of_run t x v
stored_speed {limit} h b count first second third fourth ok v t x few e =
    permitted_speed_judged (medium_of b) count first second third fourth t x b refl few
    ∙ ap (answer_of_run no_speed (speed_of_run t x)) (run_higher (now b) (lent count first second third fourth) v ok e)
  where
    now : (b : Brought) (s : List ℕ) (l : List Item) → Bytes s → read_at b limit s ≡ Read.accepted l → read_as b s ≡ Read.accepted l
    now Brought.packet s l o d = higher_packet h s l d
    now Brought.sheet s l o d = higher_sheet h s l o d
