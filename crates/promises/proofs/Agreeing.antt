-- Two sheets agree in every field after lowering exactly when they make one packet; lowering changes no values of a packet.
use mathlib.Core.Path.{◌≡◌, refl, sym, ap, ap₂, ◌∙◌}
use mathlib.Core.List.{List, ◌∷◌}
use Prim.Native.Nat.{ℕ}
use borrow.Author.Tests.{eqb-true, eqb-false}
use lib.Dec.{eqb}
use Rattle.bits.proofs.Tests.{by_cases}
use Rattle.kinds.specs.declared.Item.{Item}
use Rattle.kinds.specs.Kind.{Kind}
use Rattle.kinds.specs.Kinds.{speed, m_current}
use Rattle.format.specs.Format.{Format, accepted, sheet_numbers}
use Rattle.format.specs.Conforming.{Conforming, done, also, InPacket, InSheet, given_back}
use Rattle.format.proofs.Lawful.{Lawful, goes}
use Rattle.grammar.specs.link.Link.{link_fields, from_either_packet, from_either_sheet, to_either_packet, to_either_sheet}
use Rattle.grammar.specs.link.Grounds.{EitherSheetValues}
use Rattle.grammar.proofs.link.Trees.{link_lawful}
use Rattle.grammar.proofs.link.Values.{either_packet_taken, either_sheet_taken}
use Rattle.speed.specs.Faster.{over, one}
use Rattle.promises.specs.Promised.{spelled, LoweredTo, Lowering, Agreeing}
use Rattle.promises.proofs.Values.{either_lowered, either_lowered_good, either_good_sheet, numbers_spelled, lowered_to, lowering}

-- a number is lowered to only one number
lowered_once : (k : Kind) (a b c : ℕ) → LoweredTo k a b → LoweredTo k a c → b ≡ c
lowered_once k a b c p q =
    by_cases (eqb b c) (eqb-true b c) λ d.
    let n : b ≡ c → ⊥ = eqb-false b c d in
    let speeds : k ≡ speed → ⊥ = λ e. n (p.speeds e ∙ sym (q.speeds e)) in
    let currents : k ≡ m_current → ⊥ = λ e. n (p.currents e ∙ sym (q.currents e)) in
    absurd (n (p.others speeds currents ∙ sym (q.others speeds currents)))

lowering_once : {f : Format} {l m : List Item} → Lawful f → Conforming InSheet f l → Lowering f l m → sheet_numbers m ≡ sheet_numbers (given_back f l)
lowering_once w done over = refl
lowering_once (goes {k = k} lawful rest) (also {i = i} g c) (one {j = j} p q) =
    ap₂ (λ (a : ℕ) (l : List ℕ). a ∷ l)
    (lowered_once k i.sheet j.sheet (k.raise i.packet) p (lowered_to k lawful i.sheet i.packet g.lowered))
    (lowering_once (rest i.packet (lawful.into i.sheet i.packet g.lowered)) c q)

module _ {l m : List Item} (cl : EitherSheetValues l) (cm : EitherSheetValues m) where
  accepted_same : {a b : List Item} → accepted a ≡ accepted b → a ≡ b
  accepted_same e = cc

  abbrev x : List Item
  x = given_back link_fields l

  abbrev y : List Item
  y = given_back link_fields m

  -- sheets of one packet are lowered to the same numbers
  pub packets_agree : to_either_packet l ≡ to_either_packet m → Agreeing l m
  packets_agree e =
      let p : to_either_packet x ≡ to_either_packet y = either_lowered l ∙ e ∙ sym (either_lowered m) in
      let q : x ≡ y = accepted_same (sym (either_packet_taken x (either_lowered_good cl)) ∙ ap from_either_packet p ∙ either_packet_taken y (either_lowered_good cm)) in
      record { lower = x; first = lowering link_lawful cl.good; second = rw q (lowering link_lawful cm.good) }

  -- sheets that are lowered to the same numbers have one packet
  pub agreeing_packets : Agreeing l m → to_either_packet l ≡ to_either_packet m
  unfolding to_either_sheet
  agreeing_packets a =
      let gl = either_lowered_good cl in
      let gm = either_lowered_good cm in
      let numbers : sheet_numbers x ≡ sheet_numbers y = sym (lowering_once link_lawful cl.good a.first) ∙ lowering_once link_lawful cm.good a.second in
      let p : to_either_sheet x ≡ to_either_sheet y = numbers_spelled gl.good ∙ ap spelled numbers ∙ sym (numbers_spelled gm.good) in
      let q : x ≡ y = accepted_same (sym (either_sheet_taken x (either_good_sheet gl)) ∙ ap from_either_sheet p ∙ either_sheet_taken y (either_good_sheet gm)) in
      sym (either_lowered l) ∙ ap to_either_packet q ∙ either_lowered m

-- lowering changes no values of a packet
pub lowered_same : {f : Format} {l : List Item} → Conforming InPacket f l → given_back f l ≡ l
lowered_same done = refl
lowered_same (also {k = k} {i = i} {l = l} g c) = λ j. record { sheet = sym g.raised j; packet = i.packet } ∷ lowered_same c j
