-- `text::listing` meets its contract.
use Rattle.format.specs.Format.{values_of, sheet_numbers}
use Rattle.grammar.specs.segment.Segment.{wire_changes}
use Rattle.grammar.specs.segment.Judgement.{from_packet}
use Rattle.text.specs.lines.Lines.{lines}
use Rattle.text.specs.Listing.{refused_line}
use Rattle.text.proofs.Whole.{refused_text, accepted_packet, accepted_text, listing_laid}
use Rattle.text.proofs.words.Signs.{same}
use Rattle.bits.proofs.Padding.{bytes_of}
use mir.Syntax.{w32}
use mir.Val.{SFits}
use native.Mathlib.Omega.{arith}
use borrow.Author.Rules.{rules}
use Rattle.text.proofs.listing.Goals as goal

pub returns-then-refusal-ne0 : goal.returns-then-refusal-ne0
returns-then-refusal-ne0 c =
    let ok = bytes_of c.args.packet.now (λ i. (c.type_inv.packet i).fits) in
    let a = c.altitude_of_packet-answer in
    listing_laid c.args.packet.now c.args.room.now (refused_line a.result.refusal a.result.place) ok (omega arith) c.put_refusal.ensures
    (refused_text c.args.packet.now a.result a.ensures c.if-refusal-ne0.true)

pub put_accepted-requires : goal.put_accepted-requires
put_accepted-requires c =
    let a = c.altitude_of_packet-answer in
    (accepted_packet c.args.packet.now a.result a.ensures c.if-refusal-ne0.false, omega arith)

pub returns : goal.returns
returns c =
    let ok = bytes_of c.args.packet.now (λ i. (c.type_inv.packet i).fits) in
    let a = c.altitude_of_packet-answer in
    let z = a.result.altitude in
    let fits : SFits w32 z = search rules in
    let t = lines z (sheet_numbers (values_of (from_packet wire_changes c.args.packet.now))) in
    listing_laid c.args.packet.now c.args.room.now t ok (omega arith) (rw (same z fits) at c.put_accepted.ensures)
    (accepted_text c.args.packet.now a.result a.ensures c.if-refusal-ne0.false)
