-- `packet_segment::element::cut_entries` meets its contract.
use Rattle.std.proofs.Common.{rules}
use Rattle.grammar.specs.internal.segment.Parts.{entry}
use Rattle.packet_segment.proofs.element.Windows.{entries_over}
use Rattle.packet_segment.proofs.element.cut_entries.Goals as goal

pub times-requires : goal.times-requires
times-requires c =
    (record { s = c.args.s.now; stop = c.args.stop; part = entry }, record { stands = c.requires; called = λ x h. search rules; judges = λ x y h p. search rules })

pub returns : goal.returns
returns c =
    entries_over c.args.count (c.times.ensures (record { s = c.args.s.now; stop = c.args.stop; part = entry }) (record { stands = c.requires; called = λ x h. search rules; judges = λ x y h p. search rules }))
