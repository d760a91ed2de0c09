-- `packet_journey::constraint::constraints` meets its contract.
use Rattle.std.proofs.Common.{rules}
use Rattle.grammar.specs.journey.Journey.{temporary_constraint}
use Rattle.packet_journey.proofs.constraint.constraints.Goals as goal

pub times-requires : goal.times-requires
times-requires c =
    (record { s = c.args.s.now; stop = c.args.stop; part = temporary_constraint }, record { stands = c.requires; called = λ x h. search rules; judges = λ x y h p. search rules })

pub returns : goal.returns
returns c =
    c.times.ensures (record { s = c.args.s.now; stop = c.args.stop; part = temporary_constraint }) (record { stands = c.requires; called = λ x h. search rules; judges = λ x y h p. search rules })
