-- `convert_packet::tree_of` meets its contract.
use mathlib.Core.Path.{ap, ◌∙◌}
use lib.Dec.{lit≤, lit<}
use Rattle.convert_packet.proofs.ToSheet.{no_number}
use Rattle.grammar.specs.link.Link.{tree_of}
use native.Mathlib.Omega.{arith}
use Rattle.convert_packet.proofs.tree_of.Goals as goal

pub returns-then-packet-eq0 : goal.returns-then-packet-eq0
returns-then-packet-eq0 c = no_number c.args.packet.now c.if-packet-eq0.true

pub read_field-requires : goal.read_field-requires
read_field-requires c = (lit≤ tt, omega (arith, c.if-packet-eq0.false), lit< tt)

pub returns : goal.returns
returns c = c.tree_of.ensures ∙ ap tree_of c.read_field.ensures
