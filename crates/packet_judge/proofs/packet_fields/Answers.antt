-- `packet_judge::packet_fields` meets its contract.
use native.Mathlib.Omega.{arith}
use Rattle.packet_judge.proofs.Verdicts.{first, refused_whole, accepted_whole, left_whole}
use Rattle.packet_judge.proofs.packet_fields.Goals as goal

pub fields-requires : goal.fields-requires
fields-requires c = let a = c.args in first a.s.now a.stop c.requires.0 c.requires.1

pub returns-in-Err : goal.returns-in-Err
returns-in-Err c = let a = c.args in refused_whole a.tree a.s.now a.stop (rw c.in-Err.is at c.fields.ensures)

pub returns-then-end-stop : goal.returns-then-end-stop
returns-then-end-stop c = let a = c.args in accepted_whole a.tree a.s.now a.stop (rw c.in-Ok.is at c.fields.ensures) c.if-end-stop.true

pub overflow_cast-result : goal.overflow_cast-result
overflow_cast-result c = let o = (rw c.in-Ok.is at c.fields.ensures).stands in omega (arith, o.before, o.few)

pub returns : goal.returns
returns c = let a = c.args in left_whole a.tree a.s.now a.stop (rw c.in-Ok.is at c.fields.ensures) c.if-end-stop.false
