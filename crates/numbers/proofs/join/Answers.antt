-- `numbers::join` meets its contract.
use Rattle.numbers.proofs.Reading.{joins_some}
use Rattle.numbers.proofs.join.Goals as goal

pub returns-then-value-lt33554432 : goal.returns-then-value-lt33554432
returns-then-value-lt33554432 c =
    let a = c.args in
    joins_some a.b a.rest c.requires.0 c.requires.1 c.if-value-eq0.false c.if-value-lt33554432.true
