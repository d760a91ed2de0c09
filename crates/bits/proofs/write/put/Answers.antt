-- `bits::write::put` meets its contract.
use Rattle.std.proofs.Common.{refl}
use Rattle.bits.proofs.write.Putting.{filling}
use Rattle.bits.proofs.write.put.Goals as goal

pub returns : goal.returns
returns c =
    let a = c.args in
    let p = c.requires in
    rw (c.store.ensures, c.from.ensures) (filling a.s.now a.at a.wait a.width a.v _ p.1 p.2 refl)
