-- `shelf::lookup` meets its contract.
use Rattle.bits.proofs.Padding.{bytes_of}
use Rattle.shelf.specs.Shelf.{seen}
use Rattle.shelf.proofs.Answers.{none_looked, standard_inside, yard_inside, standard_looked, yard_looked}
use Rattle.shelf.proofs.lookup.Goals as goal

pub returns-in-Err : goal.returns-in-Err
returns-in-Err c = let a = c.args in none_looked (seen a.yard) a.yard_used (seen a.standard) a.standard_used (bytes_of a.yard.now (λ i. (c.type_inv.yard i).fits)) (bytes_of a.standard.now (λ i. (c.type_inv.standard i).fits)) a.key c.in-Err.ensures c.from.ensures c.part.ensures

pub part-requires-then-found : goal.part-requires-then-found
part-requires-then-found c = let a = c.args in standard_inside (seen a.yard) a.yard_used (seen a.standard) a.standard_used (bytes_of a.yard.now (λ i. (c.type_inv.yard i).fits)) (bytes_of a.standard.now (λ i. (c.type_inv.standard i).fits)) a.key c.in-Ok.ensures c.if-found.true

pub returns-then-found : goal.returns-then-found
returns-then-found c = let a = c.args in standard_looked (seen a.yard) a.yard_used (seen a.standard) a.standard_used (bytes_of a.yard.now (λ i. (c.type_inv.yard i).fits)) (bytes_of a.standard.now (λ i. (c.type_inv.standard i).fits)) a.key c.in-Ok.ensures c.if-found.true c.part-then-found.ensures

pub part-requires-in-Ok : goal.part-requires-in-Ok
part-requires-in-Ok c = let a = c.args in yard_inside (seen a.yard) a.yard_used (seen a.standard) a.standard_used (bytes_of a.yard.now (λ i. (c.type_inv.yard i).fits)) (bytes_of a.standard.now (λ i. (c.type_inv.standard i).fits)) a.key c.in-Ok.ensures c.if-found.false

pub returns-else-found : goal.returns-else-found
returns-else-found c = let a = c.args in yard_looked (seen a.yard) a.yard_used (seen a.standard) a.standard_used (bytes_of a.yard.now (λ i. (c.type_inv.yard i).fits)) (bytes_of a.standard.now (λ i. (c.type_inv.standard i).fits)) a.key c.in-Ok.ensures c.if-found.false c.part-in-Ok.ensures
