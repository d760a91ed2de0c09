-- `bits::write::store` meets its contract.
use Rattle.std.proofs.Common.{◌≡◌, ◌∙◌, div-one, arith}
use Rattle.bits.specs.internal.write.Filling.{bytes_in}
use Rattle.bits.proofs.Cells.{part_sets}
use Rattle.bits.proofs.write.store.Goals as goal

pub returns-then-i-s : goal.returns-then-i-s
returns-then-i-s c =
    let a = c.args in
    let bytes : c.copy_from_slice.new.self ≡ bytes_in 8 a.x = c.copy_from_slice.ensures.after ∙ rw div-one c.to_be_bytes.ensures in
    part_sets a.i _ a.s.now _ _ (omega arith) bytes c.if-i-s.true
