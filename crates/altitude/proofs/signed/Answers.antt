-- `altitude::signed` meets its contract.
use mir.Facts.{to_z-of_z}
use Rattle.altitude.proofs.Signs.{same_signed, centimetres_fit}
use Rattle.altitude.proofs.signed.Goals as goal

pub returns : goal.returns
returns c = rw (same_signed c.args.v c.requires) (to_z-of_z (centimetres_fit c.args.v c.requires))

pub overflow_sub-result : goal.overflow_sub-result
overflow_sub-result c = rw (same_signed c.args.v c.requires) (centimetres_fit c.args.v c.requires)
