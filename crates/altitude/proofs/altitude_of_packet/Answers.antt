-- `altitude::altitude_of_packet` meets its contract.
use lib.Dec.{lit<, lit≤}
use native.Mathlib.Omega.{arith}
use Rattle.bits.proofs.Fields.{field_small}
use Rattle.altitude.proofs.Reading.{altitude_accepted, altitude_refused, altitude_done}
use Rattle.altitude.proofs.altitude_of_packet.Goals as goal

pub read_field-requires : goal.read_field-requires
read_field-requires c =
    let s = c.args.packet.now in
    let f = altitude_accepted s _ c.in-Ok.ensures in
    (lit≤ tt, omega (arith, f.inside), lit< tt)

pub signed-requires : goal.signed-requires
signed-requires c = rw c.read_field.ensures (field_small c.args.packet.now _ _ 20 (lit≤ tt))

pub returns-in-Err : goal.returns-in-Err
returns-in-Err c = rw c.from.ensures (altitude_refused c.args.packet.now _ _ c.in-Err.ensures)

pub returns-in-Ok : goal.returns-in-Ok
returns-in-Ok c =
    let s = c.args.packet.now in
    altitude_done s _ c.in-Ok.ensures _ _ c.read_field.ensures c.signed.ensures
