-- `packet_fields::count` meets its contract.
use native.Mathlib.Omega.{arith}
use mathlib.Core.Path.{refl}
use lib.Dec.{lit≤}
use Rattle.kinds.specs.Kinds.{n_iter}
use Rattle.packet_fields.proofs.Steps.{took_none, took_some}
use Rattle.packet_fields.proofs.count.Goals as goal

pub returns-then-bytes-eq0 : goal.returns-then-bytes-eq0
returns-then-bytes-eq0 c =
    let a = c.args in
    took_none a.s.now a.stop (n_iter a.limit) 5 refl c.requires.0 (lit≤ tt) (omega arith) c.read_window-v.ensures (c.one-bytes.ensures 5 4) c.if-bytes-eq0.true

pub returns : goal.returns
returns c =
    let a = c.args in
    took_some a.s.now a.stop (n_iter a.limit) 5 refl c.requires.0 (lit≤ tt) (omega arith) c.read_window-v.ensures (c.one-bytes.ensures 5 4) c.if-bytes-eq0.false
