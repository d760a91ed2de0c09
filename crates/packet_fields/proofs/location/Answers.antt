-- `packet_fields::location` meets its contract.
use native.Mathlib.Omega.{arith}
use mathlib.Core.Path.{refl}
use lib.Dec.{lit≤}
use Rattle.kinds.specs.Kinds.{d_location}
use Rattle.packet_fields.proofs.Steps.{took_none, took_some}
use Rattle.packet_fields.proofs.location.Goals as goal

pub returns-then-bytes-eq0 : goal.returns-then-bytes-eq0
returns-then-bytes-eq0 c =
    let a = c.args in
    took_none a.s.now a.stop (d_location a.last a.lsp) 24 refl c.requires (lit≤ tt) (omega arith) c.read_window-v.ensures c.location-bytes.ensures c.if-bytes-eq0.true

pub returns : goal.returns
returns c =
    let a = c.args in
    took_some a.s.now a.stop (d_location a.last a.lsp) 24 refl c.requires (lit≤ tt) (omega arith) c.read_window-v.ensures c.location-bytes.ensures c.if-bytes-eq0.false
