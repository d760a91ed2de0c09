-- `packet_fields::current` meets its contract.
use native.Mathlib.Omega.{arith}
use mathlib.Core.Path.{refl}
use lib.Dec.{lit≤}
use Rattle.kinds.specs.Kinds.{m_current}
use Rattle.packet_fields.proofs.Steps.{took_none, took_some, past, past_off}
use Rattle.packet_fields.proofs.current.Goals as goal

pub returns-then-bytes-eq0 : goal.returns-then-bytes-eq0
returns-then-bytes-eq0 c =
    let a = c.args in
    past_off a.s.now a.stop (took_none a.s.now a.stop m_current 10 refl c.requires (lit≤ tt) (omega arith) c.read_window.ensures c.current-bytes.ensures c.if-bytes-eq0.true)

pub returns : goal.returns
returns c =
    let a = c.args in
    past a.s.now a.stop (took_some a.s.now a.stop m_current 10 refl c.requires (lit≤ tt) (omega arith) c.read_window.ensures c.current-bytes.ensures c.if-bytes-eq0.false)
