-- `restricted::tail_before` meets its contract.
use mathlib.Core.Path.{sym, ap}
use mathlib.Core.Bool.{Bool, ◌&&◌}
use Prim.Native.Nat.{◌+◌}
use native.Mathlib.Omega.{arith}
use borrow.Author.Tests.{lt-ltb, le-ltb}
use lib.Dec.{ltb}
use Rattle.restricted.proofs.tail_before.Goals as goal

pub returns-then-before-eq0 : goal.returns-then-before-eq0
returns-then-before-eq0 c =
    let a = c.args in
    sym (ap (λ (b : Bool). b && ltb (a.start + a.x) a.train.length) (le-ltb 0 a.before (omega (arith, c.if-before-eq0.true))))

pub returns : goal.returns
returns c =
    let a = c.args in
    sym (ap (λ (b : Bool). b && ltb (a.start + a.x) a.train.length) (lt-ltb 0 a.before (omega (arith, c.if-before-eq0.false))))
