use Rattle.steps.proofs.Starts.{rising_first, rising_next, rising_not, rising_last}
use Rattle.steps.proofs.rising.Goals as goal

pub loop-next-init : goal.loop-next-init
loop-next-init c = rising_first c.args.lsp c.args.starts.now c.requires

pub returns-then-next-last : goal.returns-then-next-last
returns-then-next-last c = rising_not c.args.lsp c.args.starts.now _ _ _ c.loop-next.invariant c.loop-next-test.true c.if-next-last.true

pub loop-next-preserved : goal.loop-next-preserved
loop-next-preserved c = rising_next c.args.lsp c.args.starts.now _ _ _ c.loop-next.invariant c.loop-next-test.true c.if-next-last.false

pub returns : goal.returns
returns c = rising_last c.args.lsp c.args.starts.now _ _ _ c.loop-next.invariant c.loop-next-test.false
