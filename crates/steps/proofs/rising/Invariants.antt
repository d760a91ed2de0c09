-- `steps::rising` meets its contract.
use Rattle.steps.proofs.Starts.{Rising}
use Rattle.steps.proofs.rising.Given as goal

abbrev pub invariant-loop-next : goal.invariant-loop-next
invariant-loop-next l = Rising l.lsp l.starts l.next-items l.next-index l.last
