-- `shelf::part` meets its contract.
use native.Mathlib.Nat.{add-sub_cancel_left}
use Rattle.shelf.proofs.part.Goals as goal

pub returns : goal.returns
returns c = simp add-sub_cancel_left
