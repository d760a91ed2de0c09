-- `shelf::run::entry_at` meets its contract.
use native.Mathlib.Omega.{arith}
use Rattle.shelf.proofs.Entries.{entry_accepts, entry_is}
use Rattle.shelf.proofs.run.entry_at.Goals as goal

pub overflow_add-start : goal.overflow_add-start
overflow_add-start c = omega (arith, c.requires.inside)

pub length_at-requires : goal.length_at-requires
length_at-requires c = omega (arith, c.requires.inside)

pub overflow_add-next : goal.overflow_add-next
overflow_add-next c = omega (arith, c.requires.inside, c.length_at.ensures)

pub slice_bounds-key_of-end : goal.slice_bounds-key_of-end
slice_bounds-key_of-end c = omega (arith, c.requires.inside, c.length_at.ensures)

pub key_of-requires : goal.key_of-requires
key_of-requires c = let a = c.args in entry_accepts a.run.now a.at c.requires c.length_at.ensures

pub returns : goal.returns
returns c = let a = c.args in entry_is a.run.now a.at c.requires c.length_at.ensures c.key_of.ensures
