-- `shelf::insert` meets its contract.
use mathlib.Core.Path.{◌≡◌, sym, ap, ◌∙◌}
use Prim.Native.Nat.{◌+◌, ◌-◌, ◌≤◌}
use native.Mathlib.Omega.{arith}
use lib.ListN.{length, take}
use lib.Seq.{length-take-le}
use Rattle.shelf.specs.Book.{key_number}
use Rattle.shelf.specs.internal.Scanning.{kept_in, gap_in}
use Rattle.shelf.specs.internal.Changing.{entry_put}
use Rattle.shelf.proofs.moves.Moving.{copied}
use Rattle.shelf.proofs.Changing.{gap_inside, put_moved}
use Rattle.shelf.proofs.insert.Goals.{After-gap-at}
use Rattle.shelf.proofs.insert.Goals as goal

pub slice_bounds-gap-end-2 : goal.slice_bounds-gap-end-2
slice_bounds-gap-end-2 c = let a = c.args in sym (length-take-le a.rest a.store.now (omega (arith, c.requires.room)))

-- where the new entry goes
gap_at : (c : After-gap-at) → c.gap-at.result ≡ gap_in (key_number c.args.key) (kept_in (take c.args.rest c.args.store.now))
gap_at c = let a = c.args in c.gap-at.ensures ∙ ap (λ n. gap_in n (kept_in (take a.rest a.store.now))) c.number_of.ensures

inside : (c : After-gap-at) → (c.gap-at.result ≤ c.args.rest) × (c.args.rest + (4 + length c.args.sheet.now) ≤ length c.args.store.now)
inside c =
    let a = c.args in
    (omega (arith, gap_at c, gap_inside a.store.now a.rest a.key a.sheet.now c.requires), c.requires.room)

pub gap-at-requires : goal.gap-at-requires
gap-at-requires c = c.requires.run

pub overflow_add-at : goal.overflow_add-at
overflow_add-at c = omega (arith, inside (goal.at.overflow_add-at c).After-gap-at)

pub copy_within-requires-clause-start_le_end : goal.copy_within-requires-clause-start_le_end
copy_within-requires-clause-start_le_end c = (inside (goal.at.copy_within-requires-clause-start_le_end c).After-gap-at).0

pub copy_within-requires-clause-dest_in_bounds : goal.copy_within-requires-clause-dest_in_bounds
copy_within-requires-clause-dest_in_bounds c = omega (arith, inside (goal.at.copy_within-requires-clause-dest_in_bounds c).After-gap-at)

pub put_entry-requires : goal.put_entry-requires
put_entry-requires c =
    let i = inside (goal.at.put_entry-requires c).After-gap-at in
    (omega (arith, i, c.copy_within.ensures.len), omega (arith, c.requires.small, c.copy_within.ensures.len))

pub returns : goal.returns
returns c =
    let a = c.args in
    let at = c.gap-at.result in
    c.put_entry.ensures ∙ ap (entry_put at a.sheet.now) (c.copy_within.ensures.after ∙ copied a.store.now (at + (4 + length a.sheet.now)) at (a.rest - at) (a.rest - at) (omega arith))
    ∙ put_moved a.store.now a.rest a.key a.sheet.now c.requires (gap_at (goal.at.returns c).After-gap-at)
