-- `shelf::put` meets its contract.
use mathlib.Core.Path.{◌≡◌, ap, ◌∙◌}
use native.Mathlib.Omega.{arith}
use Rattle.bits.specs.Bits.{Bytes}
use Rattle.bits.proofs.Padding.{bytes_of}
use Rattle.shelf.specs.internal.Scanning.{size_of}
use Rattle.shelf.proofs.Changing.{start_of}
use Rattle.shelf.proofs.Answers.{Within, placed_inside, add_short, cut_some, cut_none, add_insertable, add_kept}
use Rattle.shelf.proofs.put.Goals.{After-size_of-size, in-Some, in-None}
use Rattle.shelf.proofs.put.Goals as goal

ok : (c : After-size_of-size) → Bytes c.args.store.now
ok c = bytes_of c.args.store.now (λ i. (c.type_inv.store i).fits)

-- how many bytes the old entry has
size : (c : After-size_of-size) → c.size_of-size.result ≡ size_of c.args.old
size c = c.size_of-size.ensures

inside : (c : After-size_of-size) → Within c.args.store.now c.args.used (start_of c.args.old) (size_of c.args.old)
inside c = placed_inside c.args.store.now c.args.used c.args.sheet.now (ok c) c.requires

pub overflow_sub-rest : goal.overflow_sub-rest
overflow_sub-rest c = omega (arith, size (goal.at.overflow_sub-rest c).After-size_of-size, inside (goal.at.overflow_sub-rest c).After-size_of-size)

pub returns-then-room-sheet : goal.returns-then-room-sheet
returns-then-room-sheet c =
    let d = (goal.at.returns-then-room-sheet c).After-size_of-size in
    let a = c.args in
    add_short a.store.now a.used a.sheet.now (ok d) c.requires (omega (arith, size d, inside d))

pub cut-requires : goal.cut-requires
cut-requires c =
    let d = (goal.at.cut-requires c).After-size_of-size in
    let e = c.in-Some.is in
    (omega (arith, inside d, ap start_of e, ap size_of e), omega (arith, inside d))

pub insert-requires : goal.insert-requires
insert-requires c =
    let d = (goal.at.insert-requires c).After-size_of-size in
    let a = c.args in
    let fine = bytes_of a.sheet.now (λ j. (c.type_inv.sheet j).fits) in
    rw (size d)
    (add_insertable a.store.now a.used a.sheet.now (ok d) c.requires (omega (arith, size d, inside d)) fine
    (elim c.match-old.branch [
      | in-Some w ↦ cut_some a.store.now a.used a.sheet.now (ok d) c.requires (omega (arith, size d, inside d)) w.in-Some.is (w.store-is ∙ w.cut.ensures)
      | in-None w ↦ cut_none a.store.now a.used a.sheet.now (ok d) c.requires (omega (arith, size d, inside d)) w.in-None.is w.store-is
    ]))

pub returns : goal.returns
returns c =
    let d = (goal.at.returns c).After-size_of-size in
    let a = c.args in
    rw (size d)
    (add_kept a.store.now a.used a.sheet.now (ok d) c.requires (omega (arith, size d, inside d))
    (elim c.match-old.branch [
      | in-Some w ↦ cut_some a.store.now a.used a.sheet.now (ok d) c.requires (omega (arith, size d, inside d)) w.in-Some.is (w.store-is ∙ w.cut.ensures)
      | in-None w ↦ cut_none a.store.now a.used a.sheet.now (ok d) c.requires (omega (arith, size d, inside d)) w.in-None.is w.store-is
    ])
    (rw (size d) at c.insert.ensures))
