-- `shelf::removed` meets its contract.
use mathlib.Core.Path.{◌≡◌, ap, ◌∙◌}
use Prim.Native.Nat.{ℕ}
use native.Mathlib.Omega.{arith}
use borrow.Author.Rules.{rules}
use Rattle.std.proofs.lemmas.Result.{err_from_is_err_and}
use Rattle.std.specs.Prelude.{Option, Some, Result, Err, Ok, ok_or}
use Rattle.bits.specs.Bits.{Bytes}
use Rattle.bits.proofs.Padding.{bytes_of}
use Rattle.kinds.specs.declared.refusals.Refusal.{Refusal}
use Rattle.kinds.specs.declared.refusals.Refusal.TheVariants.{NotKept}
use Rattle.shelf.specs.declared.run.Place.{Place}
use Rattle.shelf.specs.Shelf.{book_of}
use Rattle.shelf.specs.internal.Scanning.{scanned}
use Rattle.shelf.proofs.Scanning.{same_refusal}
use Rattle.shelf.proofs.Answers.{ended, judged_inside, remove_none, remove_absent, remove_kept}
use Rattle.shelf.proofs.removed.Goals.{In_ok-place}
use Rattle.shelf.proofs.removed.Goals as goal

pub returns-in_err-old : goal.returns-in_err-old
returns-in_err-old c =
    let p = err_from_is_err_and c.from_residual.result c.from_residual.ensures.1 in
    let a = c.args in
    ap (λ (x : Result ℕ Refusal). ended x a.used a.store.now) (p.1 ∙ ap Err p.2) ∙ remove_none a.store.now a.used a.key c.in_err-old.ensures

pub returns-in_err-place : goal.returns-in_err-place
returns-in_err-place c =
    let p = err_from_is_err_and c.from_residual-in_err-place.result c.from_residual-in_err-place.ensures.1 in
    let a = c.args in
    let h = c.in_err-place.ensures in
    let e = same_refusal (h.value ∙ ap (λ (o : Option Place). ok_or o NotKept) h.ok_part) in
    ap (λ (x : Result ℕ Refusal). ended x a.used a.store.now) (p.1 ∙ ap Err (p.2 ∙ e))
    ∙ remove_absent a.store.now a.used a.key (bytes_of a.store.now (λ i. search rules)) (rw h.ok_part at c.in_ok-old.ensures)

-- the entry that was found
found : (c : In_ok-place) → Ok (Some c.in_ok-place.place) ≡ scanned c.args.key (book_of c.args.store.now c.args.used)
found c = rw (let e : c.in_ok-old.old ≡ Some c.in_ok-place.place = grind (arith, c.in_ok-place.ensures) in e) at c.in_ok-old.ensures

ok : (c : In_ok-place) → Bytes c.args.store.now
ok c = bytes_of c.args.store.now (λ i. search rules)

pub overflow_sub-rest : goal.overflow_sub-rest
overflow_sub-rest c = let d = (goal.at.overflow_sub-rest c).In_ok-place in omega (arith, judged_inside c.args.key c.args.store.now c.args.used (ok d) (found d))

pub cut-requires : goal.cut-requires
cut-requires c = let d = (goal.at.cut-requires c).In_ok-place in let i = judged_inside c.args.key c.args.store.now c.args.used (ok d) (found d) in (i.0, i.1)

pub returns : goal.returns
returns c = let d = (goal.at.returns c).In_ok-place in let a = c.args in remove_kept a.store.now a.used a.key (ok d) (found d) c.cut.ensures
