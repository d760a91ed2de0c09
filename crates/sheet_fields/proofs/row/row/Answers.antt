use Rattle.std.proofs.Common.{arith, rules, length, length-append}
use Rattle.std.proofs.lemmas.Slice.Zip.{zip_turn, zip_end}
use Rattle.sheet_fields.proofs.row.Rows.{row_on, row_off, row_end}
use Rattle.verdict.proofs.Exits.{exit}
use Rattle.sheet_fields.proofs.row.row.Goals as goal

pub returns-in_err-spot : goal.returns-in_err-spot
returns-in_err-spot c =
    let a = c.args in
    let t = zip_turn a.widths.now a.most.now c.loop-width.yielded c.into_iter-width-iterator.result c.loop-width.width-iterator c.next.new.self _ (search rules) (search rules) c.loop-width.yielded_by _ c.in-Some.is c.next.ensures.steps in
    rw (exit c.from_residual.ensures.1) (row_off a.widths.now a.most.now (length c.loop-width.yielded) c.loop-width.invariant t.0 c.requires.1 (rw (t.2 0, t.3 0) at c.in_err-spot.ensures))

pub loop-width-preserved : goal.loop-width-preserved
loop-width-preserved c =
    let a = c.args in
    let t = zip_turn a.widths.now a.most.now c.loop-width.yielded c.into_iter-width-iterator.result c.loop-width.width-iterator c.next.new.self _ (search rules) (search rules) c.loop-width.yielded_by _ c.in-Some.is c.next.ensures.steps in
    rw (length-append) (row_on a.widths.now a.most.now (length c.loop-width.yielded) c.loop-width.invariant t.0 c.requires.1 (rw (t.2 0, t.3 0) at c.in_ok-spot.ensures))

pub returns : goal.returns
returns c =
    let a = c.args in
    let t = zip_end a.widths.now a.most.now c.loop-width.yielded c.into_iter-width-iterator.result c.loop-width.width-iterator c.next.new.self _ (search rules) (search rules) c.loop-width.yielded_by c.in-None.is c.next.ensures.steps in
    row_end a.widths.now a.most.now (length c.loop-width.yielded) c.loop-width.invariant (omega (arith, t, c.requires.1))
