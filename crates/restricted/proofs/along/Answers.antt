-- `restricted::along` meets its contract.
use mathlib.Core.Path.{refl}
use Rattle.std.proofs.lemmas.Result.{err_from_is_err_and}
use Rattle.speed_question.specs.internal.Asked.{kind_of, lent_of}
use Rattle.speed_question.proofs.Runs.{lent_count, some_lent}
use Rattle.restricted.proofs.Answers.{numbered_lem, along_refused, along_permitted, along_inside, along_tail, along_lowest}
use Rattle.restricted.proofs.along.Goals as goal

pub returns-in-Err : goal.returns-in-Err
returns-in-Err c =
    let r = c.args.run.now in
    rw (← lent_count r.segments.now)
    (along_refused (kind_of r) (lent_of r) c.args.journey.now c.args.before c.args.train c.args.x (some_lent r) c.last_segment-last.ensures.start_is c.in-Err.ensures (numbered_lem _))

pub returns-in_err-permitted : goal.returns-in_err-permitted
returns-in_err-permitted c =
    let r = c.args.run.now in
    let p = err_from_is_err_and c.from_residual.result c.from_residual.ensures.1 in
    rw (p.1, p.2, ← lent_count r.segments.now)
    (along_permitted (kind_of r) (lent_of r) c.args.journey.now c.args.before c.args.train c.args.x (some_lent r) c.last_segment-last.ensures.start_is c.in_default.ensures refl
    c.in_err-permitted.ensures (numbered_lem _))

pub returns-then-tail_before : goal.returns-then-tail_before
returns-then-tail_before c =
    let r = c.args.run.now in
    rw (← lent_count r.segments.now)
    (along_tail (kind_of r) (lent_of r) c.args.journey.now c.args.before c.args.train c.args.x (some_lent r) c.last_segment-last.ensures.start_is c.in_default.ensures refl
    c.in_ok-permitted.ensures refl c.tail_before.ensures c.if-tail_before.true)

pub lowest-requires : goal.lowest-requires
lowest-requires c =
    let r = c.args.run.now in
    let l = c.last_segment-last.ensures in (
      l,
      along_inside (kind_of r) (lent_of r) c.args.journey.now c.args.before c.args.train c.args.x (some_lent r) l.start_is c.in_default.ensures refl c.in_ok-permitted.ensures refl l.head.length_is,
      c.requires,
    )

pub returns : goal.returns
returns c =
    let r = c.args.run.now in
    rw (← lent_count r.segments.now)
    (along_lowest (kind_of r) (lent_of r) c.args.journey.now c.args.before c.args.train c.args.x (some_lent r) c.last_segment-last.ensures.start_is c.in_default.ensures refl
    c.in_ok-permitted.ensures refl c.tail_before.ensures c.if-tail_before.false c.lowest.ensures)
