use mathlib.Core.Path.{sym, ap, ◌∙◌}
use native.Mathlib.Omega.{arith}
use Rattle.std.proofs.lemmas.Result.{err_from_is_err_and}
use Rattle.std.specs.Prelude.{Err}
use Rattle.bits.proofs.Padding.{bytes_of}
use Rattle.shelf.proofs.Scanning.{passing_start, passing_over, passing_refused}
use Rattle.shelf.proofs.Turns.{Turn, turn_runs, turn_accepts, turn_range, turn_repeated, turn_mine, turn_other}
use Rattle.shelf.proofs.run.judge.Goals.{In_ok-next}
use Rattle.shelf.proofs.run.judge.Goals as goal

pub loop-at-init : goal.loop-at-init
loop-at-init c = let a = c.args in passing_start a.run.now a.key

pub returns-in_err-next : goal.returns-in_err-next
returns-in_err-next c =
    let p = err_from_is_err_and c.from_residual.result c.from_residual.ensures.1 in
    let a = c.args in
    p.1 ∙ ap Err p.2 ∙ passing_refused a.run.now a.key c.loop-at.invariant c.loop-at-test.true c.in_err-next.ensures

-- the turn, once an entry was judged
turn : (c : In_ok-next) → Turn c.args.run.now c.args.key c.loop-at.at c.loop-at.above c.loop-at.place c.in_ok-next.next
turn c =
    record {
      ok = bytes_of c.args.run.now (λ i. (c.type_inv.run i).fits);
      short = c.requires;
      passing = c.loop-at.invariant;
      more = c.loop-at-test.true;
      is = c.in_ok-next.ensures;
    }

pub key_of-its-requires : goal.key_of-its-requires
key_of-its-requires c = turn_accepts (turn (goal.at.key_of-its-requires c).In_ok-next)

pub above_with-requires : goal.above_with-requires
above_with-requires c = let t = turn (goal.at.above_with-requires c).In_ok-next in (turn_runs t, turn_range t c.key_of-its.ensures)

pub returns-in_err-above : goal.returns-in_err-above
returns-in_err-above c =
    let p = err_from_is_err_and c.from_residual-in_err-above.result c.from_residual-in_err-above.ensures.1 in
    p.1 ∙ ap Err p.2 ∙ turn_repeated (turn (goal.at.returns-in_err-above c).In_ok-next) c.key_of-its.ensures c.in_err-above.ensures

pub loop-at-preserved-then-eq : goal.loop-at-preserved-then-eq
loop-at-preserved-then-eq c = turn_mine (turn (goal.at.loop-at-preserved-then-eq c).In_ok-next) c.key_of-its.ensures c.in_ok-above.ensures (sym c.if-eq.ensures)

pub loop-at-preserved : goal.loop-at-preserved
loop-at-preserved c = turn_other (turn (goal.at.loop-at-preserved c).In_ok-next) c.key_of-its.ensures c.in_ok-above.ensures (sym c.if-eq.ensures)

pub returns : goal.returns
returns c = let a = c.args in passing_over a.run.now a.key c.loop-at.invariant (omega (arith, c.loop-at-test.false))
