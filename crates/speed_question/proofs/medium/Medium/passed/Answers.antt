-- `speed_question::medium::Medium::passed` meets its contract.
use native.Mathlib.Omega.{arith}
use Rattle.bits.proofs.Padding.{bytes_of}
use Rattle.speed_element.proofs.Passing.{left_behind}
use Rattle.speed_question.specs.internal.Run.{brought_as, numbers_as}
use Rattle.speed_question.proofs.Values.{starts_in}
use Rattle.speed_question.proofs.medium.Medium.passed.Goals as goal

-- the train has left the segment
pub returns-then-head-train : goal.returns-then-head-train
returns-then-head-train c =
    let s = c.args.segment.now in
    let b = brought_as c.args.self in
    let ok = bytes_of s (λ i. (c.type_inv.segment i).fits) in
    left_behind c.args.train (numbers_as b s) {y = c.args.y} (starts_in b s ok c.requires.0) (omega (arith, c.requires.1.length_is, c.if-head-train.true))
