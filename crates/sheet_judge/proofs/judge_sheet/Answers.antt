-- `sheet_judge::judge_sheet` meets its contract.
use Rattle.std.proofs.Common.{arith}
use Rattle.bits.proofs.Padding.{bytes_of}
use Rattle.sheet_judge.proofs.Whole.{refused_whole, accepted_whole, left_whole, place_few}
use Rattle.sheet_judge.proofs.judge_sheet.Goals as goal

pub tree_numbers-requires : goal.tree_numbers-requires
tree_numbers-requires c = record { bytes = bytes_of c.args.s.now (λ i. (c.type_inv.s i).fits); inside = omega arith }

pub overflow_cast-result : goal.overflow_cast-result
overflow_cast-result c =
    let a = c.args in
    let ok = bytes_of a.s.now (λ i. (c.type_inv.s i).fits) in
    omega (arith, place_few a.tree a.s.now ok (refused_whole a.tree a.s.now ok c.in-Err.ensures))

pub overflow_cast-result-in-Ok-2 : goal.overflow_cast-result-in-Ok-2
overflow_cast-result-in-Ok-2 c =
    let a = c.args in
    let ok = bytes_of a.s.now (λ i. (c.type_inv.s i).fits) in
    omega (arith, place_few a.tree a.s.now ok (left_whole a.tree a.s.now ok c.in-Ok.ensures c.if-end-s.false))

pub returns-in-Err : goal.returns-in-Err
returns-in-Err c =
    let a = c.args in
    let ok = bytes_of a.s.now (λ i. (c.type_inv.s i).fits) in
    refused_whole a.tree a.s.now ok c.in-Err.ensures

pub returns-in-Ok : goal.returns-in-Ok
returns-in-Ok c =
    let a = c.args in
    let ok = bytes_of a.s.now (λ i. (c.type_inv.s i).fits) in
    accepted_whole a.tree a.s.now ok c.in-Ok.ensures c.if-end-s.true

pub returns-in-Ok-2 : goal.returns-in-Ok-2
returns-in-Ok-2 c =
    let a = c.args in
    let ok = bytes_of a.s.now (λ i. (c.type_inv.s i).fits) in
    left_whole a.tree a.s.now ok c.in-Ok.ensures c.if-end-s.false
