-- `speed_sheet::number` meets its contract. Past the end there is no number, so that the sum fits for any place.
use native.Mathlib.Omega.{arith}
use borrow.Author.Tests.{ltb-true, ltb-false}
use lib.Dec.{ltb}
use lib.ListN.{length}
use Rattle.bits.proofs.Tests.{by_cases}
use Rattle.speed_sheet.proofs.Numbers.{found_is_counted, none_past}
use Rattle.speed_sheet.proofs.number.Goals as goal

pub overflow_add-result : goal.overflow_add-result
overflow_add-result c =
    let a = c.args in
    let s = a.s.now in
    by_cases (ltb a.at (length s))
    (λ d. omega (arith, ltb-true a.at (length s) d))
    (λ d. omega (arith, none_past s a.at (ltb-false a.at (length s) d), found_is_counted s a.at c.found_at-found.ensures))

pub returns : goal.returns
returns c =
    let a = c.args in
    let e = found_is_counted a.s.now a.at c.found_at-found.ensures in
    record { next = omega (arith, e); value = omega (arith, e) }
