-- `numbers::found_at` meets its contract.
use mathlib.Core.Path.{◌≡◌, refl, ap, ◌∙◌}
use Prim.Native.Nat.{ℕ, ◌+◌, ◌*◌, ◌/◌, ◌%◌}
use lib.ListN.{drop}
use Rattle.bits.proofs.Cells.{whole_part}
use Rattle.numbers.specs.Numbers.{number_in}
use Rattle.numbers.specs.internal.Groups.{counted, found}
use Rattle.numbers.proofs.Reading.{number_end_lem, number_below, counted_short, found_is}
use native.Mathlib.Omega.{arith}
use Rattle.numbers.proofs.found_at.Goals as goal

pub returns-then-s-at : goal.returns-then-s-at
returns-then-s-at c = let a = c.args in ap found (number_end_lem a.s.now a.at 5 c.if-s-at.true)

pub returns-then-high-lt128 : goal.returns-then-high-lt128
returns-then-high-lt128 c =
    let a = c.args in
    let w = c.from-b in
    let high : ℕ = c.from.result * (w.result / 128) in
    let few = c.if-high-lt128.true in
    found_is (number_in (drop a.at a.s.now)) (number_below 5 (drop a.at a.s.now)) (w.result % 128 + 128 * high) (1 + w.result / 128) (omega arith)
    (counted_short a.s.now a.at c.if-at-s.true w.result (w.result / 128) high w.ensures (omega (arith, w.ensures, c.type_inv.s a.at))
    refl (ap (λ (x : ℕ). x * (w.result / 128)) c.from.ensures) c.if-more-high.true few)

pub returns : goal.returns
returns c =
    let a = c.args in
    let r : ℕ = c.read_number-a.result in
    let e : r ≡ counted (number_in (drop a.at a.s.now)) = c.read_number-a.ensures ∙ rw (whole_part a.s.now) in
    found_is (number_in (drop a.at a.s.now)) (number_below 5 (drop a.at a.s.now)) (r % 4294967296) (r / 4294967296) (omega arith) (omega arith)
