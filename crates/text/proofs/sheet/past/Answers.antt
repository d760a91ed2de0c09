use Rattle.text.specs.internal.sheet.Numbers.{numbers_in}
use Rattle.text.proofs.sheet.Reading.{groups_inside, past_more, past_end_lem}
use Rattle.bits.proofs.Padding.{bytes_of}
use lib.ListN.{length, drop}
use Prim.Native.Nat.{ℕ, ◌+◌, ◌-◌, ◌≤◌}
use mathlib.Core.Path.{◌≡◌, sym, ap}
use native.Mathlib.Omega.{arith}
use Rattle.text.proofs.sheet.past.Goals as goal

pub loop-init : goal.loop-init
loop-init c =
    let a = c.args in
    let z : a.n - 0 ≡ a.n = omega arith in
    (c.requires, ap (λ (k : ℕ). drop k (numbers_in (drop a.at a.sheet.now))) z)

-- the groups of a number are inside the sheet
inside : (c : goal.After-groups) → c.loop.place + c.groups.result ≤ length c.args.sheet.now
inside c =
    let s = c.args.sheet.now in
    let l = c.loop in
    rw c.groups.ensures (groups_inside s l.place (bytes_of s (λ i. (c.type_inv.sheet i).fits)) _ (sym c.in-Some.ensures) l.invariant.0)

pub overflow_add-place : goal.overflow_add-place
overflow_add-place c = omega (arith, inside c)

pub loop-preserved : goal.loop-preserved
loop-preserved c =
    let s = c.args.sheet.now in
    let l = c.loop in
    let n = c.args.n in
    let less : n - (l.counter + 1) ≡ n - l.counter - 1 = omega arith in
    (inside c, rw (less, c.groups.ensures) (past_more s l.place (bytes_of s (λ i. (c.type_inv.sheet i).fits)) _ (sym c.in-Some.ensures) (n - l.counter) _ (λ z. omega (arith, c.loop-test.true)) l.invariant.1))

pub returns-in-None : goal.returns-in-None
returns-in-None c =
    let l = c.loop in
    record {
      here = past_end_lem c.args.sheet.now l.place (c.args.n - l.counter) _ (sym c.in-None.ensures) l.invariant.1;
      inside = l.invariant.0;
    }

pub returns : goal.returns
returns c =
    let l = c.loop in
    let z : c.args.n - l.counter ≡ 0 = omega (arith, c.loop-test.false) in
    record { here = rw z at l.invariant.1; inside = l.invariant.0 }
