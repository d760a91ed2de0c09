use mathlib.Core.Path.{refl, sym, ◌∙◌}
use native.Mathlib.Omega.{arith}
use lib.ListN.{drop}
use Rattle.numbers.proofs.Reading.{found_none, found_value}
use Rattle.screen.proofs.file.Numbering.{reading_first, reading_many, reading_bad, reading_wrong, reading_next, reading_cut, reading_last}
use Rattle.screen.proofs.file.read_cards.Goals as goal

pub loop-at-init : goal.loop-at-init
loop-at-init c = let a = c.args in reading_first a.s.now a.values.now c.requires

pub returns-then-k-eq-NUMBERS : goal.returns-then-k-eq-NUMBERS
returns-then-k-eq-NUMBERS c = reading_many c.loop-at.invariant c.loop-at-test.true refl refl c.if-k-eq-NUMBERS.true

pub returns-then-found-eq0 : goal.returns-then-found-eq0
returns-then-found-eq0 c =
    let l = c.loop-at in
    let s = c.args.s.now in
    reading_bad l.invariant c.loop-at-test.true c.if-k-eq-NUMBERS.false refl refl (found_none (drop l.at s) _ c.found_at-found.ensures c.if-found-eq0.true)

pub returns-then-wrong : goal.returns-then-wrong
returns-then-wrong c =
    let l = c.loop-at in
    let s = c.args.s.now in
    let f = c.found_at-found in
    reading_wrong l.invariant c.loop-at-test.true c.if-k-eq-NUMBERS.false f.result.value (found_value (drop l.at s) _ f.ensures c.if-found-eq0.false).value refl refl (sym c.wrong.ensures ∙ c.if-wrong.true)

pub bounds-values-k : goal.bounds-values-k
bounds-values-k c = let g = c.loop-at.invariant in omega (arith, g.long, g.most, c.if-k-eq-NUMBERS.false)

pub overflow_add-at : goal.overflow_add-at
overflow_add-at c = let g = c.loop-at.invariant in omega (arith, g.near, g.most)

pub loop-at-smaller : goal.loop-at-smaller
loop-at-smaller c = omega (arith, c.loop-at.invariant.most, c.if-k-eq-NUMBERS.false)

pub loop-at-preserved : goal.loop-at-preserved
loop-at-preserved c =
    let l = c.loop-at in
    let s = c.args.s.now in
    let f = c.found_at-found in
    let v = found_value (drop l.at s) _ f.ensures c.if-found-eq0.false in
    reading_next l.invariant c.loop-at-test.true c.if-k-eq-NUMBERS.false f.result.value v.value v.groups (sym c.wrong.ensures ∙ c.if-wrong.false)

pub returns-then-k-ne0 : goal.returns-then-k-ne0
returns-then-k-ne0 c = reading_cut c.loop-at.invariant (omega (arith, c.loop-at-test.false)) refl refl c.if-k-ne0.true

pub returns : goal.returns
returns c = reading_last c.loop-at.invariant (omega (arith, c.loop-at-test.false)) c.if-k-ne0.false

pub shape_of-values-then-k-eq-NUMBERS : goal.shape_of-values-then-k-eq-NUMBERS
shape_of-values-then-k-eq-NUMBERS c = c.loop-at.invariant.long ∙ sym c.requires

pub overflow_cast-result : goal.overflow_cast-result
overflow_cast-result c = let g = c.loop-at.invariant in omega (arith, g.near, g.most)

pub shape_of-values-then-found-eq0 : goal.shape_of-values-then-found-eq0
shape_of-values-then-found-eq0 c = c.loop-at.invariant.long ∙ sym c.requires

pub overflow_cast-result-then-wrong : goal.overflow_cast-result-then-wrong
overflow_cast-result-then-wrong c = let g = c.loop-at.invariant in omega (arith, g.near, g.most)

pub shape_of-values-then-wrong : goal.shape_of-values-then-wrong
shape_of-values-then-wrong c = c.loop-at.invariant.long ∙ sym c.requires

pub offset_bounds-values-k : goal.offset_bounds-values-k
offset_bounds-values-k c = omega (arith, c.loop-at.invariant.most)

pub overflow_add-k : goal.overflow_add-k
overflow_add-k c = omega (arith, c.loop-at.invariant.most)

pub overflow_cast-result-then-k-ne0 : goal.overflow_cast-result-then-k-ne0
overflow_cast-result-then-k-ne0 c = let g = c.loop-at.invariant in omega (arith, g.near, g.most)

pub shape_of-values-then-k-ne0 : goal.shape_of-values-then-k-ne0
shape_of-values-then-k-ne0 c = c.loop-at.invariant.long ∙ sym c.requires

pub shape_of-values : goal.shape_of-values
shape_of-values c = c.loop-at.invariant.long ∙ sym c.requires
