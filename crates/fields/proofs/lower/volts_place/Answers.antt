-- `fields::lower::volts_place` meets its contract.
use Rattle.std.proofs.Common.{◌≡◌, arith, rules, tests}
use Rattle.std.proofs.lemmas.Iterator.{YieldsList-from_slice, IsFirst-from_position}
use Rattle.fields.proofs.lower.Lowering.{volts_at, volts_none}
use Rattle.fields.proofs.lower.volts_place.Goals as goal

pub returns-in-Some : goal.returns-in-Some
returns-in-Some c =
    let a = c.args.a in
    let found = IsFirst-from_position _ _ c.position.result (λ x. x ≡ a) (λ x. x ≡ a → ⊥) c.position.ensures.ran (YieldsList-from_slice _ c.iter.ensures.rest) (λ x q k. search (rules, tests)) (λ x q k. search (rules, tests)) in
    let here = rw c.in-Some.is at found in volts_at a c.in-Some.i here.0 (here.1 0)

pub returns-in-None : goal.returns-in-None
returns-in-None c =
    let a = c.args.a in
    let found = IsFirst-from_position _ _ c.position.result (λ x. x ≡ a) (λ x. x ≡ a → ⊥) c.position.ensures.ran (YieldsList-from_slice _ c.iter.ensures.rest) (λ x q k. search (rules, tests)) (λ x q k. search (rules, tests)) in
    let nowhere = rw c.in-None.is at found in volts_none a (λ i h. nowhere i 0 (omega arith) h)
