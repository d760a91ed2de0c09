use Rattle.text.proofs.lines.Laying.{changing_on, changing_end}
use Prim.Native.Nat.{◌+◌, ◌-◌}
use mathlib.Core.Path.{◌≡◌, refl, ◌∙◌}
use native.Mathlib.Omega.{arith}
use Rattle.text.proofs.lines.put_changes.Goals as goal

pub loop-init : goal.loop-init
loop-init c =
    let p = c.requires in
    let z : c.args.left - 0 ≡ c.args.left = omega arith in
    (rw z (record { inside = p.0; fits = omega (arith, p.1); makes = λ last cells l. l }), refl)

pub past-place-requires : goal.past-place-requires
past-place-requires c = c.loop.invariant.0.inside

pub put_element-next-requires : goal.put_element-next-requires
put_element-next-requires c = (c.past-place.ensures.inside, omega (arith, c.loop.invariant.0.fits, c.loop-test.true))

pub after_element-place-requires : goal.after_element-place-requires
after_element-place-requires c = c.past-place.ensures.inside

pub loop-preserved : goal.loop-preserved
loop-preserved c =
    let t = c.loop-test.true in
    let l = c.loop in
    let e = c.put_element-next in
    let less : c.args.left - (l.counter + 1) ≡ c.args.left - l.counter - 1 = omega arith in (
      rw less (changing_on l.invariant.0 (λ z. omega (arith, t)) c.number-start.ensures c.past-place.ensures e.ensures c.after_element-place.ensures),
      e.auto.room ∙ l.invariant.1,
    )

pub shape_of-room : goal.shape_of-room
shape_of-room c = c.loop.invariant.1

pub returns : goal.returns
returns c = changing_end c.loop.invariant.0 (omega (arith, c.loop-test.false))
