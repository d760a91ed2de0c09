use Rattle.std.proofs.Common.{◌≡◌, ℕ, suc, ◌+◌, ◌-◌, ◌*◌, ◌/◌, ◌%◌, ◌^◌, sym, refl, ◌∙◌, arith}
use Rattle.bits.proofs.Cells.{sets_past}
use Rattle.bits.specs.internal.write.Filling.{bytes_in}
use Rattle.bits.proofs.write.Putting.{bytes_more, top_byte, next_byte}
use Rattle.bits.proofs.write.store_some.Goals as goal

pub loop-j-preserved : goal.loop-j-preserved
loop-j-preserved c =
    let a = c.args in
    let l = c.loop-j in
    let o : ℕ = l.j - a.i in
    let m : ℕ = 7 - o in
    let e : 8 - o ≡ suc m = omega arith in
    let f : 8 - (l.j + 1 - a.i) ≡ m = omega arith in
    let g : l.j + 1 - a.i ≡ o + 1 = omega arith in
    let b : l.rest / 2 ^ 56 ≡ a.x / 2 ^ (8 * m) % 256 = rw l.invariant.top (top_byte a.x o (omega arith)) in
    record {
      left = l.invariant.left ∙ rw (e, f, b) (bytes_more l.s l.j m (8 * m) a.x refl);
      top = rw (l.invariant.top, g) (next_byte a.x o);
    }

pub returns : goal.returns
returns c =
    let l = c.loop-j in
    sym (l.invariant.left ∙ sets_past l.s l.j (bytes_in (8 - (l.j - c.args.i)) c.args.x) (omega arith))
