-- A read's bytes stand after those of the reads before it, and are taken from the input after them.
use Rattle.std.proofs.Common.{◌+◌, ◌-◌, ◌++◌, length, take, sym, ap, ◌∙◌, subst, rules, length-take-le}
use Rattle.std.proofs.lemmas.List.{take-append-le}
use Rattle.std.proofs.Math.Seq.{take-append-add}
use Rattle.std.proofs.KnownBytes.{Consumes-trans}
use Rattle.std.specs.Io.KnownBytes.{Consumes}
use borrow.Rule.Slice.PartMut.{post_of}
use Rattle.input.proofs.read_full.Goals as goal

pub loop-done-preserved : goal.loop-done-preserved
loop-done-preserved g c =
    let before = take c.loop-done.done c.loop-done.buffer in
    let after = post_of c.loop-done.done (length c.loop-done.buffer - c.loop-done.done) c.loop-done.buffer in
    let grown = ap (λ done. take (done + c.in-Ok.n) (before ++ (c.read.new.buf ++ after))) (sym (length-take-le _ c.loop-done.buffer c.loop-done.invariant.0))
    ∙ take-append-add before (c.read.new.buf ++ after) c.in-Ok.n
    ∙ ap (λ l. before ++ l) (take-append-le c.in-Ok.n c.read.new.buf after c.in-Ok.ensures.bound.0) in
    (search rules, subst (Consumes _ _) (sym grown) (Consumes-trans _ _ _ _ _ c.loop-done.invariant.1 c.in-Ok.ensures.bytes.0))
