-- `fields::lower::cant_place` meets its contract.
use Rattle.std.proofs.Common.{ℕ, ◌<◌, List, get_or, sym, ap, ◌∙◌, arith}
use Rattle.fields.proofs.lower.Lowering.{cant_at, cant_none}
use Rattle.fields.proofs.lower.cant_place.Goals as goal
use Rattle.fields.proofs.lower.cant_place.Goals.{then-near-le-LARGEST, else-near-le-LARGEST}

pub returns-then-figures-i : goal.returns-then-figures-i
returns-then-figures-i c =
    let j = c.if-near-le-LARGEST in
    let l : j.i < 11 = elim j.branch [ then-near-le-LARGEST w ↦ omega arith | else-near-le-LARGEST w ↦ omega arith ] in
    cant_at c.args.a j.i l (ap (λ (t : List ℕ). get_or t j.i 0) (sym c.requires) ∙ c.if-figures-i.true)

pub returns-else-figures-i : goal.returns-else-figures-i
returns-else-figures-i c =
    let d = c.wrapping_sub_u32-near in
    let j = c.if-near-le-LARGEST in
    cant_none c.args.a d.result j.i (omega arith) d.ensures.value (λ h. elim j.branch [ then-near-le-LARGEST w ↦ omega arith | else-near-le-LARGEST w ↦ omega arith ])
    (λ e. c.if-figures-i.false (ap (λ (t : List ℕ). get_or t j.i 0) c.requires ∙ e))
