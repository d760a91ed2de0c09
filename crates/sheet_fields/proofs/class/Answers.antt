-- `sheet_fields::class` meets its contract.
use Rattle.kinds.specs.Kinds.{class}
use Rattle.fields.proofs.Lawful.{class_lawful}
use Rattle.fields.proofs.size.Bytes.{class_refusal}
use Rattle.grammar.proofs.segment.Parts.{class_width}
use Rattle.verdict.proofs.Exits.{exit}
use Rattle.sheet_fields.proofs.Steps.{plain_off, plain_on, low_none, low_some}
use Rattle.sheet_fields.proofs.class.Goals as goal

pub returns-in_err-v : goal.returns-in_err-v
returns-in_err-v c = rw (exit c.from_residual.ensures.1) (plain_off (c.in_err-v.ensures _))

pub returns-then-class_place-eq-NO_CLASS : goal.returns-then-class_place-eq-NO_CLASS
returns-then-class_place-eq-NO_CLASS c =
    let k = class c.args.q in
    plain_off (rw (low_none k c.class_place.ensures (class_lawful c.args.q) (rw (class_width c.args.q) c.if-class_place-eq-NO_CLASS.true), class_refusal c.args.q c.in_ok-v.v) at (c.in_ok-v.ensures k (class_width c.args.q)))

pub returns : goal.returns
returns c =
    let k = class c.args.q in
    plain_on (rw (low_some k c.class_place.ensures (rw (class_width c.args.q) c.if-class_place-eq-NO_CLASS.false)) at (c.in_ok-v.ensures k (class_width c.args.q)))
