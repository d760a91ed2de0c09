-- `verdict::frame::judge_frame` meets its contract.
use Rattle.grammar.specs.segment.Frame.{packet_number}
use mathlib.Core.Path.{◌≡◌, sym, ◌∙◌}
use Rattle.verdict.proofs.frame.Framing.{frame_short, frame_number, frame_end, frame_length}
use native.Mathlib.Omega.{arith}
use Rattle.verdict.proofs.frame.judge_frame.Goals as goal

pub returns-then-s-lt-HEADER_BYTES : goal.returns-then-s-lt-HEADER_BYTES
returns-then-s-lt-HEADER_BYTES c = frame_short c.args.number c.args.s.now c.if-s-lt-HEADER_BYTES.true

pub returns-then-read_field-number : goal.returns-then-read_field-number
returns-then-read_field-number c = frame_number c.args.number c.args.s.now (omega arith) (λ e. c.if-read_field-number.true (c.read_field.ensures ∙ e))

pub returns-then-s-body : goal.returns-then-s-body
returns-then-s-body c =
    let s = c.args.s.now in
    let m = c.args.number in
    let n : packet_number s ≡ m = sym c.read_field.ensures ∙ c.if-read_field-number.false in
    let e = c.read_field-body.ensures in
    rw e (frame_end m s (omega arith) n (rw e at c.if-s-body.true))

pub returns-else-s-body : goal.returns-else-s-body
returns-else-s-body c =
    let s = c.args.s.now in
    let m = c.args.number in
    let n : packet_number s ≡ m = sym c.read_field.ensures ∙ c.if-read_field-number.false in
    let e = c.read_field-body.ensures in
    frame_length m s (omega arith) n (rw e at c.if-s-body.false)
