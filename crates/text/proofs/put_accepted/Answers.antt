-- `text::put_accepted` meets its contract.
use Rattle.text.proofs.Accepted.{Made, made}
use Rattle.text.proofs.words.Signs.{same}
use Rattle.bits.proofs.Padding.{bytes_of}
use lib.ListN.{replicate, length-replicate}
use mathlib.Core.List.{List}
use mathlib.Core.Path.{◌≡◌}
use Rattle.bits.specs.Bits.{Bytes}
use Rattle.convert.specs.declared.Converted.{Converted}
use Rattle.convert.specs.Convert.{packet_to_sheet}
use Rattle.text.specs.internal.Writers.{PacketAccepted}
use lib.Seq.{length-take-le}
use Prim.Native.Nat.{ℕ}
use mathlib.Core.Path.{sym}
use native.Mathlib.Omega.{arith}
use Rattle.text.proofs.put_accepted.Goals as goal

-- what the conversion leaves in a sheet of zeros
made_here : {s cells : List ℕ} {answer : Converted} → Bytes s → PacketAccepted s → record { answer = answer; room = cells } ≡ packet_to_sheet s (replicate 5728 0) → Made s cells answer.length
made_here {s} {cells} {answer} ok e o = made s _ cells answer ok e (omega (arith, length-replicate {A = ℕ} 5728 0)) o

pub slice_bounds-sheet-end : goal.slice_bounds-sheet-end
slice_bounds-sheet-end c =
    let ok = bytes_of c.args.packet.now (λ i. (c.type_inv.packet i).fits) in
    (made_here ok c.requires.0 c.packet_to_sheet-converted.ensures).inside

pub slice_bounds-put_lines-end : goal.slice_bounds-put_lines-end
slice_bounds-put_lines-end c =
    let ok = bytes_of c.args.packet.now (λ i. (c.type_inv.packet i).fits) in
    sym (length-take-le _ _ (made_here ok c.requires.0 c.packet_to_sheet-converted.ensures).inside)

pub put_lines-requires : goal.put_lines-requires
put_lines-requires c =
    let ok = bytes_of c.args.packet.now (λ i. (c.type_inv.packet i).fits) in
    ((made_here ok c.requires.0 c.packet_to_sheet-converted.ensures).few, c.requires.1)

pub returns : goal.returns
returns c =
    let ok = bytes_of c.args.packet.now (λ i. (c.type_inv.packet i).fits) in
    rw (← (made_here ok c.requires.0 c.packet_to_sheet-converted.ensures).numbers, ← same c.args.altitude c.ranges.altitude) c.put_lines.ensures
