-- `convert_sheet::write_header` meets its contract.
use lib.Dec.{lit<, lit≤}
use Rattle.bits.proofs.Padding.{bytes_of}
use Rattle.grammar.proofs.link.Trees.{tree_byte}
use Rattle.convert_sheet.proofs.ToPacket.{bits_high, header_may, header_done}
use native.Mathlib.Omega.{arith}
use Rattle.convert_sheet.proofs.write_header.Goals as goal

pub put-number-requires : goal.put-number-requires
put-number-requires c =
    (lit< tt, lit≤ tt, rw c.requires.3 (tree_byte c.args.tree))

pub put-wait-requires : goal.put-wait-requires
put-wait-requires c =
    let s = c.args.sheet.now in
    let ok = bytes_of s (λ i. (c.type_inv.sheet i).fits) in
    (lit< tt, lit≤ tt, omega (arith, c.requires.1, bits_high c.args.tree s ok c.requires.2))

pub header-last-requires : goal.header-last-requires
header-last-requires c =
    let s = c.args.sheet.now in
    let ok = bytes_of s (λ i. (c.type_inv.sheet i).fits) in
    let t = c.args.tree in
    let n = c.requires.3 in
    rw (c.groups.ensures, n) (header_may t s ok c.requires.2 c.requires.0 c.requires.1 (rw n at c.put-number.ensures) c.put-wait.ensures)

pub returns : goal.returns
returns c =
    let s = c.args.sheet.now in
    let ok = bytes_of s (λ i. (c.type_inv.sheet i).fits) in
    let t = c.args.tree in
    let n = c.requires.3 in
    let w = rw (c.groups.ensures, n) at c.header-last.ensures.0 in
    header_done t s ok c.requires.2 c.requires.0 c.requires.1 (rw n at c.put-number.ensures) c.put-wait.ensures w c.header-last.ensures.1
