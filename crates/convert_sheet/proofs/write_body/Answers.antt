-- `convert_sheet::write_body` meets its contract.
use mathlib.Core.Path.{sym, ap₂, ◌∙◌}
use mathlib.Core.List.{List, ◌++◌}
use Prim.Native.Nat.{ℕ}
use lib.ListN.{take, drop}
use lib.Seq.{length-take-le}
use Rattle.bits.proofs.Padding.{bytes_of}
use Rattle.convert_sheet.proofs.ToPacket.{body_may, body_done}
use Rattle.convert_sheet.proofs.write_body.Goals as goal

pub slice_bounds-tree_body-end-2 : goal.slice_bounds-tree_body-end-2
slice_bounds-tree_body-end-2 c =
    sym (length-take-le c.args.bytes c.args.body.now c.requires.2)

pub tree_body-requires : goal.tree_body-requires
tree_body-requires c =
    let a = c.args in
    let s = a.sheet.now in
    let ok = bytes_of s (λ i. (c.type_inv.sheet i).fits) in
    body_may a.tree s ok a.start c.requires.0 c.requires.3 (take a.bytes a.body.now)

pub returns : goal.returns
returns c =
    let a = c.args in
    let s = a.sheet.now in
    let h = c.requires in
    let ok = bytes_of s (λ i. (c.type_inv.sheet i).fits) in
    ap₂ (λ (p : List ℕ) (m : ℕ). p ++ drop m a.body.now) (body_done a.tree s ok a.start h.0 h.3 (length-take-le a.bytes a.body.now h.2 ∙ h.1) c.tree_body.ensures) h.1
