-- `shelf::moves::put_entry` meets its contract.
use mathlib.Core.Path.{◌≡◌, ap, ◌∙◌}
use Prim.Native.Nat.{◌+◌}
use native.Mathlib.Omega.{arith}
use lib.ListN.{length}
use Rattle.shelf.specs.Shelf.{length_bytes}
use Rattle.shelf.specs.internal.Changing.{written}
use Rattle.shelf.proofs.moves.Moving.{part_filled, be_bytes, written_after}
use Rattle.shelf.proofs.moves.put_entry.Goals as goal

pub returns : goal.returns
returns c =
    let a = c.args in
    let s = a.store.now in
    let sheet = a.sheet.now in
    let n = length sheet in
    let four : a.at + 4 ≡ a.at + length (length_bytes n) = omega arith in
    part_filled (a.at + 4) _ sheet _ _ (omega arith) c.copy_from_slice-2.ensures.after
    ∙ ap (written (a.at + 4) sheet) (part_filled a.at _ (length_bytes n) s _ (omega arith) (c.copy_from_slice.ensures.after ∙ c.to_be_bytes.ensures ∙ be_bytes n))
    ∙ written_after a.at (length_bytes n) sheet s (omega arith) four
