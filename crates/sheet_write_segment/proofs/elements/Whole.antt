-- What writing every field of an accepted packet comes to, whatever its tree: the room with the packet's numbers in it.
use mathlib.Core.Path.{◌≡◌, sym, ap, ◌∙◌}
use mathlib.Core.List.{List, [], ◌∷◌, ◌++◌}
use Prim.Native.Nat.{ℕ, ◌+◌, ◌≤◌}
use native.Mathlib.Omega.{arith}
use lib.ListN.{length, length-append}
use lib.Seq.{sets, length-sets}
use Rattle.bits.proofs.Cells.{sets_append}
use Rattle.numbers.specs.Numbers.{groups_in}
use Rattle.numbers.specs.internal.Groups.{Put}
use Rattle.kinds.specs.declared.Item.{Item}
use Rattle.format.specs.Format.{Format, end, field, read, write, accepted, answer_of, values_of}
use Rattle.format.specs.Media.{packet, sheet}
use Rattle.format.specs.internal.Places.{bits_between, Placed}
use Rattle.format.specs.internal.Pass.{pass, made}
use Rattle.format.specs.internal.Tasks.{Told}
use Rattle.format.proofs.Passing.{pass_read}
use Rattle.sheet_write_segment.specs.internal.elements.Writing.{writing, putting, filled, PartWritable, Wrote}

-- what writing makes is what the sheet's medium writes, at its place
made_written : (f : Format) (l : List Item) (p : Put)
    → made writing f l p ≡ filled (sets p.bytes p.next (write sheet f l)) (p.next + length (write sheet f l))
made_written end l p = let e : p.next + 0 ≡ p.next = omega arith in rw e
made_written (field k next) [] p = let e : p.next + 0 ≡ p.next = omega arith in rw e
made_written (field k next) (i ∷ l) p =
    let w = write sheet (next i.packet) l in
    let e : p.next + length (groups_in i.sheet) + length w ≡ p.next + length (groups_in i.sheet ++ w) = rw (length-append (groups_in i.sheet) w) (omega arith) in
    made_written (next i.packet) l (putting p i.sheet) ∙ rw (← sets_append p.bytes p.next (groups_in i.sheet) w, e)

-- the numbers of a tree's fields in the bits from at to stop
abbrev numbers_of : Format → List ℕ → ℕ → ℕ → List ℕ
numbers_of tree s at stop = write sheet tree (values_of (read packet tree at (bits_between s at stop)))

module _ (tree : Format) (part : Format → Format) (e : tree ≡ part end) (s : List ℕ) (stop at : ℕ) (room : List ℕ) (start : ℕ)
    (accepts : read packet tree at (bits_between s at stop) ≡ accepted (values_of (read packet tree at (bits_between s at stop)))) where
  all_written : pass packet writing (part end) (filled room start) at (bits_between s at stop)
      ≡ Told.told (filled (sets room start (numbers_of tree s at stop)) (start + length (numbers_of tree s at stop)))
  all_written =
      ap (λ (f : Format). pass packet writing f (filled room start) at (bits_between s at stop)) (sym e)
      ∙ pass_read packet writing tree (filled room start) at (bits_between s at stop)
      ∙ ap (answer_of Told.not (λ l. Told.told (made writing tree l (filled room start)))) accepts
      ∙ ap Told.told (made_written tree (values_of (read packet tree at (bits_between s at stop))) (filled room start))

  -- so all of it may be written
  pub tree_writable : Placed s at stop → 8 ≤ length s → start + length (numbers_of tree s at stop) ≤ length room → PartWritable part s stop at (filled room start)
  tree_writable p l h = record {
    reads = record { before = p.before; inside = p.inside; few = p.few; long = l };
    ahead = record { follows = end; good = rw all_written (omega (arith, length-sets room start (numbers_of tree s at stop))) };
  }

  -- and once it is, the room holds the sheet
  pub tree_held : {to : ℕ} {p : Put} → Wrote part s stop at (filled room start) to p → p.bytes ≡ sets room start (numbers_of tree s at stop)
  tree_held {to} {p} o = go (bits_between s to stop) (sym all_written ∙ o.over.goes end)
    where
      go : (t : List _) → Told.told (filled (sets room start (numbers_of tree s at stop)) (start + length (numbers_of tree s at stop))) ≡ pass packet writing end p to t
          → p.bytes ≡ sets room start (numbers_of tree s at stop)
      go [] d = let q : p ≡ filled (sets room start (numbers_of tree s at stop)) (start + length (numbers_of tree s at stop)) = cc in ap (λ (x : Put). x.bytes) q
      go (b ∷ t) d = absurd (let z : ◌≡◌ {A = ℕ} 0 1 = cc in omega arith)
