-- `sheet_write_segment::list` meets its contract.
use mathlib.Core.Path.{refl}
use Prim.Native.Nat.{◌+◌}
use native.Mathlib.Nat.{le_refl}
use native.Mathlib.Omega.{arith}
use Rattle.bits.proofs.Fields.{field_small}
use Rattle.kinds.specs.Kinds.{n_iter}
use Rattle.format.specs.Format.{field}
use Rattle.grammar.specs.segment.Segment.{changes}
use Rattle.grammar.specs.internal.segment.Parts.{start_of}
use Rattle.sheet_write_segment.proofs.elements.Writing.{along_all, along_here, along_put, along_on, along_none, field_here}
use Rattle.sheet_write_segment.proofs.list.Goals as goal

pub put_short-m-requires : goal.put_short-m-requires
put_short-m-requires g c =
    let a = c.args in
    let s = a.packet.now in
    let m = along_on s a.stop (start_of a.part) (λ f. field (n_iter g.limit) λ n. changes (start_of a.part) a.lsp 0 n f) (along_all s a.stop c.requires) c.element-first.ensures in (
      omega (arith, c.read_window-count.ensures, field_small s c.element-first.result.at 5 5 (le_refl _)),
      (field_here s a.stop (n_iter g.limit) (changes (start_of a.part) a.lsp 0) 5 refl (along_here s a.stop m c.requires) _ c.read_window-count.ensures).fits,
    )

pub changes-requires : goal.changes-requires
changes-requires g c =
    let a = c.args in
    let s = a.packet.now in
    let m = along_on s a.stop (start_of a.part) (λ f. field (n_iter g.limit) λ n. changes (start_of a.part) a.lsp 0 n f) (along_all s a.stop c.requires) c.element-first.ensures in
    along_here s a.stop (along_put s a.stop (n_iter g.limit) (changes (start_of a.part) a.lsp 0) 5 refl m c.requires _ c.read_window-count.ensures (c.element-first.result.at + 5) refl c.put_short-m.ensures) c.requires

pub returns : goal.returns
returns g c =
    let a = c.args in
    let s = a.packet.now in
    let m = along_on s a.stop (start_of a.part) (λ f. field (n_iter g.limit) λ n. changes (start_of a.part) a.lsp 0 n f) (along_all s a.stop c.requires) c.element-first.ensures in
    let o = along_put s a.stop (n_iter g.limit) (changes (start_of a.part) a.lsp 0) 5 refl m c.requires _ c.read_window-count.ensures (c.element-first.result.at + 5) refl c.put_short-m.ensures in
    along_none s a.stop (along_on s a.stop (changes (start_of a.part) a.lsp 0 c.read_window-count.result) (λ f. f) o c.changes.ensures)
