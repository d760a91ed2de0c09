-- `speed_sheet::Sheet::element` meets its contract.
use mathlib.Core.Path.{refl}
use native.Mathlib.Omega.{arith}
use Rattle.kinds.specs.Kinds.{q_front, n_iter}
use Rattle.format.specs.Format.{field, then}
use Rattle.grammar.specs.segment.Segment.{entries}
use Rattle.speed_sheet.proofs.Parts.{same_read, speed_read, speed_small, front_inside, front_at, count_inside, count_at}
use Rattle.speed_element.proofs.Reading.{element_entries, element_read}
use Rattle.speed_sheet.specs.internal.Asking.{Reads}
use Rattle.speed_sheet.proofs.SheetProfile.element.Goals as goal

pub bounds-s-second : goal.bounds-s-second
bounds-s-second c = front_inside c.args.s.now c.number-v_static.ensures c.requires

pub overflow_add-second : goal.overflow_add-second
overflow_add-second c = omega (arith, front_inside c.args.s.now c.number-v_static.ensures c.requires)

pub bounds-s-second-2 : goal.bounds-s-second-2
bounds-s-second-2 c = count_inside c.args.s.now c.number-v_static.ensures c.requires

pub overflow_add-entries : goal.overflow_add-entries
overflow_add-entries c = omega (arith, count_inside c.args.s.now c.number-v_static.ensures c.requires)

pub entries_end-next-requires : goal.entries_end-next-requires
entries_end-next-requires c =
    let s = c.args.s.now in
    let n = c.number-v_static.ensures in
    let q = same_read s (front_at s n c.requires refl) q_front (λ u. refl) in
    let m = same_read s (count_at s n c.requires c.wide-count.ensures) (n_iter 31) (λ u. refl) in
    element_entries (Reads s) (speed_read s n) q m c.requires

pub returns : goal.returns
returns c =
    let s = c.args.s.now in
    let n = c.number-v_static.ensures in
    let q = same_read s (front_at s n c.requires c.wide-q_front.ensures) q_front (λ u. refl) in
    let m = same_read s (count_at s n c.requires c.wide-count.ensures) (n_iter 31) (λ u. refl) in
    let small = speed_small s n (λ v f. then q_front (field (n_iter 31) λ k. entries k f)) c.requires in
    (element_read (Reads s) (speed_read s n) q m c.entries_end-next.ensures small c.args.start, refl)
