use mathlib.Core.Path.{◌≡◌, refl}
use mathlib.Core.List.{List}
use Prim.Native.Nat.{ℕ, ◌+◌, ◌*◌, ◌-◌, ◌<◌, ◌≤◌}
use native.Mathlib.Omega.{arith}
use lib.Dec.{lit<, lit≤}
use lib.ListN.{length}
use Rattle.bits.specs.Bits.{field_at}
use Rattle.numbers.specs.Numbers.{groups_in}
use Rattle.numbers.specs.internal.Groups.{Put}
use Rattle.kinds.specs.Kinds.{d_location}
use Rattle.format.specs.Format.{Format, field}
use Rattle.grammar.specs.segment.Segment.{changes}
use Rattle.grammar.specs.internal.segment.Parts.{start_of}
use Rattle.grammar.proofs.segment.Parts.{changes_more, changes_none}
use Rattle.sheet_write_segment.specs.internal.elements.Writing.{putting, PartWritable, Wrote}
use Rattle.sheet_write_segment.proofs.elements.Writing.{Along, along_as, along_here, along_put, along_next, along_on, along_none, field_here, field_read}
use Rattle.sheet_write_segment.proofs.changes.Goals as goal

-- one more change of those that are left: its location, and an element
module _ (s : List ℕ) (stop : ℕ) (start : Format → Format) (lsp last n : ℕ) {p : Format → Format} {at to : ℕ} {x y : Put} (h : PartWritable p s stop at x) (some : 0 < n)
    (l : Along s stop p (changes start lsp last n) at x to y) where
  abbrev after : ℕ → Format → Format
  after v f = start (changes start lsp v (n - 1) f)

  next : Along s stop p (λ f. field (d_location last lsp) λ v. after v f) at x to y
  next = along_as s stop (λ f. field (d_location last lsp) λ v. after v f) (changes_more start lsp last n some) l

  location_read : (0 < 24) × (24 ≤ 32) × (to + 24 ≤ 8 * length s) × (8 ≤ length s)
  location_read = field_read s stop (d_location last lsp) after 24 refl (along_here s stop next h) (lit< tt) (lit≤ tt)

  module _ {v : ℕ} (e : v ≡ field_at s to 24) where
    location_fits : y.next + length (groups_in v) ≤ length y.bytes
    location_fits = (field_here s stop (d_location last lsp) after 24 refl (along_here s stop next h) v e).fits

    module _ {z : Put} (c : z ≡ putting y v) where
      there : Along s stop p (after v) at x (to + 24) z
      there = along_put s stop (d_location last lsp) after 24 refl next h v e (to + 24) refl c

      change_here : PartWritable start s stop (to + 24) z
      change_here = along_next s stop start (changes start lsp v (n - 1)) there h

      change_on : {a : ℕ} {b : Put} → Wrote start s stop (to + 24) z a b → Along s stop p (changes start lsp v (n - 1)) at x a b
      change_on w = along_on s stop start (changes start lsp v (n - 1)) there w

pub read_window-x-requires : goal.read_window-x-requires
read_window-x-requires c =
    let a = c.args in
    location_read _ _ (start_of a.part) a.lsp c.loop.last (a.count - c.loop.counter) c.requires (omega (arith, c.loop-test.true)) c.loop.invariant

pub put_number-m-requires : goal.put_number-m-requires
put_number-m-requires c =
    let a = c.args in
    location_fits _ _ (start_of a.part) a.lsp c.loop.last (a.count - c.loop.counter) c.requires (omega (arith, c.loop-test.true)) c.loop.invariant c.read_window-x.ensures

pub element-spot-requires : goal.element-spot-requires
element-spot-requires c =
    let a = c.args in
    change_here _ _ (start_of a.part) a.lsp c.loop.last (a.count - c.loop.counter) c.requires (omega (arith, c.loop-test.true)) c.loop.invariant c.read_window-x.ensures c.put_number-m.ensures

pub loop-preserved : goal.loop-preserved
loop-preserved c =
    let a = c.args in
    let e : a.count - (c.loop.counter + 1) ≡ a.count - c.loop.counter - 1 = omega arith in
    rw e (change_on _ _ (start_of a.part) a.lsp c.loop.last (a.count - c.loop.counter) c.requires (omega (arith, c.loop-test.true)) c.loop.invariant c.read_window-x.ensures c.put_number-m.ensures c.element-spot.ensures)

pub returns : goal.returns
returns c =
    let a = c.args in
    along_none _ _ (along_as _ _ (λ f. f) (changes_none (start_of a.part) a.lsp c.loop.last _ (omega (arith, c.loop-test.false))) c.loop.invariant)
