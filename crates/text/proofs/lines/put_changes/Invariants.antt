-- `text::lines::put_changes` meets its contract.
use Rattle.speed.specs.Speed.{changes_from}
use Rattle.text.specs.internal.sheet.Numbers.{numbers_in}
use Rattle.text.specs.words.Words.{Laid}
use Rattle.text.specs.lines.Lines.{element_lines}
use Rattle.text.proofs.lines.Laying.{Changing}
use lib.ListN.{length, drop}
use Prim.Native.Nat.{◌-◌}
use mathlib.Core.Path.{◌≡◌}
use Rattle.text.proofs.lines.put_changes.Given as goal

abbrev pub invariant-loop : goal.invariant-loop
invariant-loop l = Changing l.sheet (λ last cells. Laid l.initial.room l.at (element_lines (changes_from 0 l.left (numbers_in (drop l.from l.sheet)))) last cells) (l.left - l.counter) l.place l.next l.room × (length l.room ≡ length l.initial.room)
