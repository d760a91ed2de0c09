-- `text::sheet::past` meets its contract.
use Rattle.text.specs.internal.sheet.Numbers.{numbers_in}
use lib.ListN.{length, drop}
use Prim.Native.Nat.{◌-◌, ◌≤◌}
use mathlib.Core.Path.{◌≡◌}
use Rattle.text.proofs.sheet.past.Given as goal

abbrev pub invariant-loop : goal.invariant-loop
invariant-loop l = (l.place ≤ length l.sheet) × (drop (l.n - l.counter) (numbers_in (drop l.place l.sheet)) ≡ drop l.n (numbers_in (drop l.at l.sheet)))
