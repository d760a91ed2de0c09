-- A part judged a number of times, counted upwards: one more, one refused, and all.
use Rattle.std.proofs.Common.{◌≡◌, ℕ, ◌+◌, ◌-◌, ◌<◌, ◌≤◌, arith}
use Rattle.format.specs.Format.{Format, times}
use Rattle.format.specs.internal.Ways.{Way, Went, Over, Left}
use Rattle.format.proofs.Ways.{times_on, times_off, times_end_lem}

module _ {X B : Type 0} {w : Way X B} {p : Format → Format} (part : Format → Format) {count i at to : ℕ} {x y : X} (l : Left w p (times part (count - i)) at x to y) where
  pub count_on : {a : ℕ} {z : X} → i < count → Over w part to y (Went.on a z) → Left w p (times part (count - (i + 1))) at x a z
  count_on h o = let e : count - i - 1 ≡ count - (i + 1) = omega arith in rw e at (times_on part l (omega arith) o)

  pub count_off : {r place : ℕ} → i < count → Over w part to y (Went.off r place) → Over w p at x (Went.off r place)
  count_off h o = times_off part l (omega arith) o

  pub count_end : count ≤ i → Over w p at x (Went.on to y)
  count_end h = times_end_lem part l (omega arith)
