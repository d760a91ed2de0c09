-- Numbers passed over byte by byte: the place is within one of them, or after the last.
use mathlib.Core.Path.{◌≡◌, refl}
use mathlib.Core.List.{List}
use Prim.Native.Nat.{ℕ, ◌+◌, ◌-◌, ◌/◌, ◌≤◌, ◌<◌}
use native.Mathlib.Numerals.{add-one}
use native.Mathlib.Omega.{arith}
use borrow.Author.Tests.{ltb-true, ltb-false}
use lib.Dec.{ltb}
use lib.ListN.{length, get_or}
use Rattle.bits.proofs.Tests.{by_cases}
use Rattle.speed_sheet.specs.internal.Asking.{number_end, numbers_end, Numbers}
use Rattle.speed_sheet.proofs.Groups.{number_some, number_inside, group_at}

-- i numbers are passed, and the place to is within the next
pub record Amid (s : List ℕ) (at count i to : ℕ) : Type 0 where
  pub up : i ≤ count
  pub from : numbers_end s at i ≤ to
  pub within : i < count → to < number_end s (numbers_end s at i)
  pub over : count ≤ i → to ≡ numbers_end s at i

module _ {s : List ℕ} {at count : ℕ} (all : Numbers s at count) where
  pub amid_start : (i : ℕ) → i ≤ count → Amid s at count i (numbers_end s at i)
  amid_start i h = record { up = h; from = omega arith; within = λ l. omega (arith, number_some s (numbers_end s at i) all.ok (all.here i l)); over = λ _. refl }

  module _ {i to : ℕ} (a : Amid s at count i to) (h : i < count) where
    pub amid_inside : to < length s
    amid_inside = omega (arith, a.within h, number_inside s (numbers_end s at i) all.ok (all.here i h))

    -- one byte more: below 128 it is the number's last
    pub amid_next : (b : ℕ) → b ≡ get_or s to 0 → b < 256 → Amid s at count (i + (1 - b / 128)) (to + 1)
    amid_next b e small =
        let g = group_at s (numbers_end s at i) all.ok (all.here i h) to a.from (a.within h) in
        by_cases (ltb b 128)
        (λ d. let z : i + (1 - b / 128) ≡ i + 1 = omega (arith, ltb-true b 128 d) in
        let n : to + 1 ≡ numbers_end s at (i + 1) = rw (add-one i) (omega (arith, a.from, g.last (omega (arith, ltb-true b 128 d)))) in
        rw (z, n) (amid_start (i + 1) (omega arith)))
        (λ d. let z : i + (1 - b / 128) ≡ i = omega (arith, ltb-false b 128 d) in
        rw z (record {
          up = a.up;
          from = omega (arith, a.from);
          within = λ _. omega (arith, a.from, g.more (omega (arith, ltb-false b 128 d)));
          over = λ n. absurd (omega arith);
        }))

pub amid_end : {s : List ℕ} {at count i to : ℕ} → Amid s at count i to → count ≤ i → to ≡ numbers_end s at count
amid_end {count = count} {i = i} a h = let e : i ≡ count = omega (arith, a.up) in rw e at (a.over h)
