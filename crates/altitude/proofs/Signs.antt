-- A value of twenty bits fits a signed number of 32 bits, before and after 100,000 is subtracted from it.
use mathlib.Core.Path.{◌≡◌}
use Prim.Native.Nat.{ℕ, ◌<◌, ◌^◌}
use native.Mathlib.Decide.{dec_lt}
use native.Mathlib.Omega.{arith}
use borrow.Author.Tests.{lt-ltb, le-ltb}
use lib.IntN.{pos}
use lib.Signed.{mag}
use mir.Syntax.{w32}
use mir.Val.{SFits, to_z}
use Rattle.altitude.specs.Altitude.{centimetres}

module _ (v : ℕ) (h : v < 2 ^ 20) where
  pub same_signed : to_z w32 v ≡ pos v
  same_signed = rw (lt-ltb v (2 ^ 31) (omega arith))

  -- an altitude is negative and at least -100,000, or below 2 ^ 20
  pub centimetres_fit : SFits w32 (centimetres v)
  centimetres_fit = record { sfits = go (dec_lt v 100000) }
    where
      go : Dec (v < 100000) → mag (centimetres v) < 2 ^ 31
      go (yes l) = rw (lt-ltb v 100000 l) (omega arith)
      go (no l) = rw (le-ltb v 100000 (omega arith)) (omega arith)
