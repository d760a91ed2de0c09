-- A signed number of 32 bits is read back from its bits.
use mathlib.Core.Path.{◌≡◌}
use lib.IntN.{ℤ}
use mir.Facts.{to_z-of_z}
use mir.Syntax.{w32}
use mir.Val.{SFits, to_z, of_z}

pub same : (z : ℤ) → SFits w32 z → to_z w32 (of_z w32 z) ≡ z
same z f = to_z-of_z f
