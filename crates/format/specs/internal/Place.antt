-- The tree after a value, and after some fields on whose values nothing depends. Used by contracts of the code; no promise names these.
use Rattle.std.specs.Prelude.{ℕ, zero, suc}
use Rattle.format.specs.Format.{Format, end, field}

abbrev pub after : Format → ℕ → Format
after end v = end
after (field k rest) v = rest v

-- after n fields on whose values nothing depends
abbrev pub skip : ℕ → Format → Format
skip zero f = f
skip (suc n) f = skip n (after f 0)
