-- What a sheet's number becomes in the packet, as one number: what the contracts of the module lower cite. No promise names it.
use Rattle.std.proofs.Math.Option.{Option, none, some}
use Rattle.std.specs.Prelude.{ℕ, ◌^◌}
use Rattle.kinds.specs.Kind.{Kind}

-- the value, or d where there is none
abbrev pub value_or : ℕ → Option ℕ → ℕ
value_or d none = d
value_or d (some v) = v

-- the packet's value, and one more than its bits hold where there is none
abbrev pub lowered : Kind → ℕ → ℕ
lowered k a = value_or (2 ^ k.width) (k.lower a)
