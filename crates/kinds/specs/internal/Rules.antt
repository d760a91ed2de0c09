-- The field kind that each rule of the code stands for. Used by contracts of the code; no promise names these.
use Rattle.std.specs.Prelude.{◌≡◌, ℕ}
use Rattle.kinds.specs.declared.Rule.{Rule}
use Rattle.kinds.specs.declared.Rule.TheVariants.{Range, Location, Operational, Speed, Current, Cant, Volts, After, NoCurrent}
use Rattle.kinds.specs.Kind.{Kind, range}
use Rattle.kinds.specs.Refusals.{refusal_number}
use Rattle.kinds.specs.Kinds.{nid_operational, speed, nc_cd_diff, d_location, m_voltage, m_current, d_end_after, no_current}

abbrev pub meaning : Rule → Kind
meaning (Range width least largest refusal) = range width least largest (refusal_number refusal)
meaning (Location last lsp) = d_location last lsp
meaning Operational = nid_operational
meaning Speed = speed
meaning Current = m_current
meaning Cant = nc_cd_diff
meaning Volts = m_voltage
meaning (After start) = d_end_after start
meaning NoCurrent = no_current

-- the rule r is of the kind k, whose width and largest value are the constants width and largest of its type
pub record Keeps (k : Kind) (width largest : ℕ) (r : Rule) : Type 0 where
  pub kind : meaning r ≡ k
  pub wide : width ≡ k.width
  pub most : largest ≡ k.largest
