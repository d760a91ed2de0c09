-- The field kind that each rule stands for whose refusal is any number. Used by contracts of the code; no promise names it.
use Rattle.kinds.specs.declared.numbered.Rule.{Rule}
use Rattle.kinds.specs.declared.numbered.Rule.TheVariants.{Range, Location, Operational, Speed, Current, Cant, Volts, After, NoCurrent}
use Rattle.kinds.specs.Kind.{Kind, range}
use Rattle.kinds.specs.Kinds.{nid_operational, speed, nc_cd_diff, d_location, m_voltage, m_current, d_end_after, no_current}

abbrev pub meaning : Rule → Kind
meaning (Range width least largest refusal) = range width least largest refusal
meaning (Location last lsp) = d_location last lsp
meaning Operational = nid_operational
meaning Speed = speed
meaning Current = m_current
meaning Cant = nc_cd_diff
meaning Volts = m_voltage
meaning (After start) = d_end_after start
meaning NoCurrent = no_current
