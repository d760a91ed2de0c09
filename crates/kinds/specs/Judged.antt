-- A value judged by its kind, from a packet and from a sheet: the value, or its refusal's number.
use Rattle.std.specs.Prelude.{cond, ℕ, Result, Ok, Err}
use Rattle.std.proofs.Math.Option.{Option, none, some}
use Rattle.kinds.specs.declared.Item.{Item}
use Rattle.kinds.specs.Kind.{Kind}

-- "Back from the packet, speeds are times 5 and currents times 10": a packet's value judged, with the sheet's number
abbrev pub value_in_packet : Kind → ℕ → Result Item ℕ
value_in_packet k v = cond (k.allowed v) (Ok (record { sheet = k.raise v; packet = v })) (Err (k.refusal v))

-- "4: a field outside its range or set": a sheet's number with the packet's value, or the kind's refusal where there is none
abbrev pub field_with : Kind → ℕ → Option ℕ → Result Item ℕ
field_with k a none = Err (k.refusal a)
field_with k a (some v) = Ok (record { sheet = a; packet = v })

-- "whole part of speed / 5", "whole part of amperes / 10": a sheet's number judged, with the packet's value
abbrev pub number_in_sheet : Kind → ℕ → Result Item ℕ
number_in_sheet k a = field_with k a (k.lower a)
