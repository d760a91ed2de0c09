-- `speed_packet::Packet::location` meets its contract.
use mathlib.Core.Path.{refl}
use Rattle.kinds.specs.Kinds.{d_location}
use Rattle.speed_packet.proofs.Fields.{field_read}
use Rattle.speed_packet.proofs.PacketProfile.location.Goals as goal

pub returns : goal.returns
returns c = λ last lsp. field_read c.args.s.now (d_location last lsp) c.args.at 24 _ refl refl c.read_window.ensures
