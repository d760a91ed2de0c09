-- `speed_element::profile::first` meets its contract.
use Rattle.speed_element.proofs.Reading.{count_stands}
use Rattle.speed_element.proofs.profile.first.Goals as goal

pub count-count-requires : goal.count-count-requires
count-count-requires g c = count_stands (g.P.Profile.reads c.args.s.now) c.args.lsp c.element-e.ensures.0 c.requires
