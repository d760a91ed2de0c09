-- `speed::is_figure` meets its contract.
use Rattle.speed.proofs.Laws.{figure_place}
use Rattle.speed.proofs.is_figure.Goals as goal

pub class_place-requires : goal.class_place-requires
class_place-requires c = c.cant_figures-figures.ensures

pub returns : goal.returns
returns c = figure_place _ _ c.class_place.ensures
