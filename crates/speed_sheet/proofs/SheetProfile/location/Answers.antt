-- `speed_sheet::Sheet::location` meets its contract.
use mathlib.Core.Path.{refl}
use Rattle.kinds.specs.Kinds.{d_location}
use Rattle.speed_sheet.proofs.Parts.{same_read}
use Rattle.speed_sheet.proofs.SheetProfile.location.Goals as goal

pub returns : goal.returns
returns c = λ last lsp. same_read c.args.s.now c.number-location.ensures (d_location last lsp) (λ u. refl)
