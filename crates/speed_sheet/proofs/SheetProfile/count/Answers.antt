-- `speed_sheet::Sheet::count` meets its contract.
use mathlib.Core.Path.{refl}
use Rattle.kinds.specs.Kinds.{n_iter}
use Rattle.speed_sheet.proofs.Parts.{same_read, number_most, count_lawful}
use Rattle.speed_sheet.proofs.SheetProfile.count.Goals as goal

pub returns : goal.returns
returns c =
    let s = c.args.s.now in
    let n = c.number-count.ensures in
    (same_read s n (n_iter 31) (λ u. refl), number_most s n count_lawful c.requires.part c.requires.readable)
