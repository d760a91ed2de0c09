-- `speed_sheet::Sheet::head` meets its contract.
use Rattle.bits.proofs.Padding.{bytes_of}
use Rattle.speed_sheet.proofs.Parts.{head_numbers, offset_numbers, head_read}
use Rattle.speed_sheet.proofs.SheetProfile.head.Goals as goal

pub numbers_end-at-requires : goal.numbers_end-at-requires
numbers_end-at-requires c =
    let s = c.args.sheet.now in
    head_numbers s c.requires (bytes_of s (λ i. (c.type_inv.sheet i).fits))

pub numbers_end-requires : goal.numbers_end-requires
numbers_end-requires c =
    let s = c.args.sheet.now in
    let ok = bytes_of s (λ i. (c.type_inv.sheet i).fits) in
    offset_numbers s c.requires ok c.numbers_end-at.ensures c.number-length.ensures

pub returns : goal.returns
returns c =
    let s = c.args.sheet.now in
    let ok = bytes_of s (λ i. (c.type_inv.sheet i).fits) in
    head_read s c.requires ok c.numbers_end-at.ensures c.number-length.ensures c.numbers_end.ensures
