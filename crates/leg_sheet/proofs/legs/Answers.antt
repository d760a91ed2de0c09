-- `leg_sheet::legs` meets its contract.
use Rattle.bits.proofs.Padding.{bytes_of}
use Rattle.leg_sheet.proofs.Parts.{count_numbers, legs_read}
use Rattle.leg_sheet.proofs.legs.Goals as goal

pub numbers_end-at-requires : goal.numbers_end-at-requires
numbers_end-at-requires c = let s = c.args.sheet.now in count_numbers s c.requires (bytes_of s (λ i. (c.type_inv.sheet i).fits))

pub returns : goal.returns
returns c =
    let s = c.args.sheet.now in
    legs_read s c.requires (bytes_of s (λ i. (c.type_inv.sheet i).fits)) c.numbers_end-at.ensures c.number-count.ensures
