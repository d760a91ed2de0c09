-- `leg_sheet::identity` meets its contract.
use Rattle.bits.proofs.Padding.{bytes_of}
use Rattle.leg_sheet.proofs.Parts.{identity_numbers, identity_read}
use Rattle.leg_sheet.proofs.identity.Goals as goal

pub numbers_end-at-requires : goal.numbers_end-at-requires
numbers_end-at-requires c = let s = c.args.sheet.now in identity_numbers s c.requires (bytes_of s (λ i. (c.type_inv.sheet i).fits))

pub returns : goal.returns
returns c =
    let s = c.args.sheet.now in
    identity_read s c.requires (bytes_of s (λ i. (c.type_inv.sheet i).fits)) c.numbers_end-at.ensures
    c.number-nid_c.ensures c.number-nid_sp.ensures c.number-major.ensures c.number-minor.ensures
