-- `shelf::find` meets its contract.
use Rattle.bits.proofs.Padding.{bytes_of}
use Rattle.shelf.proofs.Answers.{entry_in}
use Rattle.shelf.proofs.find.Goals as goal

pub either-requires : goal.either-requires
either-requires c =
    let a = c.args in (
      entry_in a.key a.yard.now a.yard_used (bytes_of a.yard.now (λ i. (c.type_inv.yard i).fits)) _ c.in_ok-own.ensures,
      entry_in a.key a.standard.now a.standard_used (bytes_of a.standard.now (λ i. (c.type_inv.standard i).fits)) _ c.in_ok-other.ensures,
    )
