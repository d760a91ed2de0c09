-- `text::words::put_word` meets its contract.
use Rattle.text.proofs.words.Putting.{filled}
use native.Mathlib.Omega.{arith}
use Rattle.text.proofs.words.put_word.Goals as goal

pub returns : goal.returns
returns c =
    let a = c.args in
    record { place = omega arith; bytes = filled a.room.now a.at a.word.now _ (omega arith) c.requires c.copy_from_slice.ensures.after }
