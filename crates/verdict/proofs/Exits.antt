-- What a `?` returns on a refusal.
use Rattle.std.specs.Prelude.{Result, Err}
use Rattle.std.specs.Result.{IsErrAnd}
use Rattle.std.proofs.lemmas.Result.{err_from_is_err_and}
use mathlib.Core.Path.{◌≡◌}
use Prim.Native.Nat.{ℕ}
use Rattle.kinds.specs.declared.refusals.Refused.{Refused}
use Rattle.kinds.specs.declared.numbered.Refused as numbered

-- it is the refusal that the `?` met
pub exit : {T : Type 0} {r : Result T (Refused ℕ)} {e : Refused ℕ} → IsErrAnd r (λ y. y ≡ e) → r ≡ Err e
exit {r = r} h = let p = err_from_is_err_and r h in rw (p.1, p.2)

-- it is the refusal that the `?` met, where that is any number
pub exit_numbered : {T : Type 0} {r : Result T (numbered.Refused ℕ)} {e : numbered.Refused ℕ} → IsErrAnd r (λ y. y ≡ e) → r ≡ Err e
exit_numbered {r = r} h = let p = err_from_is_err_and r h in rw (p.1, p.2)
