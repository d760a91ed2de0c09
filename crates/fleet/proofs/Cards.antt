-- A card as an element of a slice: its row, its machine value, its laws, and that its place fits.
use Prim.Native.Nat.{ℕ, ◌<◌, ◌*◌, ◌^◌}
use native.Mathlib.Omega.{arith}
use mathlib.Core.List.{List}
use seplogic.Ra.Ura.{Ura}
use lib.Dec.{T}
use mir.Val.{Val, WT, has_ty}
use types.Logic.{Logic}
use denote.RattleType.{RattleType}
use denote.Laws.{Is, Tells, Copy, Makes}
use denote.Slice.{Room}
use denote.Struct.Laws as LL
use Rattle.fleet.specs.declared.Card.{Card}
use Rattle.fleet.specs.contracts.Card as C
use Rattle.fleet.proofs.Card.TheLaws as T'

abbrev pub R : RattleType
R = C.the_row

abbrev pub val : Card → Val
val = LL.val C.the_type T'.the_laws

abbrev pub vals : Card → List Val
vals = LL.vals C.the_type T'.the_laws

pub tells : Tells R (Is R) vals
tells = LL.tells C.the_type T'.the_laws

module _ {M : Type 1} {𝓤 : Ura M} (𝓛 : Logic 𝓤) where
  pub copies : Copy 𝓛 R
  copies = LL.copy C.the_type T'.the_copy 𝓛

  pub typed : (c : Card) → Is R c (vals c) → T (has_ty T'.mir (val c)) × WT (val c)
  typed c is = ((LL.lawful C.the_type T'.the_laws 𝓛).typed c (vals c) is).0

  pub makes : Makes 𝓛 R (Is R)
  makes = LL.makes C.the_type T'.the_plain 𝓛

-- card i of n lies 20 · i bytes past the first, which fits, since the cards have room
pub scaled : (n i : ℕ) → Room R n → i < n → i * 20 < 2 ^ 64
scaled n i room l = let r : n * 20 < 2 ^ 63 = room.1 in omega arith
