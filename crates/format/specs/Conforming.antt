-- A conforming list of values, said of the tree and the values alone: one good value for each field, and no more.
use Rattle.std.specs.Prelude.{◌≡◌, true, List, [], ◌∷◌, ℕ, ◌^◌, ◌<◌}
use Rattle.std.proofs.Math.Option.{some}
use Rattle.kinds.specs.declared.Item.{Item}
use Rattle.kinds.specs.Kind.{Kind}
use Rattle.format.specs.Format.{Format, end, field}

-- "every field of every change is named": one good value for each field of the tree, in order, and no more
pub data Conforming (Good : Kind → Item → Type 0) : Format → List Item → Type 0 where
  done : Conforming Good end []
  also : {k : Kind} {next : ℕ → Format} {i : Item} {l : List Item} → Good k i → Conforming Good (next i.packet) l → Conforming Good (field k next) (i ∷ l)

-- "keeps the published widths and ranges": a value as a packet gives it
pub record InPacket (k : Kind) (i : Item) : Type 0 where
  pub allowed : k.allowed i.packet ≡ true
  pub fits : i.packet < 2 ^ k.width
  pub raised : i.sheet ≡ k.raise i.packet

-- "Numbers are below 4,294,967,296", and the packet has a value for it: a value as a sheet gives it
pub record InSheet (k : Kind) (i : Item) : Type 0 where
  pub lowered : k.lower i.sheet ≡ some i.packet
  pub fits : i.sheet < 2 ^ 32

-- the values with their sheet numbers as the packet gives them back: "speeds are times 5 and currents times 10"
abbrev pub given_back : Format → List Item → List Item
given_back end l = []
given_back (field k next) [] = []
given_back (field k next) (i ∷ l) = record { sheet = k.raise i.packet; packet = i.packet } ∷ given_back (next i.packet) l
