-- A tree of kinds that allow more: what the narrower tree accepts, the wider tree accepts with equal values, and both trees write any values equally.
use mathlib.Core.Path.{◌≡◌, refl, ap, ap₂, ◌∙◌}
use mathlib.Core.Bool.{true}
use mathlib.Core.List.{List, [], ◌∷◌, ◌++◌}
use mathlib.Core.Option.{some}
use Prim.Native.Nat.{ℕ}
use Rattle.bits.specs.Bits.{bits_of}
use Rattle.kinds.specs.declared.Item.{Item}
use Rattle.kinds.specs.Kind.{Kind}
use Rattle.format.specs.Format.{Format, end, field, then, accepted, Medium, read, write}
use Rattle.format.specs.Media.{packet, sheet}
use Rattle.format.specs.Conforming.{Conforming, done, also, InPacket, InSheet}
use Rattle.format.proofs.Generic.{LawfulMedium, read_write, write_read}

-- a kind that takes whatever k takes, as an equal value and in as many bits
pub record WiderKind (k wide : Kind) : Type 0 where
  pub width : k.width ≡ wide.width
  pub allowed : (v : ℕ) → k.allowed v ≡ true → wide.allowed v ≡ true
  pub lower : (a v : ℕ) → k.lower a ≡ some v → wide.lower a ≡ some v
  pub raise : (v : ℕ) → k.raise v ≡ wide.raise v

pub same_kind : (k : Kind) → WiderKind k k
same_kind k = record { width = refl; allowed = λ v e. e; lower = λ a v e. e; raise = λ v. refl }

-- field by field, whatever the values are
pub data Wider : Format → Format → Type 0 where
  ends : Wider end end
  goes : {k wide : Kind} {f g : ℕ → Format} → WiderKind k wide → ((v : ℕ) → Wider (f v) (g v)) → Wider (field k f) (field wide g)

pub same_field : {k : Kind} {f g : ℕ → Format} → ((v : ℕ) → Wider (f v) (g v)) → Wider (field k f) (field k g)
same_field {k} w = goes (same_kind k) w

pub same_then : {k : Kind} {f g : Format} → Wider f g → Wider (then k f) (then k g)
same_then w = same_field λ v. w

-- what a medium has to meet: a wider kind puts what the narrower kind puts, and has every good value
pub record WidensIn {A : Type 0} (m : Medium A) (Good : Kind → Item → Type 0) : Type 0 where
  pub puts : {k wide : Kind} → WiderKind k wide → (i : Item) → m.put k i ≡ m.put wide i
  pub good : {k wide : Kind} → WiderKind k wide → (i : Item) → Good k i → Good wide i

module _ {A : Type 0} {m : Medium A} {Good : Kind → Item → Type 0} (widens : WidensIn m Good) where
  pub wider_written : {f g : Format} → Wider f g → (l : List Item) → write m f l ≡ write m g l
  wider_written ends l = refl
  wider_written (goes w r) [] = refl
  wider_written (goes w r) (i ∷ l) = ap₂ (λ (a b : List A). a ++ b) (widens.puts w i) (wider_written (r i.packet) l)

  pub wider_good : {f g : Format} {l : List Item} → Wider f g → Conforming Good f l → Conforming Good g l
  wider_good ends done = done
  wider_good (goes w r) (also {i = i} c d) = also (widens.good w i c) (wider_good (r i.packet) d)

  pub wider_read : {Ok : List A → Type 0} → LawfulMedium m Good Ok → {f g : Format} → Wider f g
      → (at : ℕ) (s : List A) (l : List Item) → Ok s → read m f at s ≡ accepted l → read m g at s ≡ accepted l
  wider_read {Ok} law {f} {g} w at s l ok e =
      let p = write_read m Good Ok law f at s l ok e in
      ap (read m g at) (p.1 ∙ wider_written w l) ∙ read_write m Good Ok law (wider_good w p.0) at

-- ---- in both media

pub packet_widens : WidensIn packet InPacket
packet_widens = record {
  puts = λ w i. ap (λ (n : ℕ). bits_of n i.packet) w.width;
  good = λ w i c. record {
    allowed = w.allowed i.packet c.allowed;
    fits = rw (← w.width) c.fits;
    raised = c.raised ∙ w.raise i.packet;
  };
}

pub sheet_widens : WidensIn sheet InSheet
sheet_widens = record { puts = λ w i. refl; good = λ w i c. record { lowered = w.lower i.sheet i.packet c.lowered; fits = c.fits } }
