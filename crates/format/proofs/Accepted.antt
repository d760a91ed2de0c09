-- A field of an accepted medium, at a place: its value, and what is accepted after it.
use mathlib.Core.Path.{◌≡◌, refl}
use mathlib.Core.List.{List, ◌∷◌}
use Prim.Native.Nat.{ℕ, ◌+◌}
use lib.ListN.{length}
use Rattle.kinds.specs.declared.Item.{Item}
use Rattle.kinds.specs.Kind.{Kind}
use Rattle.format.specs.Format.{Format, field, accepted, Medium, follow, read}
use Rattle.format.specs.internal.Places.{Taken}
use Rattle.format.proofs.Generic.{with_accepted}
use Rattle.format.proofs.Passing.{Seen, step_at}

module _ {A : Type 0} (m : Medium A) (view : ℕ → List A) (took : Kind → ℕ → Taken) where
  pub record Accepts (k : Kind) (next : ℕ → Format) (at : ℕ) (l : List Item) : Type 0 where
    pub item : Item
    pub to : ℕ
    pub values : List Item
    pub takes : took k at ≡ Taken.Is item to
    pub reads : read m (next item.packet) to (view to) ≡ accepted values
    pub is : l ≡ item ∷ values

  pub field_accepted : {Here : ℕ → Type 0} → Seen m view took Here → (k : Kind) (next : ℕ → Format) (at : ℕ) (l : List Item) → Here at
      → read m (field k next) at (view at) ≡ accepted l → Accepts k next at l
  field_accepted seen k next at l h e = go (took k at) refl (rw (seen.sees k at h) at e)
    where
      go : (u : Taken) → took k at ≡ u → follow at (step_at view (took k at)) (λ i v. read m (next i.packet) (at + length (m.put k i)) v) ≡ accepted l → Accepts k next at l
      go (Taken.Is i to) d f =
          let (v, p, q) = with_accepted i (read m (next i.packet) to (view to)) l (rw (d, seen.moves k at h d) at f) in
          record { item = i; to = to; values = v; takes = d; reads = p; is = q }
      go (Taken.Refused r) d f = cc (rw d at f)
