-- Reading and writing, for any format and any medium that takes what it puts: read after write, and write after read.
use mathlib.Core.Path.{◌≡◌, refl, ap, ◌∙◌}
use mathlib.Core.List.{List, [], ◌∷◌, ◌++◌}
use Prim.Native.Nat.{ℕ, ◌+◌}
use lib.ListN.{length}
use Rattle.kinds.specs.declared.Item.{Item}
use Rattle.kinds.specs.Kind.{Kind}
use Rattle.format.specs.Format.{Format, end, field, Read, accepted, refused, FieldStep, step, stopped_with, Medium, with, follow, read, write}
use Rattle.format.specs.Conforming.{Conforming, done, also}

-- what a medium has to meet: a good value that was put is taken, and what is taken was put so and not otherwise
pub record LawfulMedium {A : Type 0} (m : Medium A) (Good : Kind → Item → Type 0) (Ok : List A → Type 0) : Type 0 where
  pub again : (k : Kind) (i : Item) (s : List A) → Good k i → m.take k (m.put k i ++ s) ≡ step i s
  pub only : (k : Kind) (s : List A) (i : Item) (t : List A) → Ok s → m.take k s ≡ step i t → Good k i × (s ≡ m.put k i ++ t) × Ok t

pub never : {r n : ℕ} {l : List Item} → refused r n ≡ accepted l → ⊥
never e = cc

pub with_accepted : (i : Item) (r : Read) (l : List Item) → with i r ≡ accepted l → (t : List Item) × (r ≡ accepted t) × (l ≡ i ∷ t)
with_accepted i (accepted t) l e = (t, refl, cc)
with_accepted i (refused r n) l e = cc

follow_accepted : {A : Type 0} (n : ℕ) (r : FieldStep A) (next : Item → List A → Read) (l : List Item) → follow n r next ≡ accepted l
    → (i : Item) × (s : List A) × (t : List Item) × (r ≡ step i s) × (next i s ≡ accepted t) × (l ≡ i ∷ t)
follow_accepted n (stopped_with r) next l e = cc
follow_accepted n (step i s) next l e = let p = with_accepted i (next i s) l e in (i, s, p.0, refl, p.1, p.2)

module _ {A : Type 0} (m : Medium A) (Good : Kind → Item → Type 0) (Ok : List A → Type 0) (law : LawfulMedium m Good Ok) where
  -- what was written of conforming values is read as the values
  pub read_write : {f : Format} {l : List Item} → Conforming Good f l → (at : ℕ) → read m f at (write m f l) ≡ accepted l
  read_write done at = refl
  read_write (also {k = k} {next = next} {i = i} {l = l} g c) at =
      rw (law.again k i (write m (next i.packet) l) g) (ap (with i) (read_write c (at + length (m.put k i))))

  -- what is accepted is what is written of conforming values, and nothing else
  pub write_read : (f : Format) (at : ℕ) (s : List A) (l : List Item) → Ok s → read m f at s ≡ accepted l → Conforming Good f l × (s ≡ write m f l)
  write_read end at [] [] ok e = (done, refl)
  write_read end at [] (i ∷ l) ok e = cc
  write_read end at (x ∷ s) l ok e = cc
  write_read (field k next) at s l ok e =
      let (i, t, u, p, q, c) = follow_accepted at (m.take k s) (λ j v. read m (next j.packet) (at + length (m.put k j)) v) l e in
      let g = law.only k s i t ok p in
      let h = write_read (next i.packet) (at + length (m.put k i)) t u g.2 q in
      rw c (also g.0 h.0, g.1 ∙ ap (λ v. m.put k i ++ v) h.1)
