-- What each task makes of the values that are read.
use mathlib.Core.Path.{◌≡◌, sym, ap, ◌∙◌}
use mathlib.Core.List.{List, [], ◌∷◌, ◌++◌, append_assoc, append-nil}
use Prim.Native.Nat.{ℕ, ◌+◌, ◌%◌, ◌<◌}
use native.Mathlib.Nat.{mod-lt, mod-eq_of_lt, mod-add-mod}
use native.Mathlib.Omega.{arith}
use lib.ListN.{length, length-append}
use Rattle.kinds.specs.declared.Item.{Item}
use Rattle.format.specs.Format.{Format, end, field, Medium, write}
use Rattle.format.specs.internal.Pass.{made}
use Rattle.format.specs.internal.Tasks.{counting, counting_within, recording}

module _ {A : Type 0} (out : Medium A) where
  pub made_count : {C : Type 0} (answer : ℕ → C) (refusal : ℕ → ℕ → C) (f : Format) (l : List Item) (n : ℕ) → made (counting out answer refusal) f l n ≡ n + length (write out f l)
  made_count answer refusal end l n = omega arith
  made_count answer refusal (field k next) [] n = omega arith
  made_count answer refusal (field k next) (i ∷ l) n =
      made_count answer refusal (next i.packet) l (n + length (out.put k i))
      ∙ rw (length-append (out.put k i) (write out (next i.packet) l)) (omega arith)

  pub made_within : {C : Type 0} (m : ℕ) (answer : ℕ → C) (refusal : ℕ → ℕ → C) (f : Format) (l : List Item) (n : ℕ) → n < m
      → made (counting_within m out answer refusal) f l n ≡ (n + length (write out f l)) % m
  made_within m answer refusal end l n h = let e : n + 0 ≡ n = omega arith in rw e (sym (mod-eq_of_lt h))
  made_within m answer refusal (field k next) [] n h = let e : n + 0 ≡ n = omega arith in rw e (sym (mod-eq_of_lt h))
  made_within m answer refusal (field k next) (i ∷ l) n h =
      let a = length (out.put k i) in
      let b = length (write out (next i.packet) l) in
      let e : n + a + b ≡ n + (a + b) = omega arith in
      made_within m answer refusal (next i.packet) l ((n + a) % m) (mod-lt (n + a) (omega arith))
      ∙ mod-add-mod (n + a) m b
      ∙ rw (length-append (out.put k i) (write out (next i.packet) l)) (ap (λ (x : ℕ). x % m) e)

  pub made_record : (f : Format) (l : List Item) (x : List A) → made (recording out) f l x ≡ x ++ write out f l
  made_record end l x = rw append-nil
  made_record (field k next) [] x = rw append-nil
  made_record (field k next) (i ∷ l) x =
      made_record (next i.packet) l (x ++ out.put k i) ∙ append_assoc x (out.put k i) (write out (next i.packet) l)
