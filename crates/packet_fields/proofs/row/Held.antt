-- The bytes of the values of a row, where each value is at most its largest value, and where one is not.
use mathlib.Core.Path.{◌≡◌, refl, ◌∙◌}
use mathlib.Core.Bool.{true}
use mathlib.Core.List.{List, [], ◌∷◌}
use Prim.Native.Nat.{ℕ, ◌+◌, ◌/◌, ◌%◌, ◌^◌, ◌≤◌, ◌<◌}
use native.Mathlib.Nat.{le_refl}
use native.Mathlib.Omega.{arith}
use borrow.Author.Tests.{leb-true, leb-false, le-leb}
use lib.Dec.{leb}
use lib.ListN.{length}
use lib.Pow.{mod-pow-add}
use Rattle.bits.specs.Bits.{field_at}
use Rattle.bits.specs.internal.Windows.{bits_in, low_parts}
use Rattle.bits.proofs.Fields.{field_small}
use Rattle.bits.proofs.Tests.{by_cases, and_left, and_right}
use Rattle.numbers.specs.Numbers.{groups_in}
use Rattle.numbers.proofs.Counting.{count_some}
use Rattle.kinds.specs.Kind.{up_to}
use Rattle.kinds.specs.Judged.{value_in_packet}
use Rattle.fields.specs.internal.size.Counts.{bytes_of}
use Rattle.fields.proofs.size.Bytes.{both_in, high_out}
use Rattle.packet_fields.specs.internal.row.Values.{within, groups_all, row_bytes}

-- each value is at most its largest value
abbrev pub Held : List ℕ → List ℕ → Type 0
Held ms [] = Unit {0}
Held [] (v ∷ vs) = Unit {0}
Held (m ∷ ms) (v ∷ vs) = (v ≤ m) × Held ms vs

pub held_within : (ms vs : List ℕ) → Held ms vs → within ms vs ≡ true
held_within ms [] h = refl
held_within [] (v ∷ vs) h = refl
held_within (m ∷ ms) (v ∷ vs) h = rw (le-leb v m h.0, held_within ms vs h.1)

within_held : (ms vs : List ℕ) → within ms vs ≡ true → Held ms vs
within_held ms [] e = tt
within_held [] (v ∷ vs) e = tt
within_held (m ∷ ms) (v ∷ vs) e = (leb-true v m (and_left (leb v m) (within ms vs) e), within_held ms vs (and_right (leb v m) (within ms vs) e))

module _ (ms vs : List ℕ) where
  pub all_bytes : {r : ℕ} → Held ms vs → r ≡ groups_all vs → r ≡ row_bytes ms vs
  all_bytes h e = rw (held_within ms vs h) e

  pub no_bytes : (Held ms vs → ⊥) → 0 ≡ row_bytes ms vs
  no_bytes n = by_cases (within ms vs) (λ e. absurd (n (within_held ms vs e))) (λ e. rw e)

-- ---- one value

-- a field whose largest value is all ones holds any value of its bits
pub any_held : (s : List ℕ) (at w m : ℕ) → m + 1 ≡ 2 ^ w → field_at s at w ≤ m
any_held s at w m e = omega (arith, field_small s at w w (le_refl w), e)

-- a value from its bytes: it is at most m, or there are none
module _ (w m v : ℕ) {r : ℕ} (e : r ≡ bytes_of (value_in_packet (up_to w m) v)) where
  pub bytes_held : (r ≡ 0 → ⊥) → (v ≤ m) × (r ≡ length (groups_in v))
  bytes_held z =
      by_cases (leb v m)
      (λ i. let l = leb-true v m i in let a = both_in 0 m v (omega arith) l in (l, e ∙ rw a))
      (λ i. let a = high_out 0 m v (leb-false v m i) in absurd (z (e ∙ rw a)))

  pub bytes_over : r ≡ 0 → m < v
  bytes_over z =
      by_cases (leb v m)
      (λ i. let a = both_in 0 m v (omega arith) (leb-true v m i) in let f : r ≡ length (groups_in v) = e ∙ rw a in absurd (omega (arith, f, z, count_some v)))
      (leb-false v m)

-- ---- values that are all 0

abbrev pub zeros : List ℕ → List ℕ
zeros [] = []
zeros (w ∷ ws) = 0 ∷ zeros ws

pub all_zero : (ws : List ℕ) (t : ℕ) → Held (zeros ws) (low_parts ws t) → t % 2 ^ bits_in ws ≡ 0
all_zero [] t h = omega arith
all_zero (w ∷ []) t h = let p : w + 0 ≡ w = omega arith in rw p (omega (arith, h.0))
all_zero (w ∷ (v ∷ ws)) t h =
    let z : t / 2 ^ bits_in (v ∷ ws) % 2 ^ w ≡ 0 = omega (arith, h.0) in
    mod-pow-add t w (bits_in (v ∷ ws)) ∙ rw (z, all_zero (v ∷ ws) t h.1) (omega arith)
