-- Three fields that are read at once: an entry, and an element of the speed profile before its entries.
use mathlib.Core.Path.{◌≡◌, refl}
use mathlib.Core.List.{List}
use Prim.Native.Nat.{ℕ, ◌+◌, ◌*◌, ◌-◌, ◌/◌, ◌%◌, ◌^◌, ◌≤◌, ◌<◌}
use native.Mathlib.Omega.{arith}
use lib.Dec.{lit<, lit≤}
use lib.ListN.{length}
use Rattle.bits.specs.Bits.{field_at}
use Rattle.bits.proofs.Windows.{field_front, cut_field, cut_low}
use Rattle.bits.proofs.Fields.{window_small}
use Rattle.numbers.specs.internal.Groups.{Put}
use Rattle.kinds.specs.Kind.{Kind}
use Rattle.format.specs.Format.{Format, field, then}
use Rattle.kinds.specs.Kinds.{speed, q_front, n_iter, q_diff, class}
use Rattle.grammar.specs.segment.Segment.{entries, profile}
use Rattle.grammar.specs.internal.segment.Parts.{entry}
use Rattle.grammar.proofs.segment.Parts.{class_width}
use Rattle.sheet_write_segment.specs.internal.elements.Writing.{putting, PartWritable}
use Rattle.sheet_write_segment.proofs.elements.Writing.{Puts, Along, along_all, along_here, along_put, field_here}

-- ---- three fields that are read at once, as t; what follows depends on the third

module _ (s : List ℕ) (stop : ℕ) (k : Kind) (l : ℕ → Kind) (m : Kind) (part : ℕ → Format → Format) (a b d at : ℕ) (p : Put) (t : ℕ) where
  abbrev value1 : ℕ
  value1 = t / 2 ^ (b + d)

  abbrev value2 : ℕ
  value2 = t / 2 ^ d % 2 ^ b

  -- each may be put once those before it are
  pub record Three : Type 0 where
    pub small : t < 2 ^ (a + (b + d))
    pub first : Puts k s stop at p a value1
    pub second : {p1 : Put} → p1 ≡ putting p (k.raise value1) → Puts (l value1) s stop (at + a) p1 b value2
    pub third : {p1 p2 : Put} → p1 ≡ putting p (k.raise value1) → p2 ≡ putting p1 ((l value1).raise value2) → Puts m s stop (at + a + b) p2 d (t % 2 ^ d)
    pub put : {p1 p2 p3 : Put} → p1 ≡ putting p (k.raise value1) → p2 ≡ putting p1 ((l value1).raise value2) → p3 ≡ putting p2 (m.raise (t % 2 ^ d))
        → Along s stop (λ f. field k λ u. then (l u) (field m λ v. part v f)) (part (t % 2 ^ d)) at p (at + (a + (b + d))) p3

module _ (s : List ℕ) (stop : ℕ) (k : Kind) (l : ℕ → Kind) (m : Kind) (part : ℕ → Format → Format)
    (a b d : ℕ) (ka : k.width ≡ a) (lb : (u : ℕ) → (l u).width ≡ b) (md : m.width ≡ d) where
  abbrev three : Format → Format
  three f = field k λ u. then (l u) (field m λ v. part v f)

  abbrev second : ℕ → Format → Format
  second u f = then (l u) (field m λ v. part v f)

  abbrev third : ℕ → Format → Format
  third w f = field m λ v. part v f

  module _ {at : ℕ} {p : Put} (h : PartWritable three s stop at p) where
    three_whole : a + (b + d) ≤ stop - at
    three_whole =
        let q = along_put s stop k second a ka (along_all s stop h) h _ refl (at + a) refl refl in
        let r = along_put s stop (l _) third b (lb _) q h _ refl (at + a + b) refl refl in
        omega (
          arith,
          (field_here s stop k second a ka h _ refl).whole,
          (field_here s stop (l _) third b (lb _) (along_here s stop q h) _ refl).whole,
          (field_here s stop m part d md (along_here s stop r h) _ refl).whole,
        )

    inside : at + (a + (b + d)) ≤ 8 * length s
    inside = omega (arith, three_whole, h.reads.inside, h.reads.before)

    pub three_read : 0 < a → a + (b + d) ≤ 32 → (0 < a + (b + d)) × (a + (b + d) ≤ 32) × (at + (a + (b + d)) ≤ 8 * length s) × (8 ≤ length s)
    three_read u v = (omega arith, v, inside, h.reads.long)

    module _ {t : ℕ} (e : t ≡ field_at s at (a + (b + d))) where
      front : t / 2 ^ (b + d) ≡ field_at s at a
      front = rw e (field_front s at a (b + d) inside)

      between : t / 2 ^ d % 2 ^ b ≡ field_at s (at + a) b
      between = rw e (cut_field s at a b d inside)

      back : t % 2 ^ d ≡ field_at s (at + a + b) d
      back = rw e (cut_low s at a b d inside)

      module _ {p1 : Put} (x : p1 ≡ putting p (k.raise (t / 2 ^ (b + d)))) where
        one : Along s stop three (second (t / 2 ^ (b + d))) at p (at + a) p1
        one = along_put s stop k second a ka (along_all s stop h) h _ front (at + a) refl x

        module _ {p2 : Put} (y : p2 ≡ putting p1 ((l (t / 2 ^ (b + d))).raise (t / 2 ^ d % 2 ^ b))) where
          two : Along s stop three (third (t / 2 ^ d % 2 ^ b)) at p (at + a + b) p2
          two = along_put s stop (l (t / 2 ^ (b + d))) third b (lb _) one h _ between (at + a + b) refl y

      pub three_puts : Three s stop k l m part a b d at p t
      three_puts = record {
        small = window_small s at (a + (b + d)) e;
        first = field_here s stop k second a ka h _ front;
        second = λ x. field_here s stop (l (t / 2 ^ (b + d))) third b (lb _) (along_here s stop (one x) h) _ between;
        third = λ x y. field_here s stop m part d md (along_here s stop (two x y) h) _ back;
        put = λ x y z. along_put s stop m part d md (two x y) h _ back (at + (a + (b + d))) (omega arith) z;
      }

-- an entry, and an element of the speed profile before its entries
module _ (s : List ℕ) (stop : ℕ) {at : ℕ} {p : Put} where
  pub entry_read : PartWritable entry s stop at p → (0 < 13) × (13 ≤ 32) × (at + 13 ≤ 8 * length s) × (8 ≤ length s)
  entry_read h = three_read s stop q_diff class speed (λ v f. f) 2 4 7 refl class_width refl h (lit< tt) (lit≤ tt)

  pub entry_puts : PartWritable entry s stop at p → {t : ℕ} → t ≡ field_at s at 13 → Three s stop q_diff class speed (λ v f. f) 2 4 7 at p t
  entry_puts h e = three_puts s stop q_diff class speed (λ v f. f) 2 4 7 refl class_width refl h e

  pub profile_read : PartWritable profile s stop at p → (0 < 13) × (13 ≤ 32) × (at + 13 ≤ 8 * length s) × (8 ≤ length s)
  profile_read h = three_read s stop speed (λ u. q_front) (n_iter 31) entries 7 1 5 refl (λ u. refl) refl h (lit< tt) (lit≤ tt)

  pub profile_puts : PartWritable profile s stop at p → {t : ℕ} → t ≡ field_at s at 13 → Three s stop speed (λ u. q_front) (n_iter 31) entries 7 1 5 at p t
  profile_puts h e = three_puts s stop speed (λ u. q_front) (n_iter 31) entries 7 1 5 refl (λ u. refl) refl h e
