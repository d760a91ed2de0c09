-- The numbers of a cards file, read one after the other into an array.
use mathlib.Core.Path.{◌≡◌, refl, sym, ap, ◌∙◌}
use mathlib.Core.Bool.{true, false}
use mathlib.Core.List.{List, [], ◌∷◌, ◌++◌, append-nil}
use Prim.Native.Nat.{ℕ, zero, suc, ◌+◌, ◌*◌, ◌-◌, ◌/◌, ◌%◌, ◌≤◌, ◌<◌}
use native.Mathlib.Omega.{arith}
use native.Mathlib.Numerals.{add-one}
use borrow.Author.Tests.{eq-eqb, ne_eqb}
use lib.ListN.{length, take, drop, get_or, set, length-set, drop_of_length-le}
use lib.Seq.{take-suc-set, append_snoc, drop-drop, drop-cons}
use Rattle.numbers.specs.Numbers.{number_in, groups_in}
use Rattle.numbers.proofs.Counting.{count_five}
use Rattle.std.specs.Prelude.{Ok, Err, Some, None}
use Rattle.kinds.specs.declared.refusals.Refused.{Refused}
use Rattle.kinds.specs.Refusals.{refusal_number}
use Rattle.screen.specs.File.{Numbers, accepted, refused, in_front, wrong, judged, ended, numbers_from, file_numbers}
use Rattle.screen.specs.internal.Reading.{Read}

-- numbers in front of those after them
abbrev pub behind : List ℕ → Numbers → Numbers
behind p (accepted l) = accepted (p ++ l)
behind p (refused r place) = refused r place

behind_snoc : (p : List ℕ) (v : ℕ) (o : Numbers) → behind (p ++ (v ∷ [])) o ≡ behind p (in_front v o)
behind_snoc p v (accepted l) = ap accepted (append_snoc p v l)
behind_snoc p v (refused r place) = refl

-- ---- the loop: k numbers are read, and the next one starts at the byte `at`

pub record Reading (s : List ℕ) (k at : ℕ) (values : List ℕ) : Type 0 where
  pub most : k ≤ 448
  pub near : at ≤ 5 * k
  pub long : length values ≡ 448
  pub same : behind (take k values) (numbers_from (448 - k) k at (drop at s)) ≡ file_numbers s

pub reading_first : (s values : List ℕ) → length values ≡ 448 → Reading s 0 0 values
unfolding file_numbers
reading_first s values e = record { most = omega arith; near = omega arith; long = e; same = go (numbers_from 448 0 0 s) }
  where
    go : (o : Numbers) → behind [] o ≡ o
    go (accepted l) = refl
    go (refused r place) = refl

module _ {s : List ℕ} {k at : ℕ} {values : List ℕ} (g : Reading s k at values) where
  abbrev rest : Numbers
  rest = numbers_from (448 - k) k at (drop at s)

  -- what is left is refused, so the file is
  refused_so : {r place : ℕ} → rest ≡ refused r place → refused r place ≡ file_numbers s
  refused_so e = sym (ap (behind (take k values)) e) ∙ g.same

  module _ (more : at < length s) where
    abbrev b : ℕ
    b = get_or s at 0

    left_is : drop at s ≡ b ∷ drop (suc at) s
    left_is = drop-cons s at 0 more

    -- "bytes after 64 cards give 20"
    pub reading_many : {out : List ℕ} {f : Refused ℕ} → refusal_number f.0 ≡ 20 → f.1 ≡ 0 → k ≡ 448 → Read s (Err f) out
    reading_many p q e = record { says = rw (p, q) (refused_so over); few = omega arith }
      where
        z : 448 - k ≡ 0
        z = omega arith

        over : rest ≡ refused 20 0
        over = ap (λ (n : ℕ). numbers_from n k at (drop at s)) z ∙ ap (numbers_from 0 k at) left_is

    module _ (n : k ≡ 448 → ⊥) where
      step : (m : ℕ) → m ≡ 448 - (k + 1) → rest ≡ judged (number_in (drop at s)) k at λ v. numbers_from m (suc k) (at + length (groups_in v)) (drop (length (groups_in v)) (drop at s))
      step m d =
          let z : 448 - k ≡ suc m = omega (arith, g.most) in
          ap (λ (i : ℕ). numbers_from i k at (drop at s)) z ∙ rw left_is

      -- "9"
      pub reading_bad : {out : List ℕ} {f : Refused ℕ} → refusal_number f.0 ≡ 9 → f.1 ≡ at → number_in (drop at s) ≡ None → Read s (Err f) out
      reading_bad p q e = record { says = rw (p, q) (refused_so (step _ refl ∙ rw e)); few = omega arith }

      module _ (v : ℕ) (e : number_in (drop at s) ≡ Some v) where
        -- "4 for a membership not 0 or 1"
        pub reading_wrong : {out : List ℕ} {f : Refused ℕ} → refusal_number f.0 ≡ 4 → f.1 ≡ at → wrong k v ≡ true → Read s (Err f) out
        reading_wrong p q w = record { says = rw (p, q) (refused_so (step _ refl ∙ rw (e, w))); few = omega arith }

        pub reading_next : {c : ℕ} → length (groups_in v) ≡ c → wrong k v ≡ false → Reading s (k + 1) (at + c) (set values k v)
        reading_next {c} d w = record {
          most = omega (arith, g.most);
          near = omega (arith, g.near, count_five v);
          long = length-set values k v ∙ g.long;
          same = rw (add-one k, take-suc-set values k v (omega (arith, g.long, g.most))) (behind_snoc (take k values) v (numbers_from (448 - suc k) (suc k) (at + c) (drop (at + c) s)) ∙ ap (behind (take k values)) (sym on) ∙ g.same);
        }
          where
            on : rest ≡ in_front v (numbers_from (448 - suc k) (suc k) (at + c) (drop (at + c) s))
            on = step (448 - suc k) (ap (λ (i : ℕ). 448 - i) (sym (add-one k))) ∙ rw (e, w, d, drop-drop c at s)

  module _ (over : length s ≤ at) where
    last : rest ≡ ended k at
    last = ap (numbers_from (448 - k) k at) (drop_of_length-le s over) ∙ go (448 - k)
      where
        go : (m : ℕ) → numbers_from m k at [] ≡ ended k at
        go zero = refl
        go (suc m) = refl

    -- a file that ends within a card
    pub reading_cut : {out : List ℕ} {f : Refused ℕ} → refusal_number f.0 ≡ 9 → f.1 ≡ at → (k % 7 ≡ 0 → ⊥) → Read s (Err f) out
    reading_cut p q h = record { says = rw (p, q) (refused_so (last ∙ rw (ne_eqb (k % 7) 0 h))); few = omega arith }

    pub reading_last : k % 7 ≡ 0 → Read s (Ok (k / 7)) values
    reading_last h =
        let z : 7 * (k / 7) ≡ k = omega arith in
        let e : rest ≡ accepted [] = last ∙ rw (eq-eqb (k % 7) 0 h) in
        record {
          says = ap (λ (i : ℕ). accepted (take i values)) z ∙ sym (ap (behind (take k values)) e ∙ ap accepted (append-nil (take k values))) ∙ g.same;
          few = omega (arith, g.most);
        }
