-- Text written at a place after other text, and the digits of a number.
use mathlib.Core.Path.{◌≡◌, sym, ap, ap₂, ◌∙◌}
use mathlib.Core.List.{List, [], ◌∷◌, ◌++◌, append_assoc}
use Prim.Native.Nat.{ℕ, zero, suc, ◌+◌, ◌/◌, ◌%◌, ◌^◌, ◌≤◌, ◌<◌}
use native.Mathlib.Nat.{pow-suc}
use native.Mathlib.Omega.{arith}
use borrow.Author.Tests.{lt-ltb, le-ltb}
use lib.Dec.{ltb}
use borrow.Rule.Slice.PartMut.{put_mid}
use lib.ListN.{length, length-append, take, drop}
use lib.Seq.{sets, sets-eq, length-sets, drop-drop}
use Rattle.bits.proofs.Tests.{by_cases}
use Rattle.bits.proofs.Cells.{sets_append}
use Rattle.text.specs.words.Words.{digit_byte, digits_of, decimal, Laid}

-- ---- text after text

module _ {room : List ℕ} {at : ℕ} {t : List ℕ} {next : ℕ} {cells : List ℕ} (e : Laid room at t next cells) where
  pub laid_long : length cells ≡ length room
  laid_long = ap length e.bytes ∙ length-sets room at t

  pub laid_on : {u : List ℕ} {last : ℕ} {more : List ℕ} → Laid cells next u last more → Laid room at (t ++ u) last more
  laid_on {u} {last} {more} f = record {
    place = omega (arith, e.place, f.place, length-append t u);
    bytes = f.bytes ∙ rw (e.bytes, e.place) (sym (sets_append room at t u));
  }

-- ---- a word

-- a room of which a part was filled with a word
pub filled : (room : List ℕ) (at : ℕ) (word : List ℕ) (n : ℕ) {end : List ℕ} → n ≡ length word → at + length word ≤ length room → end ≡ word
    → put_mid at n room end ≡ sets room at word
filled room at word n e h q =
    ap₂ (λ (x : List ℕ) (k : ℕ). take at room ++ (x ++ drop k (drop at room))) q e ∙ ap (λ (x : List ℕ). take at room ++ (word ++ x)) (drop-drop (length word) at room)
    ∙ sym (sets-eq word room at h ∙ append_assoc (take at room) word (drop (at + length word) room))

-- ---- digits

digits_most : (n v : ℕ) → length (digits_of n v) ≤ n
digits_most zero v = omega arith
digits_most (suc n) v =
    by_cases (ltb v 10)
    (λ e. rw e (omega arith))
    (λ e. rw (e, length-append (digits_of n (v / 10)) (digit_byte (v % 10) ∷ [])) (omega (arith, digits_most n (v / 10))))

pub decimal_short : (v : ℕ) → length (decimal v) ≤ 10
unfolding decimal
decimal_short v = digits_most 10 v

-- a limit of one more digit changes nothing if v has no digit more
enough : (n v : ℕ) → v < 10 ^ suc n → digits_of (suc n) v ≡ digits_of (suc (suc n)) v
enough zero v h = rw (lt-ltb v 10 (omega arith))
enough (suc n) v h =
    by_cases (ltb v 10)
    (λ e. rw e)
    (λ e. rw e (ap (λ (l : List ℕ). l ++ (digit_byte (v % 10) ∷ [])) (enough n (v / 10) (omega (arith, pow-suc 10 (suc n))))))

pub decimal_last : (v : ℕ) → v < 10 → digit_byte v ∷ [] ≡ decimal v
unfolding decimal
decimal_last v h = rw (lt-ltb v 10 h)

pub decimal_more : (v : ℕ) → 10 ≤ v → v < 2 ^ 32 → decimal (v / 10) ++ (digit_byte (v % 10) ∷ []) ≡ decimal v
unfolding decimal
decimal_more v h l =
    rw (le-ltb v 10 h) (ap (λ (l : List ℕ). l ++ (digit_byte (v % 10) ∷ [])) (sym (enough 8 (v / 10) (omega arith))))

pub last_long : (v : ℕ) → v < 10 → length (decimal v) ≡ 1
last_long v h = ap length (sym (decimal_last v h))

pub more_long : (v : ℕ) → 10 ≤ v → v < 2 ^ 32 → length (decimal (v / 10)) + 1 ≡ length (decimal v)
more_long v h l = sym (length-append (decimal (v / 10)) (digit_byte (v % 10) ∷ [])) ∙ ap length (decimal_more v h l)
