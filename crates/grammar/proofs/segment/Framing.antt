-- The frame, for every format whose bits L_PACKET_ATO can count: a framed packet is read as its values, and nothing else is accepted.
use mathlib.Core.Path.{◌≡◌, refl, sym, ap, ap₂, ◌∙◌}
use mathlib.Core.Bool.{Bool, true, false}
use mathlib.Core.List.{List, [], ◌∷◌, ◌++◌, append_assoc}
use mathlib.Core.Option.{Option, none, some}
use Prim.Native.Nat.{ℕ, zero, suc, ◌+◌, ◌*◌, ◌-◌, ◌/◌, ◌^◌, ◌<◌, ◌≤◌}
use native.Mathlib.Nat.{mod-eq_of_lt}
use native.Mathlib.Omega.{arith}
use borrow.Author.Tests.{eqb-true, le-ltb, ltb-false, eq-eqb}
use lib.Dec.{ltb, eqb}
use lib.ListN.{length, take, drop, length-append, length-drop}
use lib.Seq.{take_at, drop_at, length-take-le, take-add, drop-drop}
use Rattle.bits.specs.Bits.{Bytes, bits_of, bits_of_bytes, bytes_of_bits, field_at, fill}
use Rattle.bits.proofs.Tests.{by_cases}
use Rattle.bits.proofs.Spelling.{length_bits, number_bits, bits_number}
use Rattle.bits.proofs.Fields.{field_small}
use Rattle.bits.proofs.Padding.{zeros, fill_zeros, length_pack, length_bytes_lem, unpack, pack_fill, pack_bytes}
use Rattle.kinds.specs.declared.Item.{Item}
use Rattle.format.specs.Format.{Format, Read, accepted, refused, read, write}
use Rattle.format.specs.Media.{packet}
use Rattle.format.specs.Conforming.{Conforming, InPacket}
use Rattle.format.proofs.Media.{packet_again, packet_only}
use Rattle.grammar.specs.segment.Frame.{packet_number, body_bits, field_bits, padding, first_one, number_item, padded, unframed, frame, packet_of_bits}

pub frame_length : (n : ℕ) (b : List Bool) → length (frame n b) ≡ 24 + length b
frame_length n b =
    length-append (bits_of 8 n) (bits_of 16 (length b - 96) ++ b) ∙ ap (λ (x : ℕ). 8 + x) (length-append (bits_of 16 (length b - 96)) b) ∙ omega arith

pub framed_length : (n : ℕ) (b : List Bool) → length (packet_of_bits n b) ≡ (24 + length b + 7) / 8
framed_length n b = length_pack ((length (frame n b) + 7) / 8) (frame n b) ∙ rw (frame_length n b)

-- ---- zero bits

no_one : (n at : ℕ) → first_one at (zeros n) ≡ none
unfolding zeros
no_one zero at = refl
no_one (suc n) at = no_one n (at + 1)

all_zero : (at : ℕ) (s : List Bool) → first_one at s ≡ none → fill (length s) [] ≡ s
all_zero at [] e = refl
all_zero at (true ∷ s) e = cc
all_zero at (false ∷ s) e = ap (λ (l : List Bool). false ∷ l) (all_zero (at + 1) s e)

-- bits whose padding is zero are their front, filled up
fill_front : (at : ℕ) (s : List Bool) (m : ℕ) → first_one at (drop m s) ≡ none → fill (length s) (take m s) ≡ s
fill_front at s zero e = all_zero at s e
fill_front at [] (suc m) e = refl
fill_front at (b ∷ s) (suc m) e = ap (λ (l : List Bool). b ∷ l) (fill_front at s m e)

-- bytes whose bits past the first m are zero are the bytes of the first m
bytes_only : (s : List ℕ) (m : ℕ) → Bytes s → m ≤ 8 * length s → (m + 7) / 8 ≡ length s → first_one m (drop m (bits_of_bytes s)) ≡ none
    → bytes_of_bits (take m (bits_of_bytes s)) ≡ s
bytes_only s m ok h n e =
    let x = bits_of_bytes s in
    let l : length (take m x) ≡ m = length-take-le m x (rw length_bytes_lem h) in
    rw (l, n, ← pack_fill (length s) (take m x), ← length_bytes_lem s, fill_front m x m e) (pack_bytes s ok)

-- ---- read after write

-- a field in front is read as the number that its bits are of
field_front : (s : List ℕ) (at w v : ℕ) (q : List Bool) → drop at (bits_of_bytes s) ≡ bits_of w v ++ q → v < 2 ^ w → field_at s at w ≡ v
unfolding field_at
field_front s at w v q e h = rw (e, take_at (bits_of w v) q w (length_bits w v), number_bits w v) (mod-eq_of_lt h)

module _ (n : ℕ) (b : List Bool) (low : 96 ≤ length b) (high : length b < 96 + 2 ^ 16) (small : n < 256) where
  size : ℕ
  size = (length (frame n b) + 7) / 8

  pad : List Bool
  pad = zeros (8 * size - length (frame n b))

  framed_bits : bits_of_bytes (packet_of_bits n b) ≡ bits_of 8 n ++ (bits_of 16 (length b - 96) ++ (b ++ pad))
  unfolding size pad
  framed_bits =
      unpack size (frame n b) ∙ fill_zeros (frame n b) (8 * size) (omega arith)
      ∙ append_assoc (bits_of 8 n) (bits_of 16 (length b - 96) ++ b) pad
      ∙ ap (λ (l : List Bool). bits_of 8 n ++ l) (append_assoc (bits_of 16 (length b - 96)) b pad)

  after_8 : drop 8 (bits_of_bytes (packet_of_bits n b)) ≡ bits_of 16 (length b - 96) ++ (b ++ pad)
  after_8 = rw framed_bits (drop_at (bits_of 8 n) (bits_of 16 (length b - 96) ++ (b ++ pad)) 8 (length_bits 8 n))

  after_24 : drop 24 (bits_of_bytes (packet_of_bits n b)) ≡ b ++ pad
  after_24 =
      sym (drop-drop 16 8 (bits_of_bytes (packet_of_bits n b))) ∙ ap (drop 16) after_8
      ∙ drop_at (bits_of 16 (length b - 96)) (b ++ pad) 16 (length_bits 16 (length b - 96))

  pub framed_number : packet_number (packet_of_bits n b) ≡ n
  framed_number = field_front (packet_of_bits n b) 0 8 n (bits_of 16 (length b - 96) ++ (b ++ pad)) framed_bits small

  framed_body : body_bits (packet_of_bits n b) ≡ length b - 96
  framed_body = field_front (packet_of_bits n b) 8 16 (length b - 96) (b ++ pad) after_8 (omega arith)

  framed_fields : field_bits (packet_of_bits n b) ≡ b
  framed_fields = let e : 96 + (length b - 96) ≡ length b = omega arith in rw (framed_body, e, after_24) (take_at b pad (length b) refl)

  framed_padding : (at : ℕ) → first_one at (padding (packet_of_bits n b)) ≡ none
  unfolding pad
  framed_padding at =
      let e : 120 + (length b - 96) ≡ 24 + length b = omega arith in
      rw (framed_body, e, ← drop-drop (length b) 24 (bits_of_bytes (packet_of_bits n b)), after_24, drop_at b (zeros (8 * size - length (frame n b))) (length b) refl)
      (no_one (8 * size - length (frame n b)) at)

-- a framed packet is accepted, with the values that it was written of
pub framed_again : (n : ℕ) (f : Format) (l : List Item) → n < 256 → Conforming InPacket f l
    → 96 ≤ length (write packet f l) → length (write packet f l) < 96 + 2 ^ 16
    → unframed n f (packet_of_bits n (write packet f l)) ≡ accepted (number_item n ∷ l)
framed_again n f l small c low high =
    let b = write packet f l in
    let long : length (packet_of_bits n b) ≡ (24 + length b + 7) / 8 = framed_length n b in
    rw (
      framed_padding n b low high small (120 + body_bits (packet_of_bits n b)),
      framed_fields n b low high small,
      framed_number n b low high small,
      framed_body n b low high small,
      packet_again c 24,
      le-ltb (length (packet_of_bits n b)) 15 (omega arith),
      eq-eqb n n refl,
      eq-eqb (length (packet_of_bits n b)) (15 + (length b - 96 + 7) / 8) (omega arith),
    )

-- ---- write after read

pub padded_accepted : {C : Type 0} (n : ℕ) (one : Option ℕ) (r : Read) (l : List Item) → padded n one r ≡ accepted l
    → ((m : List Item) → r ≡ accepted m → one ≡ none → l ≡ number_item n ∷ m → C) → C
padded_accepted n one (refused r place) l e f = cc
padded_accepted n none (accepted m) l e f = f m refl refl (cc)
padded_accepted n (some place) (accepted m) l e f = cc

pub record Framed (n : ℕ) (f : Format) (s : List ℕ) (l : List Item) : Type 0 where
  pub values : List Item
  pub all : l ≡ number_item n ∷ values
  pub good : Conforming InPacket f values
  pub bytes : s ≡ packet_of_bits n (write packet f values)
  pub few : length (write packet f values) ≤ 96 + 65535

-- a field of the frame is spelled by its bits
field_bits_lem : (s : List ℕ) (at w : ℕ) → at + w ≤ 8 * length s → bits_of w (field_at s at w) ≡ take w (drop at (bits_of_bytes s))
unfolding field_at
field_bits_lem s at w h =
    let t = take w (drop at (bits_of_bytes s)) in
    let e : length t ≡ w = length-take-le w (drop at (bits_of_bytes s)) (rw (length-drop, length_bytes_lem) (omega arith)) in
    rw e at (bits_number t)

frame_bits : (s : List ℕ) → 15 ≤ length s → bits_of 8 (packet_number s) ++ (bits_of 16 (body_bits s) ++ field_bits s) ≡ take (120 + body_bits s) (bits_of_bytes s)
frame_bits s h =
    let x = bits_of_bytes s in
    let m : ℕ = 96 + body_bits s in
    let e : 120 + body_bits s ≡ 8 + (16 + m) = omega arith in
    ap₂ (λ (p q : List Bool). p ++ q) (field_bits_lem s 0 8 (omega arith)) (ap₂ (λ (p q : List Bool). p ++ take m q) (field_bits_lem s 8 16 (omega arith)) (sym (drop-drop 16 8 x)))
    ∙ sym (ap (λ (k : ℕ). take k x) e ∙ take-add 8 (16 + m) x ∙ ap (λ (l : List Bool). take 8 x ++ l) (take-add 16 m (drop 8 x)))

-- an accepted packet is the frame of the values read, and no other bytes are
pub framed_only : (n : ℕ) (f : Format) (s : List ℕ) (l : List Item) → Bytes s → unframed n f s ≡ accepted l → Framed n f s l
framed_only n f s l ok e =
    let m : ℕ = body_bits s in
    by_cases (ltb (length s) 15) (λ a. cc (rw a at e)) λ a.
    by_cases (eqb (packet_number s) n) (λ b.
    by_cases (eqb (length s) (15 + (m + 7) / 8)) (λ c.
    padded_accepted n (first_one (120 + m) (padding s)) (read packet f 24 (field_bits s)) l (rw (a, b, c) at e) λ v p zero q.
    let r = packet_only f 24 (field_bits s) v p in
    let long : 15 ≤ length s = ltb-false (length s) 15 a in
    let size : length s ≡ 15 + (m + 7) / 8 = eqb-true (length s) (15 + (m + 7) / 8) c in
    let number : packet_number s ≡ n = eqb-true (packet_number s) n b in
    let room : 120 + m ≤ 8 * length s = omega arith in
    let count : length (field_bits s) ≡ 96 + m = length-take-le (96 + m) (drop 24 (bits_of_bytes s)) (rw (length-drop, length_bytes_lem) (omega arith)) in
    let body : length (field_bits s) - 96 ≡ m = omega arith in
    let whole : frame n (field_bits s) ≡ take (120 + m) (bits_of_bytes s) =
    ap₂ (λ (a b : ℕ). bits_of 8 a ++ (bits_of 16 b ++ field_bits s)) (sym number) body ∙ frame_bits s long in
    record {
      values = v;
      all = q;
      good = r.0;
      bytes = rw (← r.1) (sym (bytes_only s (120 + m) ok room (omega arith) zero) ∙ ap bytes_of_bits (sym whole));
      few = rw (← r.1) (omega (arith, field_small s 8 16 16 (omega arith)));
    })
    (λ c. cc (rw (a, b, c) at e)))
    (λ b. cc (rw (a, b) at e))
