-- The frame of a packet, by the order of its refusals; and what is answered of a packet, from what is answered of its fields.
use mathlib.Core.Path.{◌≡◌, refl, sym, ap, ◌∙◌}
use mathlib.Core.Bool.{Bool, true, false}
use mathlib.Core.List.{List, [], ◌∷◌}
use mathlib.Core.Option.{Option, none, some}
use Prim.Native.Nat.{ℕ, suc, ◌+◌, ◌*◌, ◌-◌, ◌/◌, ◌^◌, ◌<◌, ◌≤◌}
use native.Mathlib.Nat.{pow-suc}
use native.Mathlib.Omega.{arith}
use borrow.Author.Tests.{lt-ltb, le-ltb, eq-eqb, ne_eqb, eqb-true}
use lib.Count.{count_leading_zeros, leading_unique}
use lib.Dec.{eqb, ltb}
use lib.ListN.{length, drop, length-drop}
use lib.Seq.{take_all}
use Rattle.bits.specs.Bits.{number, bits_of_bytes, field_at}
use Rattle.bits.proofs.Tests.{by_cases}
use Rattle.bits.proofs.Spelling.{number_small}
use Rattle.bits.proofs.Padding.{length_bytes_lem}
use Rattle.bits.proofs.Fields.{field_small}
use Rattle.kinds.specs.declared.Item.{Item}
use Rattle.format.specs.Format.{Format, Read, accepted, refused, read, answer_of}
use Rattle.format.specs.Media.{packet}
use Rattle.grammar.specs.segment.Frame.{packet_number, body_bits, first_one, number_item, padded, unframed}
use Rattle.format.specs.internal.Places.{bits_between, Placed}
use Rattle.verdict.specs.internal.Verdict.{Verdict}
use Rattle.verdict.specs.internal.frame.Framed.{frame_of, one_or_end}

module _ (n : ℕ) (s : List ℕ) where
  pub frame_short : length s < 15 → Verdict.refused 1 0 ≡ frame_of n s
  frame_short h = rw (lt-ltb (length s) 15 h)

  module _ (h : 15 ≤ length s) where
    pub frame_number : (packet_number s ≡ n → ⊥) → Verdict.refused 2 0 ≡ frame_of n s
    frame_number d = rw (le-ltb (length s) 15 h, ne_eqb (packet_number s) n d)

    module _ (d : packet_number s ≡ n) where
      pub frame_end : length s ≡ 15 + (body_bits s + 7) / 8 → Verdict.sized (120 + body_bits s) ≡ frame_of n s
      frame_end l = rw (le-ltb (length s) 15 h, eq-eqb (packet_number s) n d, eq-eqb (length s) (15 + (body_bits s + 7) / 8) l)

      pub frame_length : (length s ≡ 15 + (body_bits s + 7) / 8 → ⊥) → Verdict.refused 3 0 ≡ frame_of n s
      frame_length l = rw (le-ltb (length s) 15 h, eq-eqb (packet_number s) n d, ne_eqb (length s) (15 + (body_bits s + 7) / 8) l)

  -- a refusal of the frame has the place 0
  pub frame_place : {r place : ℕ} → Verdict.refused r place ≡ frame_of n s → place ≡ 0
  frame_place {r} {place} e =
      by_cases (ltb (length s) 15) (λ a. let q : Verdict.refused r place ≡ Verdict.refused 1 0 = rw a at e in cc) λ a.
      by_cases (eqb (packet_number s) n) (λ b.
      by_cases (eqb (length s) (15 + (body_bits s + 7) / 8))
      (λ c. let q : Verdict.refused r place ≡ Verdict.sized (120 + body_bits s) = rw (a, b, c) at e in absurd (let z : ◌≡◌ {A = ℕ} 0 1 = cc in omega arith))
      (λ c. let q : Verdict.refused r place ≡ Verdict.refused 3 0 = rw (a, b, c) at e in cc))
      (λ b. let q : Verdict.refused r place ≡ Verdict.refused 2 0 = rw (a, b) at e in cc)

  -- what is known of a packet whose frame is whole
  pub record Whole (stop : ℕ) : Type 0 where
    pub ends : stop ≡ 120 + body_bits s
    pub placed : Placed s 24 stop
    pub near : 8 * length s < stop + 8
    pub inside : stop ≤ 8 * length s
    pub few : 8 * length s < 2 ^ 32

  pub refused_not_end : {C : Type 0} (r stop : ℕ) → Verdict.refused r 0 ≡ Verdict.sized stop → C
  refused_not_end r stop e = absurd (let z : ◌≡◌ {A = ℕ} 0 1 = cc in omega arith)

  pub whole : (stop : ℕ) → Verdict.sized stop ≡ frame_of n s → Whole stop
  whole stop e =
      by_cases (ltb (length s) 15) (λ a. refused_not_end 1 stop (rw a at (sym e))) λ a.
      by_cases (eqb (packet_number s) n) (λ b.
      by_cases (eqb (length s) (15 + (body_bits s + 7) / 8)) (λ c.
      let f : Verdict.sized stop ≡ Verdict.sized (120 + body_bits s) = rw (a, b, c) at e in
      let q : stop ≡ 120 + body_bits s = cc in
      let l : length s ≡ 15 + (body_bits s + 7) / 8 = eqb-true (length s) (15 + (body_bits s + 7) / 8) c in
      let m : body_bits s < 2 ^ 16 = field_small s 8 16 16 (omega arith) in
      record { ends = q; placed = record { before = omega arith; inside = omega arith; few = omega arith }; near = omega arith; inside = omega arith; few = omega arith })
      (λ c. refused_not_end 3 stop (rw (a, b, c) at (sym e))))
      (λ b. refused_not_end 2 stop (rw (a, b) at (sym e)))

  -- the fields of a packet whose frame is whole, and its padding
  pub packet_fields : (f : Format) (stop : ℕ) → Verdict.sized stop ≡ frame_of n s
      → unframed n f s ≡ padded n (first_one stop (drop stop (bits_of_bytes s))) (read packet f 24 (bits_between s 24 stop))
  packet_fields f stop e =
      let w = whole stop e in
      by_cases (ltb (length s) 15) (λ a. refused_not_end 1 stop (rw a at (sym e))) λ a.
      by_cases (eqb (packet_number s) n) (λ b.
      by_cases (eqb (length s) (15 + (body_bits s + 7) / 8)) (λ c.
      let p : 120 + body_bits s - 24 ≡ 96 + body_bits s = omega arith in
      rw (a, b, c, w.ends, p))
      (λ c. refused_not_end 3 stop (rw (a, b, c) at (sym e))))
      (λ b. refused_not_end 2 stop (rw (a, b) at (sym e)))

-- ---- padding bits, as one number

-- the first 1, by the leading zeros of the number
leading_one : (at : ℕ) (t : List Bool) → length t ≤ 32 → one_or_end at t + (32 - count_leading_zeros 32 (number t)) ≡ at + length t
leading_one at [] h = let z : 32 ≡ count_leading_zeros 32 0 = leading_unique 32 0 32 0 refl (omega arith) (omega arith) in omega arith
leading_one at (true ∷ t) h =
    let p : 2 ^ suc (length t) ≡ 2 * 2 ^ length t = pow-suc 2 (length t) ∙ omega arith in
    let n : number t < 2 ^ length t = number_small t in
    let z : 31 - length t ≡ count_leading_zeros 32 (number (true ∷ t)) =
    leading_unique 32 (number (true ∷ t)) (31 - length t) (suc (length t)) (omega arith) (omega arith) (omega arith) in
    omega arith
leading_one at (false ∷ t) h = let z : number (false ∷ t) ≡ number t = omega arith in rw z (leading_one (at + 1) t (omega arith) ∙ omega arith)

one_none : (at : ℕ) (t : List Bool) → one_or_end at t ≡ at + length t → first_one at t ≡ none
one_none at [] e = refl
one_none at (true ∷ t) e = absurd (omega arith)
one_none at (false ∷ t) e = one_none (at + 1) t (omega arith)

one_some : (at : ℕ) (t : List Bool) → (one_or_end at t ≡ at + length t → ⊥) → first_one at t ≡ some (one_or_end at t)
one_some at [] h = absurd (h (omega arith))
one_some at (true ∷ t) h = refl
one_some at (false ∷ t) h = one_some (at + 1) t (λ e. h (omega arith))

one_most : (at : ℕ) (t : List Bool) → one_or_end at t ≤ at + length t
one_most at [] = omega arith
one_most at (true ∷ t) = omega arith
one_most at (false ∷ t) = omega (arith, one_most (at + 1) t)

module _ (s : List ℕ) (stop : ℕ) where
  padding_length : length (drop stop (bits_of_bytes s)) ≡ 8 * length s - stop
  padding_length = rw (length-drop, length_bytes_lem)

  padding_number : field_at s stop (8 * length s - stop) ≡ number (drop stop (bits_of_bytes s))
  unfolding field_at
  padding_number = ap number (take_all (8 * length s - stop) (drop stop (bits_of_bytes s)) (omega (arith, padding_length)))

  pub one_inside : stop ≤ 8 * length s → one_or_end stop (drop stop (bits_of_bytes s)) ≤ 8 * length s
  one_inside h = omega (arith, one_most stop (drop stop (bits_of_bytes s)), padding_length)

  pub leading_place : stop ≤ 8 * length s → 8 * length s < stop + 8 → (v : ℕ) → v ≡ field_at s stop (8 * length s - stop)
      → one_or_end stop (drop stop (bits_of_bytes s)) + (32 - count_leading_zeros 32 v) ≡ 8 * length s
  leading_place h near v e =
      let p = padding_length in
      rw (e, padding_number) (leading_one stop (drop stop (bits_of_bytes s)) (omega arith) ∙ omega arith)

-- ---- what is answered of a packet, from what is answered of its fields

module _ {B : Type 0} (refusal : ℕ → ℕ → B) (value : List Item → B) (n : ℕ) (f : Format) where
  abbrev pub fields_answer : Read → B
  fields_answer r = answer_of refusal (λ l. value (number_item n ∷ l)) r

  refused_on : (one : Option ℕ) (q : Read) {r place : ℕ} → refusal r place ≡ fields_answer q → ((l : List Item) → refusal r place ≡ value l → ⊥)
      → refusal r place ≡ answer_of refusal value (padded n one q)
  refused_on one (accepted l) e h = absurd (h (number_item n ∷ l) e)
  refused_on none (refused q p) e h = e
  refused_on (some o) (refused q p) e h = e

  accepted_on : (q : Read) → fields_answer q ≡ answer_of refusal value (padded n none q)
  accepted_on (accepted l) = refl
  accepted_on (refused q p) = refl

  padding_on : (place : ℕ) (q : Read) {a : B} → a ≡ fields_answer q → ((r p : ℕ) → refusal r p ≡ a → ⊥)
      → refusal 7 place ≡ answer_of refusal value (padded n (some place) q)
  padding_on place (accepted l) e h = refl
  padding_on place (refused q p) e h = absurd (h q p (sym e))

  module _ (s : List ℕ) where
    -- a refusal of the frame is the packet's
    pub packet_frame : {r place : ℕ} → Verdict.refused r place ≡ frame_of n s → refusal r place ≡ answer_of refusal value (unframed n f s)
    packet_frame {r} {place} e =
        by_cases (ltb (length s) 15)
        (λ a. let q : Verdict.refused r place ≡ Verdict.refused 1 0 = rw a at e in let p : r ≡ 1 = cc in let o : place ≡ 0 = cc in rw (a, p, o)) λ a.
        by_cases (eqb (packet_number s) n) (λ b.
        by_cases (eqb (length s) (15 + (body_bits s + 7) / 8))
        (λ c. let q : Verdict.refused r place ≡ Verdict.sized (120 + body_bits s) = rw (a, b, c) at e in absurd (let z : ◌≡◌ {A = ℕ} 0 1 = cc in omega arith))
        (λ c. let q : Verdict.refused r place ≡ Verdict.refused 3 0 = rw (a, b, c) at e in let p : r ≡ 3 = cc in let o : place ≡ 0 = cc in rw (a, b, c, p, o)))
        (λ b. let q : Verdict.refused r place ≡ Verdict.refused 2 0 = rw (a, b) at e in let p : r ≡ 2 = cc in let o : place ≡ 0 = cc in rw (a, b, p, o))

    module _ (stop : ℕ) (e : Verdict.sized stop ≡ frame_of n s) where
      abbrev fields_read : Read
      fields_read = read packet f 24 (bits_between s 24 stop)

      abbrev bits : List Bool
      bits = drop stop (bits_of_bytes s)

      ends : stop + length bits ≡ 8 * length s
      ends = let w = whole n s stop e in omega (arith, padding_length s stop, w.inside)

      pub packet_refused : {r place : ℕ} → refusal r place ≡ fields_answer fields_read → ((l : List Item) → refusal r place ≡ value l → ⊥)
          → refusal r place ≡ answer_of refusal value (unframed n f s)
      packet_refused v h = rw (packet_fields n s f stop e) (refused_on (first_one stop bits) fields_read v h)

      pub packet_accepted : {a : B} → a ≡ fields_answer fields_read → one_or_end stop bits ≡ 8 * length s → a ≡ answer_of refusal value (unframed n f s)
      packet_accepted v z = rw (packet_fields n s f stop e, one_none stop bits (z ∙ sym ends)) (v ∙ accepted_on fields_read)

      pub packet_padding : {a : B} → a ≡ fields_answer fields_read → ((r p : ℕ) → refusal r p ≡ a → ⊥) → (one_or_end stop bits ≡ 8 * length s → ⊥)
          → refusal 7 (one_or_end stop bits) ≡ answer_of refusal value (unframed n f s)
      packet_padding v h z =
          rw (packet_fields n s f stop e, one_some stop bits (λ q. z (q ∙ ends))) (padding_on (one_or_end stop bits) fields_read v h)
