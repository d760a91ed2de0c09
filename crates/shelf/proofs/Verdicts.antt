-- What the code reads of a sheet: its verdict, its key and the length of its entry.
use mathlib.Core.Path.{◌≡◌, refl, sym, ap, ◌∙◌}
use mathlib.Core.List.{List}
use mathlib.Core.Option.{none}
use Prim.Native.Nat.{ℕ, ◌+◌, ◌*◌, ◌-◌, ◌%◌, ◌≤◌, ◌<◌}
use native.Mathlib.Omega.{arith}
use borrow.Author.Tests.{lt-ltb, le-ltb}
use lib.Dec.{lit<}
use lib.ListN.{length, take, drop, get_or, length-drop}
use lib.Seq.{get_or-drop}
use Rattle.std.specs.Prelude.{Ok, Err}
use Rattle.bits.specs.Bits.{Bytes}
use Rattle.kinds.specs.declared.refusals.Refusal.TheVariants.{NoShelf}
use Rattle.format.specs.Format.{refused}
use Rattle.format.specs.Media.{packet}
use Rattle.grammar.specs.segment.Segment.{fields, sheet_fields, wire_changes}
use Rattle.grammar.specs.segment.Judgement.{from_sheet}
use Rattle.grammar.specs.declared.link.Tree.TheVariants.{Segment}
use Rattle.grammar.specs.internal.link.Trees.{tree_sheet_fields}
use Rattle.verdict.specs.internal.Verdict.{Verdict, size_from, sheet_verdict}
use Rattle.verdict.proofs.Sizes.{verdict_sorts}
use Rattle.verdict.proofs.Accepted.{verdict_accepted, verdict_refused}
use Rattle.speed_sheet.specs.internal.Asking.{counted_at, number_end, numbers_end, NumberAt, Numbers}
use Rattle.speed_sheet.proofs.Parts.{head_numbers, head_values}
use Rattle.shelf.specs.declared.Key.{Key}
use Rattle.shelf.specs.Shelf.{key_read, sheet_key, length_in, front_sheet}
use Rattle.shelf.specs.internal.Scanning.{AcceptedSheet, accepted_key, sheet_end}
use Rattle.shelf.proofs.Scanning.{between, accepted_key_lem}

-- ---- the verdict

module _ (s : List ℕ) where
  pub refused_read : (q place : ℕ) → Verdict.refused q place ≡ sheet_verdict Segment s → from_sheet wire_changes s ≡ refused q place
  unfolding sheet_verdict from_sheet fields sheet_fields
  refused_read q place e = verdict_refused verdict_sorts (size_from packet (tree_sheet_fields Segment) 0) (from_sheet wire_changes s) q place e

  pub accepted_read : (n : ℕ) → Verdict.sized n ≡ sheet_verdict Segment s → AcceptedSheet s
  unfolding sheet_verdict from_sheet fields sheet_fields
  accepted_read n e = verdict_accepted verdict_sorts (size_from packet (tree_sheet_fields Segment) 0) (from_sheet wire_changes s) n e λ p q. p

  refused_key : (q place : ℕ) → from_sheet wire_changes s ≡ refused q place → sheet_key s ≡ none
  unfolding sheet_key
  refused_key q place e = ap key_read e

-- ---- the key

module _ (s : List ℕ) (e : AcceptedSheet s) (ok : Bytes s) where
  pub header_numbers : Numbers s 1 5
  header_numbers = record { ok = ok; here = λ i h. (head_numbers s e ok).here i (omega arith) }

  pub key_read_lem : {at b c d f v w x y : ℕ} → at ≡ numbers_end s 1 5 → NumberAt s at b v → NumberAt s b c w → NumberAt s c d x → NumberAt s d f y
      → ◌≡◌ {A = Key} (record { nid_c = v; nid_sp = w; major = x; minor = y }) (accepted_key s)
  key_read_lem {at} {b} {c} {d} r h i j k =
      let p : b ≡ numbers_end s 1 6 = h.next ∙ ap (number_end s) r in
      let q : c ≡ numbers_end s 1 7 = i.next ∙ ap (number_end s) p in
      let t : d ≡ numbers_end s 1 8 = j.next ∙ ap (number_end s) q in
      let first = h.value ∙ ap (λ (n : ℕ). counted_at s n % 4294967296) r ∙ sym (head_values s e ok 5 (lit< tt)) in
      let second = i.value ∙ ap (λ (n : ℕ). counted_at s n % 4294967296) p ∙ sym (head_values s e ok 6 (lit< tt)) in
      let third = j.value ∙ ap (λ (n : ℕ). counted_at s n % 4294967296) q ∙ sym (head_values s e ok 7 (lit< tt)) in
      let fourth = k.value ∙ ap (λ (n : ℕ). counted_at s n % 4294967296) t ∙ sym (head_values s e ok 8 (lit< tt)) in
      λ m. record { nid_c = first m; nid_sp = second m; major = third m; minor = fourth m }

-- ---- the length

pub length_is : (s : List ℕ) (at : ℕ) {a b c d : ℕ} → a ≡ get_or s at 0 → b ≡ get_or s (at + 1) 0 → c ≡ get_or s (at + 2) 0 → d ≡ get_or s (at + 3) 0
    → (a * 256 + b) * 65536 + (c * 256 + d) ≡ length_in (drop at s)
length_is s at p q r t =
    let n : at + 0 ≡ at = omega arith in
    omega (arith, p, q, r, t, get_or-drop at s 0 0 ∙ ap (λ (i : ℕ). get_or s i 0) n, get_or-drop at s 1 0, get_or-drop at s 2 0, get_or-drop at s 3 0)

-- ---- the end of an entry

module _ (u : List ℕ) (at : ℕ) (i : at ≤ length u) where
  abbrev s : List ℕ
  s = drop at u

  pub end_short : length u - at < 4 → Err NoShelf ≡ sheet_end u at
  end_short h = rw (lt-ltb (length s) (4 + length_in s) (omega (arith, length-drop at u)))

  module _ {n : ℕ} (e : n ≡ length_in s) (l : 4 ≤ length u - at) where
    pub end_cut : length u - (at + 4) < n → Err NoShelf ≡ sheet_end u at
    end_cut h = rw (lt-ltb (length s) (4 + length_in s) (omega (arith, length-drop at u)))

    module _ (h : n ≤ length u - (at + 4)) where
      fits : 4 + length_in s ≤ length s
      fits = omega (arith, length-drop at u, e)

      sheet_is : take (at + 4 + n - (at + 4)) (drop (at + 4) u) ≡ front_sheet s
      sheet_is = between u at refl (ap (λ (m : ℕ). at + 4 + m) e)

      pub end_refused : (q place : ℕ) → Verdict.refused q place ≡ sheet_verdict Segment (take (at + 4 + n - (at + 4)) (drop (at + 4) u)) → Err NoShelf ≡ sheet_end u at
      end_refused q place v =
          let k : sheet_key (front_sheet s) ≡ none = refused_key (front_sheet s) q place (refused_read (front_sheet s) q place (rw sheet_is at v)) in
          rw (le-ltb (length s) (4 + length_in s) fits, k)

      pub end_accepted : (m : ℕ) → Verdict.sized m ≡ sheet_verdict Segment (take (at + 4 + n - (at + 4)) (drop (at + 4) u)) → Ok (at + 4 + n) ≡ sheet_end u at
      end_accepted m v =
          let k = accepted_key_lem (front_sheet s) (accepted_read (front_sheet s) m (rw sheet_is at v)) in
          rw (le-ltb (length s) (4 + length_in s) fits, k, e)
