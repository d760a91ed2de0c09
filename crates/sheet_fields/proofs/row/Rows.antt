-- A row from its field i on, whatever the pass carries: one more field, a field refused, and no field left.
use Rattle.std.proofs.Common.{◌≡◌, ℕ, ◌+◌, ◌<◌, ◌≤◌, List, length, get_or, drop, add-one, arith, drop_of_length-le, drop-cons}
use Rattle.kinds.specs.Kind.{up_to}
use Rattle.format.specs.Format.{Format, then}
use Rattle.format.specs.internal.Ways.{Way, Went, Got, Over, Took, Left}
use Rattle.format.proofs.Ways.{left_as, left_none, left_value, left_refused}
use Rattle.grammar.specs.internal.rows.Rows.{row}

module _ (ws ms : List ℕ) (i : ℕ) where
  abbrev from : ℕ → Format → Format
  from j f = row (drop j ws) (drop j ms) f

  row_more : i < length ws → length ws ≡ length ms → (f : Format) → from i f ≡ then (up_to (get_or ws i 0) (get_or ms i 0)) (from (i + 1) f)
  unfolding row
  row_more h e f = let l : i < length ms = omega arith in rw (add-one, drop-cons ws i 0 h, drop-cons ms i 0 l)

  row_none : length ws ≤ i → (f : Format) → from i f ≡ f
  unfolding row
  row_none h f = rw (drop_of_length-le ws {i = i} h)

  module _ {X B : Type 0} {w : Way X B} {p : Format → Format} {at to : ℕ} {x y : X} (l : Left w p (from i) at x to y) where
    pub row_end : length ws ≤ i → Over w p at x (Went.on to y)
    row_end h = left_none (left_as (λ f. f) (row_none h) l)

    module _ (h : i < length ws) (e : length ws ≡ length ms) where
      more : Left w p (λ f. then (up_to (get_or ws i 0) (get_or ms i 0)) (from (i + 1) f)) at x to y
      more = left_as (λ f. then (up_to (get_or ws i 0) (get_or ms i 0)) (from (i + 1) f)) (row_more h e) l

      pub row_on : {v a : ℕ} {z : X} → Took w (up_to (get_or ws i 0) (get_or ms i 0)) to y (Got.is v a z) → Left w p (from (i + 1)) at x a z
      row_on t = left_value (λ v. from (i + 1)) more t

      pub row_off : {r place : ℕ} → Took w (up_to (get_or ws i 0) (get_or ms i 0)) to y (Got.off r place) → Over w p at x (Went.off r place)
      row_off t = left_refused (λ v. from (i + 1)) more t
