-- One change of a list, in any pass: a location, an element, and what is left of the list.
use Prim.Native.Nat.{ℕ, ◌-◌, ◌<◌}
use Rattle.kinds.specs.Kinds.{d_location}
use Rattle.format.specs.Format.{Format, field}
use Rattle.format.specs.internal.Ways.{Way, Went, Got, Over, Took, Left}
use Rattle.format.proofs.Ways.{left_as, left_on, left_off, left_value, left_refused}
use Rattle.grammar.specs.segment.Segment.{changes}
use Rattle.grammar.proofs.segment.Parts.{changes_more}

module _ {X B : Type 0} {w : Way X B} {p : Format → Format} (start : Format → Format) (lsp last left : ℕ) {at to : ℕ} {x y : X} (some : 0 < left)
    (here : Left w p (changes start lsp last left) at x to y) where
  change : Left w p (λ f. field (d_location last lsp) (λ u. start (changes start lsp u (left - 1) f))) at x to y
  change = left_as (λ f. field (d_location last lsp) (λ u. start (changes start lsp u (left - 1) f))) (changes_more start lsp last left some) here

  pub location_off : {r place : ℕ} → Took w (d_location last lsp) to y (Got.off r place) → Over w p at x (Went.off r place)
  location_off t = left_refused (λ u f. start (changes start lsp u (left - 1) f)) change t

  module _ {v a : ℕ} {z : X} (t : Took w (d_location last lsp) to y (Got.is v a z)) where
    element : Left w p (λ f. start (changes start lsp v (left - 1) f)) at x a z
    element = left_value (λ u f. start (changes start lsp u (left - 1) f)) change t

    pub element_off : {r place : ℕ} → Over w start a z (Went.off r place) → Over w p at x (Went.off r place)
    element_off o = left_off start (changes start lsp v (left - 1)) element o

    pub element_on : {b : ℕ} {u : X} → Over w start a z (Went.on b u) → Left w p (changes start lsp v (left - 1)) at x b u
    element_on o = left_on start (changes start lsp v (left - 1)) element o
