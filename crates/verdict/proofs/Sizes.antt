-- The size of what is written of the values that are read; and two equal verdicts have equal sizes, or equal numbers and places.
use mathlib.Core.Path.{◌≡◌, refl}
use mathlib.Core.List.{List, ◌∷◌}
use Prim.Native.Nat.{ℕ}
use native.Mathlib.Omega.{arith}
use lib.ListN.{length, length-append}
use Rattle.kinds.specs.declared.Item.{Item}
use Rattle.format.specs.Media.{sheet}
use Rattle.numbers.specs.Numbers.{groups_in}
use Rattle.grammar.specs.segment.Frame.{number_item}
use Rattle.grammar.specs.declared.link.Tree.{Tree}
use Rattle.grammar.specs.declared.link.Tree.TheVariants.{Segment, Journey}
use Rattle.grammar.specs.link.Link.{tree_number, tree_fields}
use Rattle.grammar.specs.internal.link.Trees.{tree_sheet_fields}
use Rattle.verdict.specs.internal.Verdict.{Verdict, size_from}

number_byte : (t : Tree) → length (groups_in (tree_number t)) ≡ 1
unfolding groups_in
number_byte Segment = refl
number_byte Journey = refl

-- the fields of a packet are the fields of a sheet after the packet number
pub size_first : (t : Tree) (l : List Item) → size_from sheet (tree_fields t) 1 l ≡ size_from sheet (tree_sheet_fields t) 0 (number_item (tree_number t) ∷ l)
size_first t l = rw length-append (omega (arith, number_byte t))

-- two equal verdicts have equal sizes, or equal numbers and places, and no acceptance is a refusal
pub record Sorts {B : Type 0} (accepts : ℕ → B) (refuses : ℕ → ℕ → B) : Type 0 where
  pub size : {m n : ℕ} → accepts m ≡ accepts n → m ≡ n
  pub number : {q r p place : ℕ} → refuses q p ≡ refuses r place → q ≡ r
  pub place : {q r p place : ℕ} → refuses q p ≡ refuses r place → p ≡ place
  pub apart : {r place n : ℕ} → refuses r place ≡ accepts n → ⊥

pub verdict_sorts : Sorts Verdict.sized Verdict.refused
verdict_sorts = record { size = λ e. cc; number = λ e. cc; place = λ e. cc; apart = λ e. let z : ◌≡◌ {A = ℕ} 0 1 = cc in omega arith }
