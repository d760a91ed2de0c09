-- A sheet of the link is read by the tree of its first number.
use mathlib.Core.Path.{◌≡◌, refl}
use mathlib.Core.Bool.{false, ◌&&◌}
use mathlib.Core.List.{List}
use Prim.Native.Nat.{ℕ, ◌+◌}
use native.Mathlib.Omega.{arith}
use borrow.Author.Tests.{eqb-true, eqb-false, leb-true}
use lib.Dec.{eqb, leb}
use lib.ListN.{length}
use Rattle.bits.proofs.Tests.{by_cases, and_left, and_right}
use Rattle.std.specs.Prelude.{Some, None, Option}
use Rattle.numbers.specs.Numbers.{number_in, groups_in}
use Rattle.format.specs.Format.{read, follow}
use Rattle.format.specs.Media.{sheet, numbered}
use Rattle.grammar.specs.link.Link.{tree_fields, tree_of, link_number, link_fields}
use Rattle.grammar.specs.internal.link.Trees.{tree_number_kind, tree_sheet, by_number, tree_of_sheet}

-- a number that is not n is not from n to n
other : (a n : ℕ) → (a ≡ n → ⊥) → (leb n a && leb a n) ≡ false
other a n d =
    by_cases (leb n a && leb a n)
    (λ e. absurd (d (let p = leb-true n a (and_left (leb n a) (leb a n) e) in let q = leb-true a n (and_right (leb n a) (leb a n) e) in omega arith)))
    (λ e. e)

-- reading on from the first number n, by the link's tree and by the tree that n chooses
by_first : (s : List ℕ) (n : Option ℕ) → follow 0 (numbered link_number n s) (λ i t. read sheet (tree_fields (tree_of i.packet)) (0 + length (groups_in i.sheet)) t)
    ≡ follow 0 (numbered (tree_number_kind (by_number n)) n s) (λ i t. read sheet (tree_fields (by_number n)) (0 + length (groups_in i.sheet)) t)
by_first s None = refl
by_first s (Some a) =
    by_cases (eqb a 4)
    (λ d. rw (eqb-true a 4 d))
    (λ d. by_cases (eqb a 6)
    (λ c. rw (eqb-true a 6 c))
    (λ c. rw (d, c, other a 6 (eqb-false a 6 c))))

pub sheet_by_tree : (s : List ℕ) → read sheet link_fields 0 s ≡ tree_sheet (tree_of_sheet s) s
unfolding link_fields
sheet_by_tree s = by_first s (number_in s)
