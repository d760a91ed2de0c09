-- The two tables of figures, and the kind of a field that is a place in a table.
use Rattle.std.specs.Prelude.{cond, List, [], ◌∷◌, ℕ, suc, ◌-◌, max, eqb, ltb, length, get_or}
use Rattle.std.proofs.Math.Option.{Option, none, some}
use Rattle.kinds.specs.Kind.{Kind}

-- "mm: 80, 100, 130, 150, 165, 180, 210, 225, 245, 275, 300" stand for "0 to 10 in that order"
abbrev pub cant_figures : List ℕ
cant_figures = 80 ∷ 100 ∷ 130 ∷ 150 ∷ 165 ∷ 180 ∷ 210 ∷ 225 ∷ 245 ∷ 275 ∷ 300 ∷ []

-- "0, 25000, 15000, 3000, 1500, 750" stand for "0 to 5 in that order"
abbrev pub volts : List ℕ
volts = 0 ∷ 25000 ∷ 15000 ∷ 3000 ∷ 1500 ∷ 750 ∷ []

-- "0 to 10 in that order": the place of a figure in a table, whose first entry stands at i
unfoldable pub place : ℕ → List ℕ → ℕ → Option ℕ
place i [] a = none
place i (t ∷ ts) a = let more : Option ℕ = place (suc i) ts a in cond (eqb a t) (some i) more

-- the highest figure of a table: "300", "25000"
abbrev pub greatest : List ℕ → ℕ
greatest [] = 0
greatest (t ∷ ts) = max t (greatest ts)

-- "both conversions look up one table": a place in the packet, the figure that stands there in the sheet
abbrev pub entry_of : ℕ → List ℕ → Kind
entry_of width table = record {
  width = width;
  largest = length table - 1;
  highest = greatest table;
  allowed = λ v. ltb v (length table);
  refusal = λ _. 4;
  lower = λ a. place 0 table a;
  raise = λ v. get_or table v 0;
}
