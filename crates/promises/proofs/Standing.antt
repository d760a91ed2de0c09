-- Where a field stands among the values of a tree: the values before it conform to the front of the tree.
use mathlib.Core.Path.{◌≡◌, refl, sym, ◌∙◌}
use mathlib.Core.List.{List, [], ◌∷◌, ◌++◌, append_assoc, map}
use Prim.Native.Nat.{ℕ, ◌+◌}
use native.Mathlib.Omega.{arith}
use lib.ListN.{length, get_or, length-append}
use Rattle.kinds.specs.declared.Item.{Item}
use Rattle.kinds.specs.Kind.{Kind}
use Rattle.kinds.specs.Kinds.{m_sp_altitude}
use Rattle.format.specs.Format.{Format, field, then, sheet_numbers}
use Rattle.format.specs.Conforming.{Conforming, also}
use Rattle.format.specs.Grounds.{Front, here, past}
use Rattle.format.specs.internal.Place.{skip}
use Rattle.grammar.specs.segment.Segment.{body, fields, sheet_fields, wire_changes}
use Rattle.speed.specs.Speed.{segment_length}
use Rattle.altitude.specs.Altitude.{altitude_field}
use Rattle.promises.specs.Promised.{StandsAt, LengthOf}

-- values that conform to the front of a tree up to a field, with the field's value after them
front_on : {Good : Kind → Item → Type 0} {f : Format} {l : List Item} {k : Kind} {next : ℕ → Format} (i : Item)
    → Front Good f l (field k next) → Good k i → Front Good f (l ++ i ∷ []) (next i.packet)
front_on i here g = past g here
front_on i (past h c) g = past h (front_on i c g)

value_at : (value : Item → ℕ) (l : List Item) (i : Item) (m : List Item) → get_or (map value (l ++ i ∷ m)) (length l) 0 ≡ value i
value_at value [] i m = refl
value_at value (j ∷ l) i m = value_at value l i m

-- the values l after the first n of them conform to the tree f, which stands there
pub record After (Good : Kind → Item → Type 0) (whole : Format) (l : List Item) (n : ℕ) (f : Format) : Type 0 where
  pub before : List Item
  pub rest : List Item
  pub front : Front Good whole before f
  pub good : Conforming Good f rest
  pub split : l ≡ before ++ rest
  pub count : length before ≡ n

module _ {Good : Kind → Item → Type 0} {whole : Format} {l : List Item} {n : ℕ} {k : Kind} where
  -- the field after n values: where its value stands, its number, and the tree after it
  at_field_lem : {C : Type 0} (next : ℕ → Format) → After Good whole l n (field k next)
      → ((i : Item) → StandsAt Good whole k l i → Good k i → ((value : Item → ℕ) → get_or (map value l) n 0 ≡ value i)
      → After Good whole l (n + 1) (next i.packet) → C) → C
  at_field_lem {C} next a f = go a.rest a.good a.split
    where
      go : (r : List Item) → Conforming Good (field k next) r → l ≡ a.before ++ r → C
      go [] x' e = elim x' [ ]
      go (i ∷ m) (also g c) e =
          f i (record { before = a.before; after = m; next = next; front = a.front; split = e }) g
          (λ value. rw (e, ← a.count) (value_at value a.before i m))
          (record {
            before = a.before ++ i ∷ [];
            rest = m;
            front = front_on i a.front g;
            good = c;
            split = e ∙ sym (append_assoc a.before (i ∷ []) m);
            count = length-append a.before (i ∷ []) ∙ omega (arith, a.count);
          })

  on : {f : Format} → After Good whole l n (then k f) → After Good whole l (n + 1) f
  on {f} a = at_field_lem (λ _. f) a λ i s g v b. b

module _ {Good : Kind → Item → Type 0} (l : List Item) (c : Conforming Good (sheet_fields wire_changes) l) where
  -- ten fields stand before L_SP
  before_length : After Good (sheet_fields wire_changes) l 10 (skip 10 (sheet_fields wire_changes))
  unfolding sheet_fields fields body
  before_length =
      let a : After Good (sheet_fields wire_changes) l 0 (sheet_fields wire_changes) =
      record { before = []; rest = l; front = here; good = c; split = refl; count = refl } in
      on (on (on (on (on (on (on (on (on (on a)))))))))

  -- the length that a question is judged by is the number of L_SP
  pub length_stands : LengthOf Good l (segment_length (sheet_numbers l))
  unfolding sheet_fields fields body
  length_stands = at_field_lem _ before_length λ i s g v b. record { item = i; stands = s; number = v (λ j. j.sheet) }

  -- the field that the altitude is computed from is M_SP_Altitude
  pub altitude_stands : (i : Item) × StandsAt Good (sheet_fields wire_changes) m_sp_altitude l i × Good m_sp_altitude i × (altitude_field l ≡ i.packet)
  unfolding sheet_fields fields body
  altitude_stands = at_field_lem _ before_length λ i s g v b. at_field_lem _ (on (on b)) λ j t h u d. (j, t, h, u (λ k. k.packet))
