-- At every place of a segment some element holds; lowering the elements lowers the permitted speed; a train's categories and figure as the code computes them.
use mathlib.Core.Path.{◌≡◌, refl, sym, ap, ◌∙◌}
use mathlib.Core.Bool.{Bool, true, false, cond, ◌&&◌}
use mathlib.Core.List.{List, [], ◌∷◌, map}
use mathlib.Core.Option.{Option, none, some}
use Prim.Native.Nat.{ℕ, zero, suc, ◌+◌, ◌*◌, ◌/◌, ◌%◌, ◌^◌, ◌≤◌, ◌<◌, min}
use mir.Val.{bool_byte}
use native.Mathlib.Omega.{arith}
use borrow.Author.Tests.{le-leb, lt-leb, lt-ltb, ltb-false, ltb-true}
use lib.Dec.{eqb, ltb}
use lib.ListN.{get_or}
use native.Mathlib.Nat.{pow-le-pow_right, div-eq_of_lt}
use Rattle.bits.proofs.Tests.{by_cases}
use Rattle.kinds.specs.Kinds.{class}
use Rattle.kinds.specs.Tables.{cant_figures, place}
use Rattle.fields.proofs.Lookup.{place_small}
use Rattle.fields.specs.internal.lower.Lowered.{value_or, lowered}
use Rattle.speed.specs.declared.Train.{Train}
use Rattle.speed.specs.Speed.{found, figure, valid_train, belongs, memberships, Entry, Element, is_not_above, not_above, greatest_figure, is_of, figure_speeds, cant_speeds, named_speeds, lowest, instead, element_speed, end_before, holds, held_speeds, permitted, in_fives, entry_in_fives, element_in_fives}

-- ---- some element holds

held_in_element : (t : Train) (e : Element) (stop x : ℕ) → e.start ≤ x → x < stop → holds t e stop x ≡ true
held_in_element t e stop x a b =
    rw (le-leb e.start x a) (by_cases (eqb e.q_front 0) (λ d. rw d (lt-ltb x (stop + t.length) (omega arith))) (λ d. rw d (lt-ltb x stop b)))

-- at every x below L_SP some element holds
pub some_holds : {C : Type 0} (t : Train) (lsp x : ℕ) (e : Element) (l : List Element) → e.start ≤ x → x < lsp
    → ((v : ℕ) (m : List ℕ) → held_speeds t lsp x (e ∷ l) ≡ v ∷ m → C) → C
some_holds t lsp x e [] a b k = k (element_speed t e) [] (rw (held_in_element t e lsp x a b))
some_holds t lsp x e (f ∷ l) a b k =
    by_cases (ltb x f.start)
    (λ d. k (element_speed t e) (held_speeds t lsp x (f ∷ l)) (rw (held_in_element t e f.start x a (ltb-true x f.start d))))
    (λ d. some_holds t lsp x f l (ltb-false x f.start d) b λ v m q.
    by_cases (holds t e f.start x)
    (λ h. k (element_speed t e) (held_speeds t lsp x (f ∷ l)) (rw h))
    (λ h. k v m (rw h q)))

-- ---- lowering

lowered_min : (v w : ℕ) → in_fives (min v w) ≡ min (in_fives v) (in_fives w)
lowered_min v w = omega arith

lowered_lowest : (v : ℕ) (l : List ℕ) → lowest (in_fives v) (map in_fives l) ≡ in_fives (lowest v l)
lowered_lowest v [] = refl
lowered_lowest v (w ∷ l) = ap (λ (n : ℕ). lowest n (map in_fives l)) (sym (lowered_min v w)) ∙ lowered_lowest (min v w) l

lowered_instead : (v : ℕ) (l : List ℕ) → instead (in_fives v) (map in_fives l) ≡ in_fives (instead v l)
lowered_instead v [] = refl
lowered_instead v (w ∷ l) = lowered_lowest w l

-- `map` goes into a choice between a list with one more element and the list without it
map_chosen : {A B : Type 0} (f : A → B) (b : Bool) (e : A) (l : List A) → cond b (f e ∷ map f l) (map f l) ≡ map f (cond b (e ∷ l) l)
map_chosen f true e l = refl
map_chosen f false e l = refl

lowered_named : (t : Train) (q : ℕ) (l : List Entry) → named_speeds t q (map entry_in_fives l) ≡ map in_fives (named_speeds t q l)
lowered_named t q [] = refl
lowered_named t q (e ∷ l) = rw (lowered_named t q l) (map_chosen in_fives (eqb e.q_diff q && belongs t e.class) e.v_diff (named_speeds t q l))

-- lowering changes no figure, so it chooses the entries that are chosen without it
lowered_above : (t : Train) (l : List Entry) → not_above t (map entry_in_fives l) ≡ map entry_in_fives (not_above t l)
lowered_above t [] = refl
lowered_above t (e ∷ l) = rw (lowered_above t l) (map_chosen entry_in_fives (is_not_above t e) e (not_above t l))

lowered_greatest : (l : List Entry) → greatest_figure (map entry_in_fives l) ≡ greatest_figure l
lowered_greatest [] = refl
lowered_greatest (e ∷ l) = rw (lowered_greatest l)

lowered_figure : (figure : ℕ) (l : List Entry) → figure_speeds figure (map entry_in_fives l) ≡ map in_fives (figure_speeds figure l)
lowered_figure figure [] = refl
lowered_figure figure (e ∷ l) = rw (lowered_figure figure l) (map_chosen in_fives (is_of figure e) e.v_diff (figure_speeds figure l))

pub lowered_cant : (t : Train) (l : List Entry) → cant_speeds t (map entry_in_fives l) ≡ map in_fives (cant_speeds t l)
lowered_cant t l = let m = not_above t l in rw (lowered_above t l, lowered_greatest m) (lowered_figure (greatest_figure m) m)

lowered_speed : (t : Train) (e : Element) → element_speed t (element_in_fives e) ≡ in_fives (element_speed t e)
lowered_speed t e =
    let l = e.entries in
    let first = instead e.v_static (cant_speeds t l) in
    rw (lowered_cant t l, lowered_named t 1 l, lowered_named t 2 l, lowered_instead e.v_static (cant_speeds t l), lowered_instead first (named_speeds t 1 l))
    (lowered_lowest (instead first (named_speeds t 1 l)) (named_speeds t 2 l))

lowered_end : (lsp : ℕ) (l : List Element) → end_before lsp (map element_in_fives l) ≡ end_before lsp l
lowered_end lsp [] = refl
lowered_end lsp (e ∷ l) = refl

lowered_held : (t : Train) (lsp x : ℕ) (l : List Element) → held_speeds t lsp x (map element_in_fives l) ≡ map in_fives (held_speeds t lsp x l)
lowered_held t lsp x [] = refl
lowered_held t lsp x (e ∷ l) =
    rw (lowered_end lsp l)
    (by_cases (holds t e (end_before lsp l) x)
    (λ d. rw (d, lowered_speed t e) (ap (λ (m : List ℕ). in_fives (element_speed t e) ∷ m) (lowered_held t lsp x l)))
    (λ d. rw d (lowered_held t lsp x l)))

-- "the greatest multiple of 5 not above the speed"
pub lowered_permitted : (t : Train) (lsp x : ℕ) (l : List Element) → permitted t lsp x (map element_in_fives l) ≡ in_fives (permitted t lsp x l)
lowered_permitted t lsp x l = ap (instead 0) (lowered_held t lsp x l) ∙ lowered_instead 0 (held_speeds t lsp x l)

-- ---- a train's categories and figure, as the code computes them

-- the train's three memberships as one number, a bit each
abbrev pub categories : Train → ℕ
categories t = bool_byte t.freight_p + 2 * bool_byte t.freight_g + 4 * bool_byte t.passenger

pub byte_most : (b : Bool) → bool_byte b ≤ 1
byte_most true = omega arith
byte_most false = omega arith

pub categories_bits : (p g q : Bool) → let n : ℕ = bool_byte p + 2 * bool_byte g + 4 * bool_byte q in
    (eqb (n / 1 % 2) 1 ≡ p) × (eqb (n / 2 % 2) 1 ≡ g) × (eqb (n / 4 % 2) 1 ≡ q)
categories_bits true true true = (refl, refl, refl)
categories_bits true true false = (refl, refl, refl)
categories_bits true false true = (refl, refl, refl)
categories_bits true false false = (refl, refl, refl)
categories_bits false true true = (refl, refl, refl)
categories_bits false true false = (refl, refl, refl)
categories_bits false false true = (refl, refl, refl)
categories_bits false false false = (refl, refl, refl)

-- each bit of the categories is a membership; from the fourth bit on they are 0
pub belongs_bit : (t : Train) (m : ℕ) → eqb (categories t / 2 ^ m % 2) 1 ≡ get_or (memberships t) m false
belongs_bit t zero = (categories_bits t.freight_p t.freight_g t.passenger).0
belongs_bit t (suc zero) = (categories_bits t.freight_p t.freight_g t.passenger).1
belongs_bit t (suc (suc zero)) = (categories_bits t.freight_p t.freight_g t.passenger).2
belongs_bit t (suc (suc (suc k))) =
    let large : 2 ^ 3 ≤ 2 ^ suc (suc (suc k)) = pow-le-pow_right (omega arith) {i = 3} {j = suc (suc (suc k))} (omega arith) in
    let none : categories t / 2 ^ suc (suc (suc k)) ≡ 0 = div-eq_of_lt (omega (arith, large, byte_most t.freight_p, byte_most t.freight_g, byte_most t.passenger)) in
    rw none

-- a category below 3 is looked up among the memberships
pub belongs_listed : (t : Train) (c : ℕ) → c < 3 → get_or (memberships t) (c % 32) false ≡ belongs t c
belongs_listed t zero h = refl
belongs_listed t (suc zero) h = refl
belongs_listed t (suc (suc zero)) h = refl
belongs_listed t (suc (suc (suc c))) h = absurd (omega arith)

-- a cant deficiency is one of the figures exactly when its place in the table is below 16
pub figure_place : (a v : ℕ) → v ≡ lowered (class 0) a → ltb v 16 ≡ figure a
figure_place a v e = rw e (go (place 0 cant_figures a) refl)
  where
    go : (o : Option ℕ) → place 0 cant_figures a ≡ o → ltb (value_or 16 o) 16 ≡ found o
    go none p = refl
    go (some i) p = lt-ltb i 16 (omega (arith, place_small 0 cant_figures a i p))

-- ---- which trains are valid

-- a train that is too slow is not
pub valid_slow : (t : Train) → 1 ≤ t.length → t.length ≤ 150000 → t.maximum < 1 → false ≡ valid_train t
valid_slow t short long h = rw (le-leb 1 t.length short, le-leb t.length 150000 long, lt-leb 1 t.maximum h)
