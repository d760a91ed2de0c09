-- Lowering goes through a run on a journey: what holds is lowered, and the refusals stay.
use mathlib.Core.Path.{◌≡◌, refl, sym, ap, ap₂, ◌∙◌}
use mathlib.Core.Bool.{Bool, cond, ◌&&◌, not}
use mathlib.Core.List.{List, [], ◌∷◌, ◌++◌, map, map-append}
use Prim.Native.Nat.{ℕ, zero, suc, ◌+◌, ◌-◌, min}
use native.Mathlib.Omega.{arith}
use lib.Dec.{eqb}
use lib.ListN.{length, take, drop}
use Rattle.bits.proofs.Tests.{by_cases}
use Rattle.kinds.specs.declared.Item.{Item}
use Rattle.format.specs.Format.{sheet_numbers}
use Rattle.format.specs.Conforming.{given_back}
use Rattle.grammar.specs.segment.Segment.{body, fields, sheet_fields, wire_changes}
use Rattle.speed.specs.declared.Train.{Train}
use Rattle.speed.specs.Speed.{lowest, segment_length, in_fives}
use Rattle.speed.specs.Run.{Each, numbers_of, each_given_back, last_start}
use Rattle.speed.proofs.Lowering.{same_is, length_stays}
use Rattle.speed.proofs.Runs.{SheetValues, start_same, lowered_as_long}
use Rattle.legs.specs.Legs.{Constraint, Leg}
use Rattle.legs.specs.Restricted.{holds_at, held_in, held_restrictions}
use Rattle.legs.specs.Travelled.{on_journey, travelled_legs, same_segment, outside, all_inside, leg_refusal, first_refusal, legs_refusal, tail_before}
use Rattle.legs.specs.internal.Lowered.{constraint_in_fives, leg_in_fives}
use Rattle.legs.proofs.Opened.{opened}

-- ---- what holds

held_lowered : (t : Train) (lsp y : ℕ) (l : List Constraint) → held_in t lsp y (map constraint_in_fives l) ≡ map in_fives (held_in t lsp y l)
held_lowered t lsp y [] = refl
held_lowered t lsp y (c ∷ l) =
    by_cases (holds_at t lsp y c)
    (λ d. rw d (ap (λ (m : List ℕ). in_fives c.speed ∷ m) (held_lowered t lsp y l)))
    (λ d. rw d (held_lowered t lsp y l))

start_lowered : (r : List (List Item)) → Each SheetValues r → last_start 0 (numbers_of (each_given_back r)) ≡ last_start 0 (numbers_of r)
start_lowered r c = start_same 0 (lowered_as_long r c)

pub restrictions_lowered : (t : Train) (x : ℕ) (r : List (List Item)) (g : List Leg) → Each SheetValues r
    → held_restrictions t x (numbers_of (each_given_back r)) (map leg_in_fives g) ≡ map in_fives (held_restrictions t x (numbers_of r) g)
restrictions_lowered t x [] g c = refl
restrictions_lowered t x (l ∷ r) [] c = refl
restrictions_lowered t x (l ∷ r) (h ∷ g) c =
    let lsp = segment_length (sheet_numbers l) in
    let y = last_start 0 (numbers_of (l ∷ r)) + x in
    ap₂ (λ (a b : List ℕ). a ++ b)
    (ap₂ (λ (n start : ℕ). held_in t n (start + x) (map constraint_in_fives h.constraints)) (length_stays l c.0) (start_lowered (l ∷ r) c) ∙ held_lowered t lsp y h.constraints)
    (restrictions_lowered t x r g c.1)
    ∙ sym (map-append in_fives (held_in t lsp y h.constraints) (held_restrictions t x (numbers_of r) g))

pub lowered_lowest : (v : ℕ) (l : List ℕ) → lowest (in_fives v) (map in_fives l) ≡ in_fives (lowest v l)
lowered_lowest v [] = refl
lowered_lowest v (w ∷ l) = let e : min (in_fives v) (in_fives w) ≡ in_fives (min v w) = omega arith in ap (λ (n : ℕ). lowest n (map in_fives l)) e ∙ lowered_lowest (min v w) l

-- the maximum may be taken last
pub min_lowest : (n v : ℕ) (l : List ℕ) → lowest (min n v) l ≡ min n (lowest v l)
min_lowest n v [] = refl
min_lowest n v (w ∷ l) = let e : min (min n v) w ≡ min n (min v w) = omega arith in ap (λ (u : ℕ). lowest u l) e ∙ min_lowest n (min v w) l

-- ---- the refusals stay

pub length_map : {A B : Type 0} (f : A → B) (l : List A) → length (map f l) ≡ length l
length_map f [] = refl
length_map f (a ∷ l) = ap suc (length_map f l)

drop_map : {A B : Type 0} (f : A → B) (n : ℕ) (l : List A) → drop n (map f l) ≡ map f (drop n l)
drop_map f zero l = refl
drop_map f (suc n) [] = refl
drop_map f (suc n) (a ∷ l) = drop_map f n l

take_map : {A B : Type 0} (f : A → B) (n : ℕ) (l : List A) → take n (map f l) ≡ map f (take n l)
take_map f zero l = refl
take_map f (suc n) [] = refl
take_map {B = B} f (suc n) (a ∷ l) = ap (λ (m : List B). f a ∷ m) (take_map f n l)

pub on_lowered : (count leg : ℕ) (l : List Leg) → on_journey count leg (map leg_in_fives l) ≡ on_journey count leg l
on_lowered count leg l = rw (length_map leg_in_fives l)

pub travelled_lowered : (count leg : ℕ) (l : List Leg) → travelled_legs count leg (map leg_in_fives l) ≡ map leg_in_fives (travelled_legs count leg l)
travelled_lowered count leg l = ap (take count) (drop_map leg_in_fives (leg + 1 - count) l) ∙ take_map leg_in_fives count (drop (leg + 1 - count) l)

inside_lowered : (lsp : ℕ) (l : List Constraint) → all_inside lsp (map constraint_in_fives l) ≡ all_inside lsp l
inside_lowered lsp [] = refl
inside_lowered lsp (c ∷ l) = ap (λ (b : Bool). not (eqb c.type 0 && outside lsp c) && b) (inside_lowered lsp l)

same_lowered : (l : List Item) (g : Leg) → SheetValues l → same_segment (sheet_numbers (given_back (sheet_fields wire_changes) l)) (leg_in_fives g) ≡ same_segment (sheet_numbers l) g
unfolding sheet_fields fields body
same_lowered l0 g c0 =
    opened c0 λ a0 l1 p1 g0 c1. opened c1 λ a1 l2 p2 g1 c2. opened c2 λ a2 l3 p3 g2 c3. opened c3 λ a3 l4 p4 g3 c4.
    opened c4 λ a4 l5 p5 g4 c5. opened c5 λ a5 l6 p6 g5 c6. opened c6 λ a6 l7 p7 g6 c7. opened c7 λ a7 l8 p8 g7 c8.
    opened c8 λ a8 l9 p9 g8 c9. opened c9 λ a9 l p10 g9 c.
    let e1 : a6.packet ≡ a6.sheet = same_is a6 g6 in
    let e2 : a7.packet ≡ a7.sheet = same_is a7 g7 in
    let e3 : a8.packet ≡ a8.sheet = same_is a8 g8 in
    let e4 : a9.packet ≡ a9.sheet = same_is a9 g9 in
    rw (p1, p2, p3, p4, p5, p6, p7, p8, p9, p10)
    (λ j. eqb (e1 j) g.nid_c && (eqb (e2 j) g.nid_sp && (eqb (e3 j) g.major && eqb (e4 j) g.minor)))

leg_stays : (l : List Item) (g : Leg) → SheetValues l → leg_refusal (sheet_numbers (given_back (sheet_fields wire_changes) l)) (leg_in_fives g) ≡ leg_refusal (sheet_numbers l) g
leg_stays l g c =
    ap₂ (λ (a b : Bool). cond a (cond (eqb g.direction 1) (cond b 0 25) 24) 23) (same_lowered l g c)
    (ap (λ (n : ℕ). all_inside n (map constraint_in_fives g.constraints)) (length_stays l c) ∙ inside_lowered (segment_length (sheet_numbers l)) g.constraints)

pub refusal_lowered : (r : List (List Item)) (g : List Leg) → Each SheetValues r → legs_refusal (numbers_of (each_given_back r)) (map leg_in_fives g) ≡ legs_refusal (numbers_of r) g
refusal_lowered [] g c = refl
refusal_lowered (l ∷ r) [] c = refl
refusal_lowered (l ∷ r) (h ∷ g) c = ap₂ first_refusal (leg_stays l h c.0) (refusal_lowered r g c.1)

pub tail_lowered : (count leg : ℕ) (t : Train) (x : ℕ) (r : List (List Item)) → Each SheetValues r → tail_before count leg t x (numbers_of (each_given_back r)) ≡ tail_before count leg t x (numbers_of r)
tail_lowered count leg t x r c = rw (start_lowered r c)
