-- A run is asked segment by segment; in a segment that the train has left nothing holds; no speed is above the last segment's own; lowering goes through a run.
use mathlib.Core.Path.{◌≡◌, refl, sym, ap, ap₂, ◌∙◌, subst₂}
use mathlib.Core.Bool.{Bool, true, false, cond, ◌&&◌}
use mathlib.Core.List.{List, [], ◌∷◌, ◌++◌, map, append-nil, append_assoc, map-append}
use Prim.Native.Nat.{ℕ, zero, suc, ◌+◌, ◌≤◌, ◌<◌, min}
use native.Mathlib.Nat.{zero-add, add-zero, add_assoc}
use native.Mathlib.Omega.{arith}
use borrow.Author.Tests.{leb-true, leb-false, le-leb, lt-leb, ltb-true, ltb-false, lt-ltb, le-ltb}
use lib.Dec.{eqb, ltb, leb}
use lib.ListN.{drop, get_or}
use Rattle.bits.proofs.Tests.{by_cases}
use Rattle.kinds.specs.declared.Item.{Item}
use Rattle.format.specs.Format.{sheet_numbers}
use Rattle.format.specs.Conforming.{Conforming, InSheet}
use Rattle.grammar.specs.segment.Segment.{sheet_fields, wire_changes}
use Rattle.speed.specs.declared.Train.{Train}
use Rattle.speed.specs.Speed.{Element, element_speed, lowest, instead, end_before, held_to, holds, held_speeds, permitted, element_of, after_element, changes_from, elements_from, segment_length, profile_of, in_fives, element_in_fives}
use Rattle.speed.proofs.Laws.{some_holds, lowered_permitted}
use Rattle.speed.proofs.Lowering.{length_stays, at_profile}
use Rattle.speed.specs.Run.{Each, EachTwo, none, another, numbers_of, each_given_back, run_elements, run_end, last_of, last_start, held_in_run, speed_in_run}
use Rattle.speed.specs.internal.BySegments.{held_in_segment, held_by_segments}

-- ---- the lowest of two lists, one after the other

lowest_append : (v : ℕ) (l m : List ℕ) → lowest v (l ++ m) ≡ lowest (lowest v l) m
lowest_append v [] m = refl
lowest_append v (w ∷ l) m = lowest_append (min v w) l m

lowest_rises : (v w : ℕ) (l : List ℕ) → v ≤ w → lowest v l ≤ lowest w l
lowest_rises v w [] h = h
lowest_rises v w (u ∷ l) h = lowest_rises (min v u) (min w u) l (omega arith)

-- more of them in front never make it higher, where there is one
instead_append : (v : ℕ) (l : List ℕ) (w : ℕ) (m : List ℕ) → instead v (l ++ w ∷ m) ≤ instead v (w ∷ m)
instead_append v [] w m = omega arith
instead_append v (u ∷ l) w m = rw (lowest_append u l (w ∷ m)) (lowest_rises (min (lowest u l) w) w m (omega arith))

-- ---- where the last starts

start_shifted : (from d : ℕ) (r : List (List ℕ)) → last_start (from + d) r ≡ from + last_start d r
start_shifted from d [] = refl
start_shifted from d (s ∷ []) = refl
start_shifted from d (s ∷ n ∷ r) =
    ap (λ (m : ℕ). last_start m (n ∷ r)) (add_assoc from d (segment_length s)) ∙ start_shifted from (d + segment_length s) (n ∷ r)

pub last_start_lem : (from : ℕ) (r : List (List ℕ)) → last_start from r ≡ from + last_start 0 r
last_start_lem from r = ap (λ (m : ℕ). last_start m r) (sym (add-zero from)) ∙ start_shifted from 0 r

-- the run ends where its last segment does
pub run_end_lem : (from : ℕ) (s : List ℕ) (r : List (List ℕ)) → last_start from (s ∷ r) + segment_length (last_of (s ∷ r)) ≡ run_end from (s ∷ r)
run_end_lem from s [] = refl
run_end_lem from s (n ∷ r) = run_end_lem (from + segment_length s) n r

-- runs whose segments are as long, one for one
abbrev pub AsLong : List (List ℕ) → List (List ℕ) → Type 0
AsLong r s = EachTwo (λ (a b : List ℕ). segment_length a ≡ segment_length b) r s

pub start_same : (from : ℕ) {r s : List (List ℕ)} → AsLong r s → last_start from r ≡ last_start from s
start_same from none = refl
start_same from (another e none) = refl
start_same from (another {a = a} {s = s} e (another {a = c} {b = d} f same)) =
    start_same (from + segment_length a) (another {a = c} {b = d} f same) ∙ ap (λ (n : ℕ). last_start (from + n) s) e

pub end_same : (from : ℕ) {r s : List (List ℕ)} → AsLong r s → run_end from r ≡ run_end from s
end_same from none = refl
end_same from (another {a = a} {s = s} e same) = end_same (from + segment_length a) same ∙ ap (λ (n : ℕ). run_end (from + n) s) e

pub last_same : {r s : List (List ℕ)} → AsLong r s → segment_length (last_of r) ≡ segment_length (last_of s)
last_same none = refl
last_same (another e none) = e
last_same (another e (another f same)) = last_same (another f same)

-- "across boundaries too": what stands before a run ends where the run starts
pub run_begins : (from : ℕ) (r : List (List ℕ)) → end_before (run_end from r) (run_elements from r) ≡ from
run_begins from [] = refl
run_begins from (s ∷ r) = add-zero from

-- "At every x below L_SP" of the last some element of the run holds
pub run_holds : {C : Type 0} (t : Train) (x : ℕ) (s : List ℕ) (r : List (List ℕ)) → x < segment_length (last_of (s ∷ r))
    → ((v : ℕ) (m : List ℕ) → held_in_run t x (s ∷ r) ≡ v ∷ m → C) → C
run_holds t x s r h k =
    let p = profile_of s in
    let l = changes_from 0 (get_or (after_element p) 0 0) (drop 1 (after_element p)) ++ run_elements (0 + segment_length s) r in
    some_holds t (run_end 0 (s ∷ r)) (last_start 0 (s ∷ r) + x) (element_of (0 + 0) p) l (omega arith) (omega (arith, run_end_lem 0 s r)) k

-- ---- segment by segment

end_append : (lsp : ℕ) (l m : List Element) → end_before lsp (l ++ m) ≡ end_before (end_before lsp m) l
end_append lsp [] m = refl
end_append lsp (e ∷ l) m = refl

-- a choice, with a list after both
pub chosen_append : (b : Bool) (v : ℕ) (l m : List ℕ) → cond b (v ∷ (l ++ m)) (l ++ m) ≡ cond b (v ∷ l) l ++ m
chosen_append true v l m = refl
chosen_append false v l m = refl

-- elements after others: those in front end where these begin
pub held_append : (t : Train) (lsp x : ℕ) (l m : List Element) → held_speeds t lsp x (l ++ m) ≡ held_speeds t (end_before lsp m) x l ++ held_speeds t lsp x m
held_append t lsp x [] m = refl
held_append t lsp x (e ∷ l) m =
    ap₂ (λ (n : ℕ) (r : List ℕ). cond (holds t e n x) (element_speed t e ∷ r) r) (end_append lsp l m) (held_append t lsp x l m)
    ∙ chosen_append (holds t e (end_before (end_before lsp m) l) x) (element_speed t e) (held_speeds t (end_before lsp m) x l) (held_speeds t lsp x m)

-- an element that starts further on
abbrev pub shifted : ℕ → Element → Element
shifted d e = record { start = d + e.start; v_static = e.v_static; q_front = e.q_front; entries = e.entries }

leb_shifted : (d a b : ℕ) → leb (d + a) (d + b) ≡ leb a b
leb_shifted d a b =
    by_cases (leb a b)
    (λ e. let h = leb-true a b e in le-leb (d + a) (d + b) (omega arith) ∙ sym e)
    (λ e. let h = leb-false a b e in lt-leb (d + a) (d + b) (omega arith) ∙ sym e)

ltb_shifted : (d a b c : ℕ) → b ≡ d + c → ltb (d + a) b ≡ ltb a c
ltb_shifted d a b c e =
    by_cases (ltb a c)
    (λ q. let h = ltb-true a c q in lt-ltb (d + a) b (omega arith) ∙ sym q)
    (λ q. let h = ltb-false a c q in le-ltb (d + a) b (omega arith) ∙ sym q)

held_to_shifted : (t : Train) (d : ℕ) (e : Element) (stop : ℕ) → held_to t (shifted d e) (d + stop) ≡ d + held_to t e stop
held_to_shifted t d e stop = by_cases (eqb e.q_front 0) (λ q. rw q (add_assoc d stop t.length)) (λ q. rw q)

holds_shifted : (t : Train) (d : ℕ) (e : Element) (stop x : ℕ) → holds t (shifted d e) (d + stop) (d + x) ≡ holds t e stop x
holds_shifted t d e stop x =
    ap₂ (λ (a b : Bool). a && b) (leb_shifted d e.start x) (ltb_shifted d x (held_to t (shifted d e) (d + stop)) (held_to t e stop) (held_to_shifted t d e stop))

end_shifted : (d lsp : ℕ) (l : List Element) → end_before (d + lsp) (map (shifted d) l) ≡ d + end_before lsp l
end_shifted d lsp [] = refl
end_shifted d lsp (e ∷ l) = refl

-- further on, the same elements hold as far further on
pub held_shifted : (t : Train) (d lsp x : ℕ) (l : List Element) → held_speeds t (d + lsp) (d + x) (map (shifted d) l) ≡ held_speeds t lsp x l
held_shifted t d lsp x [] = refl
held_shifted t d lsp x (e ∷ l) =
    ap₂ (λ (b : Bool) (r : List ℕ). cond b (element_speed t e ∷ r) r)
    (ap (λ (n : ℕ). holds t (shifted d e) n (d + x)) (end_shifted d lsp l) ∙ holds_shifted t d e (end_before lsp l) x) (held_shifted t d lsp x l)

changes_shifted : (from n : ℕ) (s : List ℕ) → changes_from from n s ≡ map (shifted from) (changes_from 0 n s)
changes_shifted from zero s = refl
changes_shifted from (suc n) s =
    ap₂ (λ (a : ℕ) (r : List Element). element_of (from + a) (drop 1 s) ∷ r) (sym (zero-add (get_or s 0 0))) (changes_shifted from n (after_element (drop 1 s)))

pub elements_shifted : (from : ℕ) (s : List ℕ) → elements_from from s ≡ map (shifted from) (elements_from 0 s)
elements_shifted from s = ap (λ (r : List Element). element_of (from + 0) s ∷ r) (changes_shifted from (get_or (after_element s) 0 0) (drop 1 (after_element s)))

-- a segment of a run, by its own numbers, and what comes after it
segment_held : (t : Train) (from end y : ℕ) (s : List ℕ) (l : List Element) → end_before end l ≡ from + segment_length s
    → held_speeds t end (from + y) (elements_from from (profile_of s) ++ l) ≡ held_in_segment t y s ++ held_speeds t end (from + y) l
segment_held t from end y s l e =
    held_append t end (from + y) (elements_from from (profile_of s)) l
    ∙ ap (λ (r : List ℕ). r ++ held_speeds t end (from + y) l)
    (ap₂ (λ (n : ℕ) (m : List Element). held_speeds t n (from + y) m) e (elements_shifted from (profile_of s)) ∙ held_shifted t from (segment_length s) y (elements_from 0 (profile_of s)))

segment_on : (t : Train) (x from : ℕ) (s : List ℕ) (r : List (List ℕ))
    → held_speeds t (run_end (from + segment_length s) r) (last_start from (s ∷ r) + x) (run_elements (from + segment_length s) r) ≡ held_by_segments t x r
    → held_speeds t (run_end from (s ∷ r)) (last_start from (s ∷ r) + x) (run_elements from (s ∷ r)) ≡ held_by_segments t x (s ∷ r)
segment_on t x from s r rest =
    let far = last_start 0 (s ∷ r) + x in
    let here : last_start from (s ∷ r) + x ≡ from + far = omega (arith, last_start_lem from (s ∷ r)) in
    let end = run_end (from + segment_length s) r in
    let l = run_elements (from + segment_length s) r in
    ap (λ (n : ℕ). held_speeds t end n (elements_from from (profile_of s) ++ l)) here
    ∙ segment_held t from end far s l (run_begins (from + segment_length s) r)
    ∙ ap (λ (m : List ℕ). held_in_segment t far s ++ m)
    (ap (λ (n : ℕ). held_speeds t end n l) (sym here) ∙ rest)

by_segments : (t : Train) (x from : ℕ) (r : List (List ℕ)) → held_speeds t (run_end from r) (last_start from r + x) (run_elements from r) ≡ held_by_segments t x r
by_segments t x from [] = refl
by_segments t x from (s ∷ []) = segment_on t x from s [] refl
by_segments t x from (s ∷ n ∷ r) = segment_on t x from s (n ∷ r) (by_segments t x (from + segment_length s) (n ∷ r))

-- a run is asked segment by segment
pub run_by_segments : (t : Train) (x : ℕ) (r : List (List ℕ)) → held_in_run t x r ≡ held_by_segments t x r
run_by_segments t x r = by_segments t x 0 r

-- a run of one: "the elements that hold" in its segment
pub one_held : (t : Train) (x : ℕ) (s : List ℕ) → held_in_run t x (s ∷ []) ≡ held_in_segment t x s
one_held t x s = run_by_segments t x (s ∷ []) ∙ append-nil (held_in_segment t (0 + x) s) ∙ ap (λ (y : ℕ). held_in_segment t y s) (zero-add x)

-- ---- a segment that the train has left

-- no element starts past `end`
abbrev pub StartsTo : ℕ → List Element → Type 0
StartsTo end l = Each (λ (e : Element). e.start ≤ end) l

end_to : (end : ℕ) (l : List Element) → StartsTo end l → end_before end l ≤ end
end_to end [] h = omega arith
end_to end (e ∷ l) h = h.0

held_to_end : (t : Train) (e : Element) (stop : ℕ) → held_to t e stop ≤ stop + t.length
held_to_end t e stop = by_cases (eqb e.q_front 0) (λ q. rw q (omega arith)) (λ q. rw q (omega arith))

-- where the train's tail has passed the end, nothing holds
pub none_held : (t : Train) (end y : ℕ) (l : List Element) → StartsTo end l → end + t.length ≤ y → held_speeds t end y l ≡ []
none_held t end y [] h far = refl
none_held t end y (e ∷ l) h far =
    let stop = end_before end l in
    let over : ltb y (held_to t e stop) ≡ false = le-ltb y (held_to t e stop) (omega (arith, held_to_end t e stop, end_to end l h.1)) in
    let not : holds t e stop y ≡ false = ap (λ (b : Bool). leb e.start y && b) over ∙ and_false (leb e.start y) in
    ap (λ (b : Bool). cond b (element_speed t e ∷ held_speeds t end y l) (held_speeds t end y l)) not ∙ none_held t end y l h.1 far
  where
    and_false : (b : Bool) → (b && false) ≡ false
    and_false true = refl
    and_false false = refl

-- ---- not above the last segment's own

last_held : {C : Type 0} (t : Train) (x : ℕ) (s : List ℕ) (r : List (List ℕ))
    → ((m : List ℕ) → held_by_segments t x (s ∷ r) ≡ m ++ held_in_segment t x (last_of (s ∷ r)) → C) → C
last_held t x s [] k =
    k [] (append-nil (held_in_segment t (0 + x) s) ∙ ap (λ (y : ℕ). held_in_segment t y s) (zero-add x))
last_held t x s (n ∷ r) k =
    last_held t x n r λ m e.
    let f = held_in_segment t (last_start 0 (s ∷ n ∷ r) + x) s in
    k (f ++ m)
    (ap (λ (g : List ℕ). f ++ g) e ∙ sym (append_assoc f m (held_in_segment t x (last_of (n ∷ r)))))

-- "At every x below L_SP some element holds"
segment_holds : {C : Type 0} (t : Train) (x : ℕ) (s : List ℕ) → x < segment_length s
    → ((v : ℕ) (m : List ℕ) → held_in_segment t x s ≡ v ∷ m → C) → C
segment_holds t x s h k =
    let p = profile_of s in
    some_holds t (segment_length s) x (element_of (0 + 0) p) (changes_from 0 (get_or (after_element p) 0 0) (drop 1 (after_element p))) (omega arith) h k

-- "the screen raises the speed while half the set stands in the slower segment": segments before the last never make it higher
pub run_not_above : (t : Train) (x : ℕ) (s : List ℕ) (r : List (List ℕ)) → x < segment_length (last_of (s ∷ r)) → speed_in_run t x (s ∷ r) ≤ speed_in_run t x (last_of (s ∷ r) ∷ [])
run_not_above t x s r h =
    last_held t x s r λ m e.
    segment_holds t x (last_of (s ∷ r)) h λ v l own.
    let all : held_in_run t x (s ∷ r) ≡ m ++ v ∷ l = run_by_segments t x (s ∷ r) ∙ e ∙ ap (λ (g : List ℕ). m ++ g) own in
    let alone : held_in_run t x (last_of (s ∷ r) ∷ []) ≡ v ∷ l = one_held t x (last_of (s ∷ r)) ∙ own in
    subst₂ (λ (a b : List ℕ). instead 0 a ≤ instead 0 b) (sym all) (sym alone) (instead_append 0 m v l)

-- ---- lowering

abbrev pub SheetValues : List Item → Type 0
SheetValues l = Conforming InSheet (sheet_fields wire_changes) l

pub lowered_as_long : (r : List (List Item)) → Each SheetValues r → AsLong (numbers_of (each_given_back r)) (numbers_of r)
lowered_as_long [] c = none
lowered_as_long (l ∷ r) c = another (length_stays l c.0) (lowered_as_long r c.1)

elements_lowered : (from : ℕ) (r : List (List Item)) → Each SheetValues r
    → run_elements from (numbers_of (each_given_back r)) ≡ map element_in_fives (run_elements from (numbers_of r))
elements_lowered from [] c = refl
elements_lowered from (l ∷ r) c =
    at_profile from l c.0 λ same es.
    let s = sheet_numbers l in
    ap₂ (λ (e : List Element) (m : ℕ). e ++ run_elements (from + m) (numbers_of (each_given_back r))) es same
    ∙ ap (λ (e : List Element). map element_in_fives (elements_from from (profile_of s)) ++ e) (elements_lowered (from + segment_length s) r c.1)
    ∙ sym (map-append element_in_fives (elements_from from (profile_of s)) (run_elements (from + segment_length s) (numbers_of r)))

-- "The lowering in demand 3 holds for the run": each sheet against its packet
pub run_in_fives : (t : Train) (x : ℕ) (r : List (List Item)) → Each SheetValues r
    → speed_in_run t x (numbers_of (each_given_back r)) ≡ in_fives (speed_in_run t x (numbers_of r))
run_in_fives t x r c =
    let n = numbers_of r in
    ap (λ (e : List Element). permitted t (run_end 0 (numbers_of (each_given_back r))) (last_start 0 (numbers_of (each_given_back r)) + x) e) (elements_lowered 0 r c)
    ∙ ap₂ (λ (end start : ℕ). permitted t end (start + x) (map element_in_fives (run_elements 0 n))) (end_same 0 (lowered_as_long r c)) (start_same 0 (lowered_as_long r c))
    ∙ lowered_permitted t (run_end 0 n) (last_start 0 n + x) (run_elements 0 n)
