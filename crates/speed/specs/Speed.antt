-- The speed of an element, where it holds, and the elements of a segment, from the numbers of its sheet.
use Rattle.std.specs.Prelude.{Bool, true, false, cond, ◌&&◌, List, [], ◌∷◌, map, ℕ, zero, suc, ◌+◌, ◌*◌, ◌/◌, min, max, eqb, ltb, leb, drop, get_or}
use Rattle.std.proofs.Math.Option.{Option, none, some}
use Rattle.kinds.specs.Tables.{cant_figures, place}
use Rattle.speed.specs.declared.Train.{Train}

-- ---- "A train"

-- whether a figure stands in the table: "one of the eleven mm figures"
abbrev pub found : Option ℕ → Bool
found none = false
found (some v) = true

-- "one of the eleven mm figures"
abbrev pub figure : ℕ → Bool
figure a = found (place 0 cant_figures a)

-- "a length (1 to 150,000 cm), a cant deficiency"; "a maximum speed, 1 to 600 km/h"
abbrev pub valid_train : Train → Bool
valid_train t = leb 1 t.length && (leb t.length 150000 && (leb 1 t.maximum && (leb t.maximum 600 && figure t.cant)))

-- "every permitted speed is the lower of that and the profile's"
abbrev pub limited : Train → ℕ → ℕ
limited t v = min t.maximum v

-- "three yes/no memberships: freight in P position (0), freight in G position (1), passenger (2)"
abbrev pub belongs : Train → ℕ → Bool
belongs t zero = t.freight_p
belongs t (suc zero) = t.freight_g
belongs t (suc (suc c)) = t.passenger

-- the three memberships in the order of the categories; the code looks a category up in them
abbrev pub memberships : Train → List Bool
memberships t = t.freight_p ∷ t.freight_g ∷ t.passenger ∷ []

-- ---- "An element's speed for a train"

-- "Q_DIFF 2 (0 to 2), class 4, V_DIFF 7": a specific entry, by its sheet's numbers
pub record Entry : Type 0 where
  pub q_diff : ℕ
  pub class : ℕ
  pub v_diff : ℕ

-- "V_STATIC 7, Q_FRONT 1, N_ITER 5 and its specific entries": an element, by its sheet's numbers
pub record Element : Type 0 where
  pub start : ℕ
  pub v_static : ℕ
  pub q_front : ℕ
  pub entries : List Entry

-- an entry "with Q_DIFF 0" whose figure is "the train's own cant deficiency" or "below its own"
abbrev pub is_not_above : Train → Entry → Bool
is_not_above t e = eqb e.q_diff 0 && leb e.class t.cant

-- the entries "with Q_DIFF 0" whose figure is not above "the train's own cant deficiency"
abbrev pub not_above : Train → List Entry → List Entry
not_above t [] = []
not_above t (e ∷ l) = cond (is_not_above t e) (e ∷ not_above t l) (not_above t l)

-- "the greatest figure" of some entries
abbrev pub greatest_figure : List Entry → ℕ
greatest_figure [] = 0
greatest_figure (e ∷ l) = max e.class (greatest_figure l)

-- whether an entry is one of "the entries of" a figure
abbrev pub is_of : ℕ → Entry → Bool
is_of figure e = eqb e.class figure

-- the speeds of "the entries of" a figure
abbrev pub figure_speeds : ℕ → List Entry → List ℕ
figure_speeds figure [] = []
figure_speeds figure (e ∷ l) = cond (is_of figure e) (e.v_diff ∷ figure_speeds figure l) (figure_speeds figure l)

-- the speeds of "the entries of the greatest figure"
abbrev pub greatest_speeds : List Entry → List ℕ
greatest_speeds l = figure_speeds (greatest_figure l) l

-- the choice by cant deficiency: the greatest figure not above the train's is its own, or where no entry names that, "the greatest figure below its own"
abbrev pub cant_speeds : Train → List Entry → List ℕ
cant_speeds t l = greatest_speeds (not_above t l)

-- "entries with Q_DIFF 1" or 2 that "name a category the train belongs to": their speeds
abbrev pub named_speeds : Train → ℕ → List Entry → List ℕ
named_speeds t q [] = []
named_speeds t q (e ∷ l) = cond (eqb e.q_diff q && belongs t e.class) (e.v_diff ∷ named_speeds t q l) (named_speeds t q l)

-- "the lowest of this and all"
abbrev pub lowest : ℕ → List ℕ → ℕ
lowest v [] = v
lowest v (w ∷ l) = lowest (min v w) l

-- "take the lowest of them instead", if there are any
abbrev pub instead : ℕ → List ℕ → ℕ
instead v [] = v
instead v (w ∷ l) = lowest w l

-- "begin with V_STATIC"; entries with Q_DIFF 0 replace it, then entries with Q_DIFF 1; entries with Q_DIFF 2 can only lower it
abbrev pub element_speed : Train → Element → ℕ
element_speed t e = lowest (instead (instead e.v_static (cant_speeds t e.entries)) (named_speeds t 1 e.entries)) (named_speeds t 2 e.entries)

-- ---- "An element holds at location x"

-- "an element ends where the next starts, the last at L_SP"
abbrev pub end_before : ℕ → List Element → ℕ
end_before lsp [] = lsp
end_before lsp (e ∷ l) = e.start

-- "with Q_FRONT 0 (train length delay), before its end plus the train's length"
abbrev pub held_to : Train → Element → ℕ → ℕ
held_to t e stop = cond (eqb e.q_front 0) (stop + t.length) stop

-- "if it starts at or before x and x lies before its end"
abbrev pub holds : Train → Element → ℕ → ℕ → Bool
holds t e stop x = leb e.start x && ltb x (held_to t e stop)

-- "the elements that hold there", at x: the speed of each
abbrev pub held_speeds : Train → ℕ → ℕ → List Element → List ℕ
held_speeds t lsp x [] = []
held_speeds t lsp x (e ∷ l) = cond (holds t e (end_before lsp l) x) (element_speed t e ∷ held_speeds t lsp x l) (held_speeds t lsp x l)

-- "The permitted speed at x is the lowest speed of the elements that hold there"
abbrev pub permitted : Train → ℕ → ℕ → List Element → ℕ
permitted t lsp x l = instead 0 (held_speeds t lsp x l)

-- ---- "Element 0 of the profile starts at 0 and each change starts the next"

-- n entries, by their numbers: "Q_DIFF 2 (0 to 2), class 4, V_DIFF 7 (0 to 120)"
abbrev pub entries_of : ℕ → List ℕ → List Entry
entries_of zero s = []
entries_of (suc n) s = record { q_diff = get_or s 0 0; class = get_or s 1 0; v_diff = get_or s 2 0 } ∷ entries_of n (drop 3 s)

-- what comes after "that many specific entries"
abbrev pub after_entries : ℕ → List ℕ → List ℕ
after_entries zero s = s
after_entries (suc n) s = after_entries n (drop 3 s)

-- "V_STATIC 7 (0 to 120, steps of 5 km/h), Q_FRONT 1, N_ITER 5 (0 to 31), then that many specific entries"
abbrev pub element_of : ℕ → List ℕ → Element
element_of start s = record { start = start; v_static = get_or s 0 0; q_front = get_or s 1 0; entries = entries_of (get_or s 2 0) (drop 3 s) }

-- what comes after "N_ITER 5 and its specific entries"
abbrev pub after_element : List ℕ → List ℕ
after_element s = after_entries (get_or s 2 0) (drop 3 s)

-- "each change starts the next": the elements of n changes; `from`, in cm, is added to the start of each
abbrev pub changes_from : ℕ → ℕ → List ℕ → List Element
changes_from from zero s = []
changes_from from (suc n) s = element_of (from + get_or s 0 0) (drop 1 s) ∷ changes_from from n (after_element (drop 1 s))

-- "Element 0 of the profile starts at 0 and each change starts the next"; `from`, in cm, is added to the start of each
abbrev pub elements_from : ℕ → List ℕ → List Element
elements_from from s = element_of (from + 0) s ∷ changes_from from (get_or (after_element s) 0 0) (drop 1 (after_element s))

-- "The numbers stand in packet order": L_SP among them
abbrev pub segment_length : List ℕ → ℕ
segment_length s = get_or s 10 0

-- "Start of speed profile", among a sheet's numbers
abbrev pub profile_of : List ℕ → List ℕ
profile_of s = drop 14 s

-- ---- lowering

-- "the greatest multiple of 5 not above"
abbrev pub in_fives : ℕ → ℕ
in_fives v = v / 5 * 5

-- an entry with its speed lowered to a multiple of 5 km/h
abbrev pub entry_in_fives : Entry → Entry
entry_in_fives e = record { q_diff = e.q_diff; class = e.class; v_diff = in_fives e.v_diff }

-- an element with all its speeds lowered to multiples of 5 km/h
abbrev pub element_in_fives : Element → Element
element_in_fives e = record { start = e.start; v_static = in_fives e.v_static; q_front = e.q_front; entries = map entry_in_fives e.entries }
