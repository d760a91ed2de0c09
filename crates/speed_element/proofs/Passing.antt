-- A pass over a run ends with its permitted speed; a segment that the train has left changes nothing.
use mathlib.Core.Path.{◌≡◌, refl, sym, ap, ◌∙◌}
use mathlib.Core.List.{List, [], ◌∷◌, ◌++◌, append-nil, append_assoc}
use Prim.Native.Nat.{ℕ, ◌+◌, ◌≤◌}
use Rattle.speed.specs.declared.Train.{Train}
use Rattle.speed.specs.Speed.{instead, elements_from, segment_length, profile_of}
use Rattle.speed.specs.Run.{last_start, speed_in_run}
use Rattle.speed.specs.internal.BySegments.{held_in_segment, held_by_segments}
use Rattle.speed.proofs.Runs.{StartsTo, none_held, run_by_segments}
use Rattle.speed_element.specs.internal.Elements.{none, instead_from}
use Rattle.speed_element.specs.internal.Passing.{Passed, RunPassed, over, one}

passed_all : {t : Train} {x : ℕ} {r : List (List ℕ)} {held out : ℕ} → RunPassed t x r held out → (l : List ℕ) → instead_from out 0 l ≡ instead_from held 0 (held_by_segments t x r ++ l)
passed_all over l = refl
passed_all {t} {x} (one {s = s} {r = r} {held = held} p q) l =
    let f = held_in_segment t (last_start 0 (s ∷ r) + x) s in
    passed_all q l ∙ p.with (held_by_segments t x r ++ l) ∙ ap (instead_from held 0) (sym (append_assoc f (held_by_segments t x r) l))

-- from no speed on, what is held at the end of the run is the permitted speed
pub run_passed : {t : Train} {x : ℕ} {r : List (List ℕ)} {out : ℕ} → RunPassed t x r none out → instead_from out 0 [] ≡ speed_in_run t x r
run_passed {t} {x} {r} p = passed_all p [] ∙ ap (instead 0) (append-nil (held_by_segments t x r) ∙ sym (run_by_segments t x r))

pub left_behind : (t : Train) (s : List ℕ) {y held : ℕ} → StartsTo (segment_length s) (elements_from 0 (profile_of s)) → segment_length s + t.length ≤ y → Passed t s y held held
left_behind t s {y} {held} h far =
    record { with = λ m. ap (λ (l : List ℕ). instead_from held 0 (l ++ m)) (sym (none_held t (segment_length s) y (elements_from 0 (profile_of s)) h far)) }
