-- The parts of an accepted journey in any medium: constraint after constraint, segment after segment.
use mathlib.Core.Path.{◌≡◌, refl, sym, ap, ◌∙◌, subst}
use mathlib.Core.List.{List, [], ◌∷◌}
use Prim.Native.Nat.{ℕ, zero, suc, ◌-◌, ◌≤◌, ◌<◌}
use native.Mathlib.Omega.{arith}
use lib.ListN.{length, drop, get_or}
use Rattle.kinds.specs.declared.Item.{Item}
use Rattle.kinds.specs.Kinds.{nid_c, nid_sp, m_sp_version, n_iter, no_current}
use Rattle.kinds.specs.journey.Kinds.{q_sp_dir, q_tc_type, q_tc_range, d_tc_start_location, d_tc_end_location, q_tc_front, v_speed_level, q_low_adhesion_rate}
use Rattle.format.specs.Format.{Format, end, field, times, sheet_numbers}
use Rattle.grammar.specs.journey.Journey.{timing_point, temporary_constraint, journey_segment, constraints}
use Rattle.speed_element.specs.internal.Reading.{Readable, Past, Passes, FieldRead}
use Rattle.speed_element.proofs.Reading.{past_here, then_past, then_is}
use Rattle.legs.specs.Legs.{Constraint, Leg, constraint_of, constraints_of, after_constraints, after_points, restrictions_of, leg_of, after_leg, legs_of, journey_legs}
use Rattle.leg_parts.specs.declared.Legs.{Legs}
use Rattle.leg_parts.specs.declared.LegHead.{LegHead}
use Rattle.leg_parts.specs.declared.ConstraintAt.{ConstraintAt}
use Rattle.leg_parts.specs.internal.Reading.{leg_with, constraint_with, LegsRead, LegOpened, LegRead, ConstraintRead, LegsAt, ConstraintsAt}

-- the place after n parts, where one at a place ends at the next of it
abbrev pub times_end : (ℕ → ℕ) → ℕ → ℕ → ℕ
times_end next zero at = at
times_end next (suc n) at = times_end next n (next at)

module _ (Reads : Format → ℕ → List Item → Type 0) where
  -- ---- parts passed over, one after another

  module _ {part : Format → Format} {gone : List ℕ → List ℕ} (next : ℕ → ℕ) (one : (at : ℕ) → Passes Reads part gone at (next at)) (after : ℕ → List ℕ → List ℕ)
      (none : (s : List ℕ) → s ≡ after 0 s) (more : (n : ℕ) (s : List ℕ) → after n (gone s) ≡ after (suc n) s) where
    pub times_pass : (n at : ℕ) → Passes Reads (times part n) (after n) at (times_end next n at)
    unfolding times
    times_pass zero at = record { past = λ f l h. record { values = l; reads = h; numbers = none (sheet_numbers l) } }
    times_pass (suc n) at =
        record {
          past = λ f l h.
              let p = (one at).past (times part n f) l h in
              let q = (times_pass n (next at)).past f p.values p.reads in
              record { values = q.values; reads = q.reads; numbers = q.numbers ∙ ap (after n) p.numbers ∙ more n (sheet_numbers l) };
        }

  -- ---- a constraint

  module _ {at a b c d e g i to type range start v4 v5 v6 v7 v8 n1 n2 n3 n4 n5 n6 n7 n8 : ℕ} (r1 : FieldRead Reads q_tc_type at a type n1) (r2 : FieldRead Reads q_tc_range a b range n2)
      (r3 : FieldRead Reads (d_tc_start_location range) b c start n3) (r4 : FieldRead Reads (d_tc_end_location range start) c d v4 n4) (r5 : FieldRead Reads (q_tc_front type) d e v5 n5)
      (r6 : FieldRead Reads (v_speed_level type) e g v6 n6) (r7 : FieldRead Reads (q_low_adhesion_rate type) g i v7 n7) (r8 : FieldRead Reads no_current i to v8 n8) where
    pub constraint_read : ConstraintRead Reads at (record { of = n1; range = n2; start = n3; end = n4; q_front = n5; speed = n6; next = to })
    constraint_read = record { passes = record { past = past }; is = is }
      where
        past : (f : Format) (l : List Item) → Reads (temporary_constraint f) at l → Past Reads f to (drop 8 (sheet_numbers l))
        past f l h =
            let s = sheet_numbers l in
            let p = then_past Reads r4 3 s (then_past Reads r3 2 s (then_past Reads r2 1 s (then_past Reads r1 0 s (past_here Reads l h)))) in
            then_past Reads r8 7 s (then_past Reads r7 6 s (then_past Reads r6 5 s (then_past Reads r5 4 s p)))

        is : (f : Format) (l : List Item) → Reads (temporary_constraint f) at l
            → constraint_of (sheet_numbers l) ≡ record { type = n1; range = n2; start = n3; end = n4; q_front = n5; speed = n6 }
        is f l h =
            let s = sheet_numbers l in
            let p0 = past_here Reads l h in
            let p1 = then_past Reads r1 0 s p0 in
            let p2 = then_past Reads r2 1 s p1 in
            let p3 = then_past Reads r3 2 s p2 in
            let p4 = then_past Reads r4 3 s p3 in
            let p5 = then_past Reads r5 4 s p4 in
            rw (then_is Reads r1 0 s p0, then_is Reads r2 1 s p1, then_is Reads r3 2 s p2, then_is Reads r4 3 s p3, then_is Reads r5 4 s p4, then_is Reads r6 5 s p5)

  -- ---- the head of a segment

  module _ {at a b c d e g i to v1 v2 v3 v4 v5 n1 n2 n3 n4 n5 n m : ℕ} (r1 : FieldRead Reads nid_c at a v1 n1) (r2 : FieldRead Reads nid_sp a b v2 n2)
      (r3 : FieldRead Reads m_sp_version b c v3 n3) (r4 : FieldRead Reads m_sp_version c d v4 n4) (r5 : FieldRead Reads q_sp_dir d e v5 n5) (r6 : FieldRead Reads (n_iter 31) e g n n)
      (points : Passes Reads (times timing_point n) (after_points n) g i) (r7 : FieldRead Reads (n_iter constraints) i to m m) (few : m ≤ 31) where
    abbrev head : LegHead
    head = record { identity = record { nid_c = n1; nid_sp = n2; major = n3; minor = n4 }; direction = n5; count = m; constraints = to }

    pub leg_read : LegRead Reads at (record { identity = record { nid_c = n1; nid_sp = n2; major = n3; minor = n4 }; direction = n5; count = m; constraints = to })
    leg_read = record { opened = opened; few = few }
      where
        opened : (f : Format) (l : List Item) → Reads (journey_segment constraints f) at l → LegOpened Reads head (leg_of (sheet_numbers l)) f (after_leg (sheet_numbers l))
        opened f l h =
            let s = sheet_numbers l in
            let p0 = past_here Reads l h in
            let p1 = then_past Reads r1 0 s p0 in
            let p2 = then_past Reads r2 1 s p1 in
            let p3 = then_past Reads r3 2 s p2 in
            let p4 = then_past Reads r4 3 s p3 in
            let p5 = then_past Reads r5 4 s p4 in
            let p6 = then_past Reads r6 5 s p5 in
            let after : ℕ → Format = λ u. times temporary_constraint u f in
            let p7 = points.past (field (n_iter constraints) after) p6.values p6.reads in
            let u = r7.past after p7.values p7.reads in
            let many : get_or s 5 0 ≡ n = then_is Reads r6 5 s p5 in
            let rest : sheet_numbers p7.values ≡ restrictions_of s = p7.numbers ∙ ap (after_points n) p6.numbers ∙ rw many in
            let few : get_or (restrictions_of s) 0 0 ≡ m = ap (λ (z : List ℕ). get_or z 0 0) (sym rest) ∙ r7.is after p7.values p7.reads in
            let left : sheet_numbers u.values ≡ drop 1 (restrictions_of s) = u.numbers ∙ ap (drop 1) rest in
            record {
              values = u.values;
              reads = u.reads;
              is = rw (then_is Reads r1 0 s p0, then_is Reads r2 1 s p1, then_is Reads r3 2 s p2, then_is Reads r4 3 s p3, then_is Reads r5 4 s p4, few, left);
              left_is = rw (few, left);
            }

  -- ---- the legs that are left

  module _ {at : ℕ} {g : Leg} {l : List Leg} (a : LegsAt Reads at (g ∷ l)) where
    first_reads : Reads (journey_segment constraints (times (journey_segment constraints) (length l) end)) at a.values
    unfolding times
    first_reads = a.reads

    pub legs_readable : Readable Reads (journey_segment constraints) at
    legs_readable = record { follows = times (journey_segment constraints) (length l) end; values = a.values; reads = first_reads }

    first_is : g ≡ leg_of (sheet_numbers a.values)
    first_is = let e = a.are in cc

    rest_are : l ≡ legs_of (length l) (after_leg (sheet_numbers a.values))
    rest_are = let e = a.are in cc

    module _ {h : LegHead} (r : LegRead Reads at h) where
      pub opened_first : LegOpened Reads h (leg_of (sheet_numbers a.values)) (times (journey_segment constraints) (length l) end) (after_leg (sheet_numbers a.values))
      opened_first = r.opened (times (journey_segment constraints) (length l) end) a.values first_reads

      -- the constraints of the first of them
      abbrev pub constraints_read : List Constraint
      constraints_read = constraints_of h.count (sheet_numbers opened_first.values)

      pub leg_is : g ≡ leg_with h constraints_read
      leg_is = first_is ∙ opened_first.is

      pub leg_constraints : ConstraintsAt Reads h.constraints h.count constraints_read
      leg_constraints = let o = opened_first in record { follows = times (journey_segment constraints) (length l) end; values = o.values; reads = o.reads; are = refl }

      pub constraints_readable : Readable Reads (times temporary_constraint h.count) h.constraints
      constraints_readable = let o = opened_first in record { follows = times (journey_segment constraints) (length l) end; values = o.values; reads = o.reads }

      -- the others stand after its constraints
      pub legs_next : {to : ℕ} → Passes Reads (times temporary_constraint h.count) (after_constraints h.count) h.constraints to → LegsAt Reads to l
      legs_next p =
          let o = opened_first in
          let q = p.past (times (journey_segment constraints) (length l) end) o.values o.reads in
          record { values = q.values; reads = q.reads; are = rest_are ∙ ap (legs_of (length l)) (o.left_is ∙ sym q.numbers) }

  -- all legs of a journey
  legs_length : (n : ℕ) (s : List ℕ) → length (legs_of n s) ≡ n
  legs_length zero s = refl
  legs_length (suc n) s = ap suc (legs_length n (after_leg s))

  module _ {ns : List ℕ} {r : Legs} (a : LegsRead Reads ns r) where
    pub legs_count : r.count ≡ length (journey_legs ns)
    legs_count = a.count_is ∙ sym (legs_length (get_or ns 7 0) (drop 8 ns))

    pub legs_all : LegsAt Reads r.first (journey_legs ns)
    legs_all =
        let p = a.past in
        let e : r.count ≡ length (journey_legs ns) = legs_count in
        record {
          values = p.values;
          reads = rw e at p.reads;
          are = ap (λ (n : ℕ). legs_of n (drop 8 ns)) (sym (legs_length (get_or ns 7 0) (drop 8 ns))) ∙ ap (legs_of (length (journey_legs ns))) (sym p.numbers);
        }

  -- ---- the constraints that are left

  -- of the constraints all, n are left at the place at; Same: what is known of all from those that are left
  pub record Going (Same : List Constraint → List Constraint → Type 0) (at n : ℕ) (all : List Constraint) : Type 0 where
    pub rest : List Constraint
    pub stand : ConstraintsAt Reads at n rest
    pub same : Same all rest

  pub record Left (first whole : ℕ) (Same : List Constraint → List Constraint → Type 0) (at n : ℕ) : Type 0 where
    pub readable : Readable Reads (times temporary_constraint n) at
    pub going : (l : List Constraint) → ConstraintsAt Reads first whole l → Going Same at n l

  pub left_all : {first whole : ℕ} (Same : List Constraint → List Constraint → Type 0) → ((l : List Constraint) → Same l l) → Readable Reads (times temporary_constraint whole) first
      → Left first whole Same first whole
  left_all Same same r = record { readable = r; going = λ l a. record { rest = l; stand = a; same = same l } }

  module _ {at : ℕ} {c : ConstraintAt} (r : ConstraintRead Reads at c) where
    -- the first of those that are left
    record Split (n : ℕ) (l : List Constraint) : Type 0 where
      pub rest : List Constraint
      pub is : l ≡ constraint_with c ∷ rest
      pub stand : ConstraintsAt Reads c.next n rest

    split : (n : ℕ) (l : List Constraint) → ConstraintsAt Reads at (suc n) l → Split n l
    unfolding times
    split n l a =
        let more = times temporary_constraint n a.follows in
        let q = r.passes.past more a.values a.reads in
        record {
          rest = constraints_of n (drop 8 (sheet_numbers a.values));
          is = a.are ∙ ap (λ (d : Constraint). d ∷ constraints_of n (drop 8 (sheet_numbers a.values))) (r.is more a.values a.reads);
          stand = record { follows = a.follows; values = q.values; reads = q.reads; are = ap (constraints_of n) (sym q.numbers) };
        }

  module _ {first whole : ℕ} {Same : List Constraint → List Constraint → Type 0} {at : ℕ} where
    pub left_constraint : (n : ℕ) → 0 < n → Left first whole Same at n → Readable Reads temporary_constraint at
    unfolding times
    left_constraint zero h g = absurd (omega arith)
    left_constraint (suc n) h g = let r = g.readable in record { follows = times temporary_constraint n r.follows; values = r.values; reads = r.reads }

    -- none is left
    pub left_none : (n : ℕ) → n ≤ 0 → Left first whole Same at n → (l : List Constraint) → ConstraintsAt Reads first whole l → Same l []
    left_none zero h g l a = let w = g.going l a in let e : w.rest ≡ [] = w.stand.are in rw e at w.same
    left_none (suc n) h g l a = absurd (omega arith)

    module _ {c : ConstraintAt} (r : ConstraintRead Reads at c) where
      pub left_first : {C : Type 0} (n : ℕ) → 0 < n → Left first whole Same at n → (l : List Constraint) → ConstraintsAt Reads first whole l
          → ((m : List Constraint) → Same l (constraint_with c ∷ m) → C) → C
      left_first zero h g l a f = absurd (omega arith)
      left_first (suc n) h g l a f = let w = g.going l a in let p = split r n w.rest w.stand in f p.rest (subst (Same l) p.is w.same)

      pub left_next : (Next : List Constraint → List Constraint → Type 0) → ((l m : List Constraint) → Same l (constraint_with c ∷ m) → Next l m) → (n : ℕ) → 0 < n
          → Left first whole Same at n → Left first whole Next c.next (n - 1)
      unfolding times
      left_next Next next zero h g = absurd (omega arith)
      left_next Next next (suc n) h g =
          let e : suc n - 1 ≡ n = omega arith in
          let o = g.readable in
          let q = r.passes.past (times temporary_constraint n o.follows) o.values o.reads in
          rw e
          (record {
            readable = record { follows = o.follows; values = q.values; reads = q.reads };
            going = λ l a.
                let w = g.going l a in
                let p = split r n w.rest w.stand in
                record { rest = p.rest; stand = p.stand; same = next l p.rest (subst (Same l) p.is w.same) };
          })
