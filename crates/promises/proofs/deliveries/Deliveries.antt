-- However a packet was cut, and from any state that starts afresh, the verdict and the sheet are the verdict on and the sheet of the joined bytes, or both are 8; by induction over the deliveries.
use mathlib.Core.Path.{◌≡◌, refl, sym, ap, ◌∙◌}
use mathlib.Core.Bool.{true, false}
use mathlib.Core.List.{List, [], ◌∷◌, ◌++◌, append-nil, append_assoc, flatten}
use Prim.Native.Nat.{ℕ, ◌+◌, ◌≤◌}
use mathlib.Core.Logic.{inl, inr}
use native.Mathlib.Omega.{arith}
use borrow.Author.Tests.{leb-true, le-leb, eqb-true, eqb-false, ne_eqb}
use lib.Dec.{eqb, leb, lit≤}
use lib.ListN.{length, length-append, length-drop, drop}
use lib.Seq.{take-append_seam, drop-append-add, drop-drop}
use Rattle.bits.proofs.Tests.{by_cases, and_left, and_right}
use Rattle.format.specs.Format.{Read, accepted, refused}
use Rattle.grammar.proofs.segment.Refusals.{among_positive}
use Rattle.grammar.specs.link.Link.{from_either_packet}
use Rattle.grammar.proofs.link.Grounds.{either_packet_grounds, either_packet_listed}
use Rattle.convert.specs.Convert.{refused_with, packet_to_sheet}
use Rattle.intake.specs.declared.Intake.{Intake}
use Rattle.intake.specs.Intake.{gathering, passed, judged_as, gathered, holds, Delivered, delivered, judged_of, completed, asked}
use Rattle.promises.specs.Ranges.{OneOutcome}
use Rattle.promises.specs.deliveries.Refused.{DeliveryEnds}
use Rattle.promises.proofs.Refused.{one_outcome}
use Rattle.promises.proofs.deliveries.Verdicts.{judged_tested, packet_judged}
use Rattle.promises.specs.deliveries.Deliveries.{delivered_all, Afresh, fresh, after_verdict, room_after, verdict_after, AsJoined, TooLong}

-- ---- what a room holds

held : (room : List ℕ) (n : ℕ) → holds room n ≡ true → (n ≤ length room) × (n ≤ 4294967295)
held room n e = (leb-true n (length room) (and_left (leb n (length room)) (leb n 4294967295) e), leb-true n 4294967295 (and_right (leb n (length room)) (leb n 4294967295) e))

holding : (room : List ℕ) (n : ℕ) → n ≤ length room → n ≤ 4294967295 → holds room n ≡ true
holding room n h l = rw (le-leb n (length room) h, le-leb n 4294967295 l)

-- ---- one delivery into a room that begins with the bytes p

empty : (d : List ℕ) → length d ≡ 0 → d ≡ []
empty [] e = refl
empty (b ∷ d) e = absurd (omega arith)

module _ (p rest d : List ℕ) where
  none : length d ≡ 0 → delivered (gathering (length p)) d (p ++ rest) ≡ record { intake = gathering (length p); room = p ++ rest }
  unfolding delivered
  none e = rw e

  module _ (some : length d ≡ 0 → ⊥) where
    over : holds (p ++ rest) (length p + length d) ≡ false → delivered (gathering (length p)) d (p ++ rest) ≡ record { intake = passed; room = p ++ rest }
    unfolding delivered
    over e = rw (ne_eqb (length d) 0 some, e)

    put : holds (p ++ rest) (length p + length d) ≡ true
        → delivered (gathering (length p)) d (p ++ rest) ≡ record { intake = gathering (length (p ++ d)); room = (p ++ d) ++ drop (length d) rest }
    unfolding delivered
    put e =
        rw (ne_eqb (length d) 0 some, e, take-append_seam p rest, drop-append-add p rest (length d), length-append p d, append_assoc p d (drop (length d) rest))

-- ---- deliveries after the room's end was passed

past : (ds : List (List ℕ)) (room : List ℕ) → delivered_all passed ds room ≡ record { intake = passed; room = room }
unfolding delivered
past [] room = refl
past (d ∷ ds) room = by_cases (eqb (length d) 0) (λ e. rw e (past ds room)) (λ e. rw e (past ds room))

-- ---- all deliveries into a room that begins with the bytes p

-- moving the next delivery to the bytes p before it changes neither the length of the room nor the joined bytes
module _ (p rest d : List ℕ) (n : ℕ) (fits : length d ≤ length rest) where
  same_room : length ((p ++ d) ++ drop (length d) rest) ≡ length (p ++ rest)
  same_room = rw (length-append (p ++ d) (drop (length d) rest), length-append p d, length-append p rest, length-drop (length d) rest) (omega arith)

  same_count : length (p ++ d) + n ≡ length p + (length d + n)
  same_count = rw (length-append p d) (omega arith)

  same_holds : holds ((p ++ d) ++ drop (length d) rest) (length (p ++ d) + n) ≡ holds (p ++ rest) (length p + (length d + n))
  same_holds = rw (same_room, same_count)

-- a delivery that the room holds fits what is left of it
fits_rest : (p rest d : List ℕ) → holds (p ++ rest) (length p + length d) ≡ true → length d ≤ length rest
fits_rest p rest d e = let h = (held (p ++ rest) (length p + length d) e).0 in omega (arith, length-append p rest)

-- all deliveries are written if the room holds them
within : (ds : List (List ℕ)) (p rest : List ℕ) → holds (p ++ rest) (length p + length (flatten ds)) ≡ true
    → delivered_all (gathering (length p)) ds (p ++ rest) ≡ record { intake = gathering (length p + length (flatten ds)); room = (p ++ flatten ds) ++ drop (length (flatten ds)) rest }
unfolding flatten
within [] p rest e = let z : length p + 0 ≡ length p = omega arith in rw (z, append-nil p)
within (d ∷ ds) p rest e =
    by_cases (eqb (length d) 0)
    (λ z. let n = eqb-true (length d) 0 z in let q : d ≡ [] = empty d n in rw (none p rest d n, q) (within ds p rest (rw q at e)))
    (λ z.
    let some = eqb-false (length d) 0 z in
    let h = held (p ++ rest) (length p + length (d ++ flatten ds)) e in
    let l = length-append d (flatten ds) in
    let now : holds (p ++ rest) (length p + length d) ≡ true = holding (p ++ rest) (length p + length d) (omega (arith, h.0, l)) (omega (arith, h.1, l)) in
    let fits = fits_rest p rest d now in
    let n = length (flatten ds) in
    let later = within ds (p ++ d) (drop (length d) rest) (same_holds p rest d n fits ∙ rw l at e) in
    rw (put p rest d some now) (later ∙ rw (same_count p rest d n fits, append_assoc p d (flatten ds), drop-drop n (length d) rest, l)))

-- if the room does not hold all deliveries: the deliveries before the first that passes its end; the room begins with the bytes p and these deliveries
record Beyond (ds : List (List ℕ)) (p rest : List ℕ) : Type 0 where
  pub before : List (List ℕ)
  pub first : List ℕ
  pub after : List (List ℕ)
  pub split : ds ≡ before ++ first ∷ after
  pub fits : holds (p ++ rest) (length p + length (flatten before)) ≡ true
  pub passes : holds (p ++ rest) (length p + (length (flatten before) + length first)) ≡ false
  pub room : delivered_all (gathering (length p)) ds (p ++ rest) ≡ record { intake = passed; room = (p ++ flatten before) ++ drop (length (flatten before)) rest }

skip : (d : List ℕ) (ds : List (List ℕ)) (p rest : List ℕ) → length d ≡ 0 → Beyond ds p rest → Beyond (d ∷ ds) p rest
unfolding flatten delivered
skip [] ds p rest e b = record {
  before = [] ∷ b.before;
  first = b.first;
  after = b.after;
  split = ap (λ (l : List (List ℕ)). [] ∷ l) b.split;
  fits = b.fits;
  passes = b.passes;
  room = b.room;
}
skip (a ∷ d) ds p rest e b = absurd (omega arith)

-- one delivery more that the room holds
one_more : (d : List ℕ) (ds : List (List ℕ)) (p rest : List ℕ) → (length d ≡ 0 → ⊥) → holds (p ++ rest) (length p + length d) ≡ true
    → Beyond ds (p ++ d) (drop (length d) rest) → Beyond (d ∷ ds) p rest
unfolding flatten
one_more d ds p rest some now b =
    let f = flatten b.before in
    let fits = fits_rest p rest d now in
    let l = length-append d f in
    let sum : length d + (length f + length b.first) ≡ (length d + length f) + length b.first = omega arith in
    record {
      before = d ∷ b.before;
      first = b.first;
      after = b.after;
      split = ap (λ (m : List (List ℕ)). d ∷ m) b.split;
      fits = rw l (sym (same_holds p rest d (length f) fits) ∙ b.fits);
      passes = rw (l, ← sum) (sym (same_holds p rest d (length f + length b.first) fits) ∙ b.passes);
      room = rw (put p rest d some now) (b.room ∙ rw (append_assoc p d f, drop-drop (length f) (length d) rest, l));
    }

-- the first delivery passes the room's end
at_once : (d : List ℕ) (ds : List (List ℕ)) (p rest : List ℕ) → length p ≤ 4294967295 → (length d ≡ 0 → ⊥) → holds (p ++ rest) (length p + length d) ≡ false
    → Beyond (d ∷ ds) p rest
unfolding flatten
at_once d ds p rest few some now =
    let z : 0 + length d ≡ length d = omega arith in
    record {
      before = [];
      first = d;
      after = ds;
      split = refl;
      fits = holding (p ++ rest) (length p + 0) (omega (arith, length-append p rest)) (omega arith);
      passes = rw z now;
      room = rw (over p rest d some now) (past ds (p ++ rest) ∙ rw (append-nil p));
    }

beyond : (ds : List (List ℕ)) (p rest : List ℕ) → length p ≤ 4294967295 → holds (p ++ rest) (length p + length (flatten ds)) ≡ false → Beyond ds p rest
unfolding flatten
beyond [] p rest few e =
    let y : holds (p ++ rest) (length p + 0) ≡ true = holding (p ++ rest) (length p + 0) (omega (arith, length-append p rest)) (omega arith) in
    absurd (let f : true ≡ false = sym y ∙ e in let z : ◌≡◌ {A = ℕ} 0 1 = cc in omega arith)
beyond (d ∷ ds) p rest few e =
    by_cases (eqb (length d) 0)
    (λ z. let n = eqb-true (length d) 0 z in let q : d ≡ [] = empty d n in skip d ds p rest n (beyond ds p rest few (rw q at e)))
    (λ z.
    let some = eqb-false (length d) 0 z in
    by_cases (holds (p ++ rest) (length p + length d))
    (λ now.
    let fits = fits_rest p rest d now in
    let most = (held (p ++ rest) (length p + length d) now).1 in
    one_more d ds p rest some now (beyond ds (p ++ d) (drop (length d) rest) (rw (length-append p d) most) (same_holds p rest d (length (flatten ds)) fits ∙ rw (length-append d (flatten ds)) at e)))
    (λ now. at_once d ds p rest few some now))

-- ---- a state with a verdict takes deliveries as a fresh state does

idle : (i : Intake) (d room : List ℕ) → length d ≡ 0 → delivered i d room ≡ record { intake = i; room = room }
unfolding delivered
idle i d room e = rw e

-- the verdict after the deliveries that are left, from the state and the room after one delivery
abbrev verdict_on : List (List ℕ) → Delivered → Intake
verdict_on ds x = verdict_after x.intake ds x.room

abbrev room_on : List (List ℕ) → Delivered → List ℕ
room_on ds x = room_after x.intake ds x.room

module _ (i : Intake) (judged : i.phase ≡ 2) where
  first : (d room : List ℕ) → (length d ≡ 0 → ⊥) → delivered i d room ≡ delivered (gathering 0) d room
  unfolding delivered
  first d room some = rw (ne_eqb (length d) 0 some, judged)

  nothing : (room : List ℕ) → completed i room ≡ completed (gathering 0) room
  unfolding completed
  nothing room = rw judged

  afresh : (ds : List (List ℕ)) (room : List ℕ)
      → (verdict_after i ds room ≡ verdict_after (gathering 0) ds room) × (room_after i ds room ≡ room_after (gathering 0) ds room)
  afresh [] room = (nothing room, refl)
  afresh (d ∷ ds) room =
      by_cases (eqb (length d) 0)
      (λ e.
      let n = eqb-true (length d) 0 e in
      let later = afresh ds room in (
        ap (verdict_on ds) (idle i d room n) ∙ later.0 ∙ sym (ap (verdict_on ds) (idle (gathering 0) d room n)),
        ap (room_on ds) (idle i d room n) ∙ later.1 ∙ sym (ap (room_on ds) (idle (gathering 0) d room n)),
      ))
      (λ e. let q = first d room (eqb-false (length d) 0 e) in (ap (verdict_on ds) q, ap (room_on ds) q))

-- ---- the verdict, and the sheet that is asked for

module _ (s rest : List ℕ) where
  judged_whole : completed (gathering (length s)) (s ++ rest) ≡ judged_of (length s) (from_either_packet s)
  unfolding completed
  judged_whole = rw (le-leb (length s) (length (s ++ rest)) (omega (arith, length-append s rest)), take-append_seam s rest)

  asked_whole : (out : List ℕ) → asked (judged_of (length s) (from_either_packet s)) (s ++ rest) out ≡ packet_to_sheet s out
  unfolding asked packet_to_sheet
  asked_whole out = go (from_either_packet s) refl
    where
      go : (q : Read) → from_either_packet s ≡ q → asked (judged_of (length s) q) (s ++ rest) out ≡ packet_to_sheet s out
      go (refused r place) e =
          let g = (either_packet_grounds s r place).0 e in
          let n = among_positive (either_packet_listed s r place g) refl in
          rw (judged_tested (judged_as (length s) r place) (packet_judged (length s) s r place g), ne_eqb r 0 (λ z. omega arith), e)
      go (accepted l) e = rw (le-leb (length s) (length (s ++ rest)) (omega (arith, length-append s rest)), take-append_seam s rest)

-- ---- the promises

module _ (ds : List (List ℕ)) (room : List ℕ) where
  abbrev rest : List ℕ
  rest = drop (length (flatten ds)) room

  -- all deliveries are in the room, from a fresh state
  all_in : holds room (length (flatten ds)) ≡ true → delivered_all (gathering 0) ds room ≡ record { intake = gathering (length (flatten ds)); room = flatten ds ++ rest }
  all_in e = let z : 0 + length (flatten ds) ≡ length (flatten ds) = omega arith in rw z at (within ds [] room (rw z e))

  fresh_verdict : holds room (length (flatten ds)) ≡ true → verdict_after (gathering 0) ds room ≡ judged_of (length (flatten ds)) (from_either_packet (flatten ds))
  fresh_verdict e = ap (λ (x : Delivered). completed x.intake x.room) (all_in e) ∙ judged_whole (flatten ds) rest

  fresh_room : holds room (length (flatten ds)) ≡ true → room_after (gathering 0) ds room ≡ flatten ds ++ rest
  fresh_room e = ap (λ (x : Delivered). x.room) (all_in e)

  not_in : holds room (length (flatten ds)) ≡ false → Beyond ds [] room
  not_in e = let z : 0 + length (flatten ds) ≡ length (flatten ds) = omega arith in beyond ds [] room (lit≤ tt) (rw z e)

  passed_verdict : (end : List ℕ) → completed passed end ≡ judged_as 0 8 0
  unfolding completed
  passed_verdict end = refl

  asked_again : (end out : List ℕ) → asked (judged_as 0 8 0) end out ≡ refused_with 8 0 out
  unfolding asked
  asked_again end out = refl

  module _ (i : Intake) where
    -- the verdict and the room equal the verdict and the room from a fresh state
    as_fresh : {C : Type 0} → Afresh i → (verdict_after i ds room ≡ verdict_after (gathering 0) ds room → room_after i ds room ≡ room_after (gathering 0) ds room → C) → C
    as_fresh (fresh e) f = f (ap (λ (j : Intake). verdict_after j ds room) e) (ap (λ (j : Intake). room_after j ds room) e)
    as_fresh (after_verdict e) f = f (afresh i e ds room).0 (afresh i e ds room).1

    -- "if one room is lent throughout, holds them": the verdict and the sheet equal the answers for the joined bytes given at once
    pub as_joined : Afresh i → holds room (length (flatten ds)) ≡ true → AsJoined i ds room
    as_joined a e = as_fresh a λ v r. record {
      verdict = v ∙ fresh_verdict e;
      sheet = λ out. rw (v ∙ fresh_verdict e, r ∙ fresh_room e) (asked_whole (flatten ds) rest out);
      stays = r ∙ fresh_room e;
    }

    -- "if the deliveries together exceeded the room": the verdict is 8
    pub too_long_lem : Afresh i → holds room (length (flatten ds)) ≡ false → TooLong i ds room
    too_long_lem a e =
        as_fresh a λ v r.
        let n = not_in e in
        let y : 0 + length (flatten n.before) ≡ length (flatten n.before) = omega arith in
        let z : 0 + (length (flatten n.before) + length n.first) ≡ length (flatten n.before) + length n.first = omega arith in
        let w : verdict_after i ds room ≡ judged_as 0 8 0 = v ∙ ap (λ (x : Delivered). completed x.intake x.room) n.room ∙ passed_verdict _ in
        record {
          verdict = w;
          sheet = λ out. rw w (asked_again _ out);
          before = n.before;
          first = n.first;
          after = n.after;
          split = n.split;
          fits = rw y at n.fits;
          passes = rw z at n.passes;
          stays = r ∙ ap (λ (x : Delivered). x.room) n.room;
        }

-- "one possible outcome for every input": how a delivery ends, from any state
pub delivered_outcome : (i : Intake) (d room : List ℕ) → OneOutcome (delivered i d room) (DeliveryEnds i d room)
unfolding delivered
delivered_outcome i d room =
    one_outcome (delivered i d room)
    (by_cases (eqb (length d) 0)
    (λ e. DeliveryEnds.idle (eqb-true (length d) 0 e) (idle i d room (eqb-true (length d) 0 e)))
    (λ e.
    let n = eqb-false (length d) 0 e in
    let some : 1 ≤ length d = filled d n in
    by_cases (eqb i.phase 1)
    (λ p. DeliveryEnds.unwritten some (inl (eqb-true i.phase 1 p)) (rw (e, p)))
    (λ p. by_cases (holds room (gathered i + length d))
    (λ h. DeliveryEnds.put some (eqb-false i.phase 1 p) h (rw (e, p, h)))
    (λ h. DeliveryEnds.unwritten some (inr h) (rw (e, p, h))))))
  where
    filled : (l : List ℕ) → (length l ≡ 0 → ⊥) → 1 ≤ length l
    filled [] n = absurd (n refl)
    filled (b ∷ l) n = omega arith
