-- The kind's law, proved for every kind: lowering undoes raising, allowed values fit the width, what is lowered is allowed.
use Rattle.std.proofs.Common.{◌≡◌, ℕ, zero, suc, ◌+◌, ◌-◌, ◌*◌, ◌/◌, ◌^◌, ◌<◌, ◌≤◌, Bool, true, false, cond, ◌&&◌, T, eqb, ltb, leb, List, length, sym, refl, ap, lt_of_lt_of_le, mul-div_cancel, arith, lit<, pow_mono, ltb-true, lt-ltb, ne_eqb, eqb-true, le-leb, leb-true}
use mathlib.Core.Option.{some}
use Rattle.bits.proofs.Tests.{by_cases, and_right, or_cases, and_left}
use Rattle.kinds.specs.Kind.{Kind, when, same, range, up_to}
use Rattle.kinds.specs.Tables.{cant_figures, volts, entry_of, greatest}
use Rattle.kinds.specs.Kinds.{nid_operational, speed, class, d_location, m_voltage, most_traction, nid_c_traction, m_current, d_end_after, no_current}
use Rattle.fields.proofs.Digits.{digits_small}
use Rattle.fields.proofs.Lookup.{distinct, place_small, place_top, place_again, cants_distinct, volts_distinct, place_stands}

T_true : (b : Bool) → T b → b ≡ true
T_true true t = refl
T_true false t = absurd t

-- 1 to 32 bits
pub record Narrow (width : ℕ) : Type 0 where
  pub some : 1 ≤ width
  pub most : width ≤ 32

pub narrow : {width : ℕ} → T (leb 1 width && leb width 32) → Narrow width
narrow {width} t = let e : (leb 1 width && leb width 32) ≡ true = T_true (leb 1 width && leb width 32) t in
    record { some = leb-true 1 width (and_left (leb 1 width) (leb width 32) e); most = leb-true width 32 (and_right (leb 1 width) (leb width 32) e) }

pub record LawfulKind (k : Kind) : Type 0 where
  -- the width, the largest value in a packet, the highest number in a sheet
  pub narrow : Narrow k.width
  pub holds : k.largest < 2 ^ k.width
  pub short : k.highest < 2 ^ 32
  pub most : (v : ℕ) → k.allowed v ≡ true → v ≤ k.largest
  pub top : (a v : ℕ) → k.lower a ≡ some v → a ≤ k.highest
  -- lowering undoes raising
  pub back : (v : ℕ) → k.allowed v ≡ true → k.lower (k.raise v) ≡ some v
  -- what is lowered is allowed
  pub into : (a v : ℕ) → k.lower a ≡ some v → k.allowed v ≡ true
  -- a number that is no speed and no current stays
  pub stays : (k ≡ speed → ⊥) → (k ≡ m_current → ⊥) → (a v : ℕ) → k.lower a ≡ some v → k.raise v ≡ a

-- allowed values fit the width, and their sheet numbers 32 bits
pub value_small : {k : Kind} → LawfulKind k → (v : ℕ) → k.allowed v ≡ true → v < 2 ^ k.width
value_small w v e = omega (arith, w.most v e, w.holds)

pub raised_small : {k : Kind} → LawfulKind k → (v : ℕ) → k.allowed v ≡ true → k.raise v < 2 ^ 32
raised_small {k} w v e = omega (arith, w.top (k.raise v) v (w.back v e), w.short)

when_some : {C : Type 0} (b : Bool) (a v : ℕ) → when b a ≡ some v → (b ≡ true → a ≡ v → C) → C
when_some true a v e f = f refl (cc)
when_some false a v e f = cc

-- ---- one number in both media

pub same_lawful : (width largest : ℕ) (refusal : ℕ → ℕ) (ok : ℕ → Bool) → Narrow width → largest < 2 ^ width → ((v : ℕ) → ok v ≡ true → v ≤ largest)
    → LawfulKind (same width largest refusal ok)
same_lawful width largest refusal ok n h most = record {
  narrow = n;
  holds = h;
  short = lt_of_lt_of_le h (pow_mono n.most);
  most = most;
  top = λ a v e. when_some (ok a) a v e λ t q. most a t;
  back = λ v e. rw e;
  into = λ a v e. when_some (ok a) a v e λ t q. rw q at t;
  stays = λ _ _ a v e. when_some (ok a) a v e λ t q. sym q;
}

pub range_lawful : (width least largest refusal : ℕ) → Narrow width → largest < 2 ^ width → LawfulKind (range width least largest refusal)
range_lawful width least largest refusal n h =
    same_lawful width largest (λ _. refusal) (λ v. leb least v && leb v largest) n h
    λ v e. leb-true v largest (and_right (leb least v) (leb v largest) e)

pub up_to_lawful : (width largest : ℕ) → Narrow width → largest < 2 ^ width → LawfulKind (up_to width largest)
up_to_lawful width largest h m = range_lawful width 0 largest 4 h m

pub operational_lawful : LawfulKind nid_operational
operational_lawful = same_lawful 32 4294967295 (λ _. 4) nid_operational.allowed (narrow tt) (lit< tt) λ v e. omega (arith, digits_small 8 v e)

pub location_lawful : (last lsp : ℕ) → lsp < 2 ^ 24 → LawfulKind (d_location last lsp)
location_lawful last lsp h =
    same_lawful 24 16777215 (λ _. 5) (d_location last lsp).allowed (narrow tt) (lit< tt)
    λ x e. omega (arith, ltb-true x lsp (and_right (ltb last x) (ltb x lsp) e))

pub after_lawful : (start : ℕ) → LawfulKind (d_end_after start)
after_lawful start =
    same_lawful 24 16777215 (d_end_after start).refusal (d_end_after start).allowed (narrow tt) (lit< tt)
    λ v e. leb-true v 16777215 (and_right (ltb start v) (leb v 16777215) e)

most_traction_lem : (u : ℕ) → most_traction u < 2 ^ 10
most_traction_lem zero = lit< tt
most_traction_lem (suc u) = lit< tt

pub traction_lawful : (u : ℕ) → LawfulKind (nid_c_traction u)
traction_lawful u = up_to_lawful 10 (most_traction u) (narrow tt) (most_traction_lem u)

-- ---- steps

pub speed_lawful : LawfulKind speed
speed_lawful = record {
  narrow = narrow tt;
  holds = lit< tt;
  short = lit< tt;
  most = λ v e. leb-true v 120 e;
  top = λ a v e. when_some (leb a 604) (a / 5) v e λ t q. leb-true a 604 t;
  back = λ v e. rw (le-leb (v * 5) 604 (omega (arith, leb-true v 120 e)), mul-div_cancel v (lit< tt));
  into = λ a v e. when_some (leb a 604) (a / 5) v e λ t q. le-leb v 120 (omega (arith, leb-true a 604 t));
  stays = λ n _ _ _ _. absurd (n refl);
}

-- what is known of an allowed current, by cases
current_cases : {C : Type 0} (v : ℕ) → m_current.allowed v ≡ true → (v ≡ 1023 → C) → ((v ≡ 1023 → ⊥) → v ≤ 1000 → C) → C
current_cases v e f g =
    or_cases (leb v 1000) (eqb v 1023) e (λ h. let l : v ≤ 1000 = leb-true v 1000 h in g (λ q. omega arith) l) (λ h. f (eqb-true v 1023 h))

current_into : (a v : ℕ) → m_current.lower a ≡ some v → m_current.allowed v ≡ true
current_into a v e =
    by_cases (eqb a 0)
    (λ z. let f : some 1023 ≡ some v = rw z at e in let q : v ≡ 1023 = cc in rw q)
    (λ z. when_some (leb (a - 1) 10009) ((a - 1) / 10) v (rw z at e) λ t q. rw (le-leb v 1000 (omega (arith, leb-true (a - 1) 10009 t))))

pub current_lawful : LawfulKind m_current
current_lawful = record {
  narrow = narrow tt;
  holds = lit< tt;
  short = lit< tt;
  most = λ v e. current_cases v e (λ q. omega arith) (λ n h. omega arith);
  top = λ a v e. by_cases (eqb a 0)
      (λ z. omega (arith, eqb-true a 0 z))
      (λ z. when_some (leb (a - 1) 10009) ((a - 1) / 10) v (rw z at e) λ t q. omega (arith, leb-true (a - 1) 10009 t));
  back = λ v e. current_cases v e (λ q. rw q) (λ n h.
      let d : v * 10 + 1 - 1 ≡ v * 10 = omega arith in
      rw (ne_eqb v 1023 n, ne_eqb (v * 10 + 1) 0 (λ z. omega arith), d, le-leb (v * 10) 10009 (omega arith), mul-div_cancel v (lit< tt)));
  into = current_into;
  stays = λ _ n _ _ _. absurd (n refl);
}

pub none_lawful : LawfulKind no_current
none_lawful = record {
  narrow = narrow tt;
  holds = lit< tt;
  short = lit< tt;
  most = λ v e. omega (arith, eqb-true v 1023 e);
  top = λ a v e. when_some (eqb a 0) 1023 v e λ t q. omega (arith, eqb-true a 0 t);
  back = λ v e. let q : v ≡ 1023 = eqb-true v 1023 e in rw q;
  into = λ a v e. when_some (eqb a 0) 1023 v e λ t q. rw (← q);
  stays = λ _ _ a v e. when_some (eqb a 0) 1023 v e λ t q. sym (eqb-true a 0 t);
}

-- ---- tables

entry_lawful : (width : ℕ) (table : List ℕ) → Narrow width → length table - 1 < 2 ^ width → distinct table ≡ true → greatest table < 2 ^ 32 → LawfulKind (entry_of width table)
entry_lawful width table n h d g = record {
  narrow = n;
  holds = h;
  short = g;
  most = λ v e. omega (arith, ltb-true v (length table) e);
  top = λ a v e. place_top 0 table a v e;
  back = λ v e. place_again table d v (ltb-true v (length table) e);
  into = λ a v e. lt-ltb v (length table) (omega (arith, place_small 0 table a v e));
  stays = λ _ _ a v e. let z : v - 0 ≡ v = omega arith in rw z at (place_stands 0 table a v e);
}

pub voltage_lawful : LawfulKind m_voltage
voltage_lawful = entry_lawful 4 volts (narrow tt) (lit< tt) volts_distinct (lit< tt)

pub class_lawful : (q : ℕ) → LawfulKind (class q)
class_lawful zero = entry_lawful 4 cant_figures (narrow tt) (lit< tt) cants_distinct (lit< tt)
class_lawful (suc q) = up_to_lawful 4 2 (narrow tt) (lit< tt)

-- ---- what lowering and raising make of a sheet's number

-- speeds are lowered to multiples of 5
pub speed_lowered : (a v : ℕ) → speed.lower a ≡ some v → speed.raise v ≡ a / 5 * 5
speed_lowered a v e = when_some (leb a 604) (a / 5) v e λ t q. ap (λ (n : ℕ). n * 5) (sym q)

-- currents, amperes + 1, to multiples of 10 A; no limit stays
pub current_lowered : (a v : ℕ) → m_current.lower a ≡ some v → m_current.raise v ≡ cond (eqb a 0) 0 ((a - 1) / 10 * 10 + 1)
current_lowered a v e =
    by_cases (eqb a 0)
    (λ z. let f : some 1023 ≡ some v = rw z at e in let q : v ≡ 1023 = cc in rw (z, q))
    (λ z. when_some (leb (a - 1) 10009) ((a - 1) / 10) v (rw z at e) λ t q.
    let n : v ≡ 1023 → ⊥ = λ b. omega (arith, leb-true (a - 1) 10009 t) in
    rw (z, ne_eqb v 1023 n) (omega arith))
