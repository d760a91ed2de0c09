-- The cases that document 01 spells out, as facts of the field kinds: how speeds and currents are lowered, and which number each refused value gets.
use mathlib.Core.Path.{◌≡◌, refl}
use mathlib.Core.Bool.{false, and-false}
use mathlib.Core.List.{[], ◌∷◌, map}
use mathlib.Core.Option.{some}
use Prim.Native.Nat.{ℕ, zero, suc, ◌/◌, ◌%◌, ◌^◌, ◌<◌, ◌≤◌}
use native.Mathlib.Nat.{pow-succ', div-div-eq-div-mul}
use native.Mathlib.Omega.{arith}
use borrow.Author.Tests.{le-ltb, lt-leb}
use lib.Dec.{ltb, leb-zero}
use Rattle.bits.proofs.Tests.{by_cases}
use Rattle.std.specs.Prelude.{Ok, Err}
use Rattle.kinds.specs.Tables.{place}
use Rattle.kinds.specs.Kinds.{digit, digits, speed, nc_cd_diff, d_location, m_voltage, nid_c_traction, m_current}
use Rattle.kinds.specs.Judged.{number_in_sheet}

-- "604 gives 120 and 605 is refused"
pub speed_604 : number_in_sheet speed 604 ≡ Ok (record { sheet = 604; packet = 120 })
speed_604 = refl

pub speed_605 : number_in_sheet speed 605 ≡ Err 4
speed_605 = refl

-- "84 must give 80, also 83"
pub speed_84 : number_in_sheet speed 84 ≡ Ok (record { sheet = 84; packet = 16 })
speed_84 = refl

pub speed_83 : number_in_sheet speed 83 ≡ Ok (record { sheet = 83; packet = 16 })
speed_83 = refl

-- "10,009 A gives 1,000 and 10,010 A is refused": amperes + 1
pub current_10009 : number_in_sheet m_current 10010 ≡ Ok (record { sheet = 10010; packet = 1000 })
current_10009 = refl

pub current_10010 : number_in_sheet m_current 10011 ≡ Err 4
current_10010 = refl

-- 0 A, "as 0 forbids all traction", against no limit
pub current_0 : number_in_sheet m_current 1 ≡ Ok (record { sheet = 1; packet = 0 })
current_0 = refl

pub current_none : number_in_sheet m_current 0 ≡ Ok (record { sheet = 0; packet = 1023 })
current_none = refl

-- "002 also maps 600 V to 5; we have no such wire and refuse it"
pub volts_600 : number_in_sheet m_voltage 600 ≡ Err 4
unfolding place
volts_600 = refl

-- 002: "No element→0", 25000 V→1, 15000 V→2, 3000 V→3, 1500 V→4, 750 V→5: the packet's value of each voltage, from the lowest on
pub volts_values : map (λ a. m_voltage.lower a) (0 ∷ 750 ∷ 1500 ∷ 3000 ∷ 15000 ∷ 25000 ∷ []) ≡ map some (0 ∷ 5 ∷ 4 ∷ 3 ∷ 2 ∷ 1 ∷ [])
unfolding place
volts_values = refl

-- 002: "80→0, 100→1, 130→2, 150→3, 165→4, 180→5, 210→6, 225→7, 245→8, 275→9, 300→10": the packet's value of each cant figure, from the highest on
pub cants_values : map (λ a. nc_cd_diff.lower a) (300 ∷ 275 ∷ 245 ∷ 225 ∷ 210 ∷ 180 ∷ 165 ∷ 150 ∷ 130 ∷ 100 ∷ 80 ∷ []) ≡ map some (10 ∷ 9 ∷ 8 ∷ 7 ∷ 6 ∷ 5 ∷ 4 ∷ 3 ∷ 2 ∷ 1 ∷ 0 ∷ [])
unfolding place
cants_values = refl

-- "002's text type would also admit A to E; they are refused": a digit that is none refuses the number, wherever it stands
pub operational_digit : (i n v : ℕ) → i < n → digit (v / 16 ^ i % 16) ≡ false → digits n v ≡ false
unfolding digits
operational_digit i zero v h e = absurd (omega arith)
operational_digit zero (suc n) v h e = let d : v / 16 ^ 0 ≡ v = omega arith in let f : digit (v % 16) ≡ false = rw d at e in rw f
operational_digit (suc i) (suc n) v h e =
    let d : v / 16 ^ suc i ≡ v / 16 / 16 ^ i = rw (pow-succ', ← div-div-eq-div-mul v 16 (16 ^ i)) in
    rw (operational_digit i n (v / 16) (omega arith) (rw d at e)) (and-false (digit (v % 16)))

-- "NID_CTRACTION .. is 0 where the voltage is 0"
pub traction_0 : (v : ℕ) → number_in_sheet (nid_c_traction 0) (suc v) ≡ Err 4
traction_0 v = rw (leb-zero (suc v), lt-leb (suc v) 0 (omega arith))

-- "5: a change's location that does not rise, is 0, or is at or past L_SP, however large"
pub location_low : (last lsp x : ℕ) → x ≤ last → number_in_sheet (d_location last lsp) x ≡ Err 5
location_low last lsp x h = rw (le-ltb last x h)

pub location_high_lem : (last lsp x : ℕ) → lsp ≤ x → number_in_sheet (d_location last lsp) x ≡ Err 5
location_high_lem last lsp x h = by_cases (ltb last x) (λ d. rw (d, le-ltb x lsp h)) (λ d. rw d)
