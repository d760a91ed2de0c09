-- A field kind: its width, its values, their refusal, and the two ways between a sheet's number and a packet's value.
use Rattle.std.specs.Prelude.{Bool, true, false, ◌&&◌, ℕ, leb}
use Rattle.std.proofs.Math.Option.{Option, none, some}

-- "Each field kind keeps its width and its largest value with it"
pub record Kind : Type 0 where
  -- bits in a packet
  pub width : ℕ
  -- the largest value in a packet
  pub largest : ℕ
  -- the highest number in a sheet
  pub highest : ℕ
  -- the values that a packet may have
  pub allowed : ℕ → Bool
  -- the refusal's number where a value is not allowed, by the value
  pub refusal : ℕ → ℕ
  -- from a sheet's number to the packet's value
  pub lower : ℕ → Option ℕ
  -- from a packet's value to the sheet's number
  pub raise : ℕ → ℕ

-- "outside its range" there is none: `some v` where the test passes
abbrev pub when : Bool → ℕ → Option ℕ
when true v = some v
when false v = none

-- "They equal the packet fields": the sheet's number is the packet's value
abbrev pub same : ℕ → ℕ → (ℕ → ℕ) → (ℕ → Bool) → Kind
same width largest refusal allowed =
    record { width = width; largest = largest; highest = largest; allowed = allowed; refusal = refusal; lower = λ a. when (allowed a) a; raise = λ v. v }

-- from least to largest, as "1 to 16,777,215"
abbrev pub range : ℕ → ℕ → ℕ → ℕ → Kind
range width least largest refusal = same width largest (λ _. refusal) (λ v. leb least v && leb v largest)

-- from 0 to largest, as "0 to 112"
abbrev pub up_to : ℕ → ℕ → Kind
up_to width largest = range width 0 largest 4
