-- Tasks over any tree: to count what another medium writes, and to write it. Used by contracts of the code; no promise names these.
use Rattle.std.specs.Prelude.{List, ◌++◌, ℕ, ◌+◌, ◌%◌, length}
use Rattle.format.specs.Format.{Medium}
use Rattle.format.specs.internal.Pass.{Task}

-- what was made of all values, or a refusal with its place
pub data Told (X : Type 0) : Type 0 where
  told : X → Told X
  not : ℕ → ℕ → Told X

-- no refusal
abbrev pub Whole : {X : Type 0} → Told X → Type 0
Whole (Told.told x) = Unit {0}
Whole (Told.not r at) = ⊥

-- how long what is written of the values is
abbrev pub counting : {A C : Type 0} → Medium A → (ℕ → C) → (ℕ → ℕ → C) → Task ℕ C
counting out answer refusal = record { on = λ k i n. n + length (out.put k i); answer = answer; refusal = refusal }

-- how long what is written of the values is, modulo m
abbrev pub counting_within : {A C : Type 0} → ℕ → Medium A → (ℕ → C) → (ℕ → ℕ → C) → Task ℕ C
counting_within m out answer refusal = record { on = λ k i n. (n + length (out.put k i)) % m; answer = answer; refusal = refusal }

-- what is written of the values
abbrev pub recording : {A : Type 0} → Medium A → Task (List A) (Told (List A))
recording out = record { on = λ k i x. x ++ out.put k i; answer = Told.told; refusal = Told.not }
