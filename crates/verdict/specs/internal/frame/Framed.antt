-- The frame of a packet: a refusal, or the bit where the fields end; and the padding. Used by contracts of the code; no promise names these.
use Rattle.std.specs.Prelude.{Bool, true, false, cond, List, [], ◌∷◌, ℕ, ◌+◌, ◌/◌, eqb, ltb, length}
use Rattle.grammar.specs.segment.Frame.{packet_number, body_bits}
use Rattle.verdict.specs.internal.Verdict.{Verdict}

-- refusals 1, 2 and 3 of a packet whose number is to be n, or the bit where its fields end
abbrev pub frame_of : ℕ → List ℕ → Verdict
frame_of n s =
    cond (ltb (length s) 15) (Verdict.refused 1 0)
    (cond (eqb (packet_number s) n)
    (cond (eqb (length s) (15 + (body_bits s + 7) / 8)) (Verdict.sized (120 + body_bits s)) (Verdict.refused 3 0))
    (Verdict.refused 2 0))

-- the place of the first 1 among bits that stand at the place at, or of their end
abbrev pub one_or_end : ℕ → List Bool → ℕ
one_or_end at [] = at
one_or_end at (true ∷ s) = at
one_or_end at (false ∷ s) = one_or_end (at + 1) s
