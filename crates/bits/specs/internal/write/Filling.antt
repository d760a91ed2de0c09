-- Bytes that are filled with bits from the first on, and the bits that do not fill a byte yet. No promise names them.
use Rattle.std.specs.Prelude.{◌≡◌, ℕ, zero, suc, ◌+◌, ◌*◌, ◌/◌, ◌%◌, ◌^◌, ◌≤◌, Bool, List, [], ◌∷◌, ◌++◌, length, take, drop}
use Rattle.bits.specs.Bits.{bits_of, number, fill, bytes_of_bits}

-- the n lowest bytes of x, the top byte first
abbrev pub bytes_in : ℕ → ℕ → List ℕ
bytes_in zero x = []
bytes_in (suc n) x = x / 2 ^ (8 * n) % 256 ∷ bytes_in n x

-- The bits are put up to the bit at: those after the last whole byte are kept at the top of 64 bits, and where all fit, the bytes hold them, padded with zero bits.
pub record Filled (bits : List Bool) (s : List ℕ) (at wait : ℕ) : Type 0 where
  pub count : at ≡ length bits
  pub waits : wait ≡ number (fill 64 (drop (8 * (at / 8)) bits))
  pub bytes : at ≤ 8 * length s → take ((at + 7) / 8) s ≡ bytes_of_bits bits

-- w bits more, those of v, whatever bits were put before them
pub record Filling (s : List ℕ) (at wait w v : ℕ) (t : List ℕ) (r : ℕ) : Type 0 where
  pub long : length t ≡ length s
  pub fills : (bits : List Bool) → Filled bits s at wait → Filled (bits ++ bits_of w v) t (at + w) r
