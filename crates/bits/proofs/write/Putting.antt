-- One field more after the bits that are put: the number of the bits that are kept, and the bytes.
use Rattle.std.proofs.Common.{◌≡◌, ℕ, zero, suc, ◌+◌, ◌-◌, ◌*◌, ◌/◌, ◌%◌, ◌^◌, ◌<◌, ◌≤◌, Bool, List, [], ◌∷◌, ◌++◌, length, take, drop, set, sym, refl, ap, ◌∙◌, ap₂, mod-lt, mod-eq_of_lt, suc-add, zero-add, add-one, arith, length-append, length-drop, drop_of_length-le, take-take, drop-drop, pow_pos, pow-add, shl_lt, shr-shr}
use native.Mathlib.Nat.{zero-mod, add-mul-mod_self_right}
use lib.Pow.{split, high, field, shl-shr}
use lib.Seq.{sets, length-sets, drop-append-le}
use Rattle.bits.specs.Bits.{bits_of, number, fill, pack, bytes_of_bits}
use Rattle.bits.proofs.Spelling.{length_bits, number_bits, number_small, number_append}
use Rattle.bits.proofs.Padding.{length_fill, fill_add, zeros, length_zeros, fill_zeros, zero_bits, pack_add, take_pack, pack_front, length_pack}
use Rattle.bits.proofs.Cells.{sets_append, take_cells}
use Rattle.bits.specs.internal.write.Filling.{bytes_in, Filled, Filling}

-- ---- bytes of a number

-- the first byte, and the rest
pub bytes_more : (s : List ℕ) (j m d x : ℕ) → d ≡ 8 * m → sets s j (bytes_in (suc m) x) ≡ sets (set s j (x / 2 ^ d % 256)) (j + 1) (bytes_in m x)
bytes_more s j m d x e = rw (e, add-one)

length_bytes_in : (n x : ℕ) → length (bytes_in n x) ≡ n
length_bytes_in zero x = refl
length_bytes_in (suc n) x = ap suc (length_bytes_in n x)

-- bytes in two parts
bytes_parts : (m n x : ℕ) → bytes_in (m + n) x ≡ bytes_in m (x / 2 ^ (8 * n)) ++ bytes_in n x
bytes_parts zero n x = rw zero-add
bytes_parts (suc m) n x =
    let e : 8 * (m + n) ≡ 8 * n + 8 * m = omega arith in
    rw (suc-add, e, ← shr-shr x (8 * n) (8 * m)) (ap (λ (l : List ℕ). x / 2 ^ (8 * n) / 2 ^ (8 * m) % 256 ∷ l) (bytes_parts m n x))

-- twice n bytes
pub bytes_halves : (s : List ℕ) (i n x : ℕ) → sets (sets s i (bytes_in n (x / 2 ^ (8 * n)))) (i + n) (bytes_in n x) ≡ sets s i (bytes_in (n + n) x)
bytes_halves s i n x =
    let b : List ℕ = bytes_in n (x / 2 ^ (8 * n)) in
    sym (rw (bytes_parts n n x, sets_append s i b (bytes_in n x), length_bytes_in n (x / 2 ^ (8 * n))))

-- the top byte of what is left of eight once m are out, and what is left then
pub top_byte : (x m : ℕ) → m ≤ 7 → x * 2 ^ (8 * m) % 2 ^ 64 / 2 ^ 56 ≡ x / 2 ^ (8 * (7 - m)) % 256
top_byte x m h =
    let n : ℕ = x * 2 ^ (8 * m) in
    let d : ℕ = 8 * (7 - m) in
    let e : 56 ≡ 8 * m + d = omega arith in
    let q : n / 2 ^ 56 ≡ x / 2 ^ d = ap (λ (k : ℕ). n / 2 ^ k) e ∙ sym (shr-shr n (8 * m) d) ∙ ap (λ (k : ℕ). k / 2 ^ d) (shl-shr x (8 * m)) in
    field n 8 56 ∙ ap (λ (k : ℕ). k % 256) q

pub next_byte : (x m : ℕ) → x * 2 ^ (8 * m) % 2 ^ 64 * 2 ^ 8 % 2 ^ 64 ≡ x * 2 ^ (8 * (m + 1)) % 2 ^ 64
next_byte x m =
    let n : ℕ = x * 2 ^ (8 * m) in
    let e : 8 * (m + 1) ≡ 8 * m + 8 = omega arith in
    let p : x * 2 ^ (8 * (m + 1)) ≡ n % 2 ^ 64 * 2 ^ 8 + n / 2 ^ 64 * 2 ^ 8 * 2 ^ 64 = rw (e, pow-add 2 (8 * m) 8) (omega (arith, split n 64)) in
    sym (ap (λ (k : ℕ). k % 2 ^ 64) p ∙ add-mul-mod_self_right (n % 2 ^ 64 * 2 ^ 8) (n / 2 ^ 64 * 2 ^ 8) (2 ^ 64))

-- the lowest bytes do not depend on what stands above them
bytes_low : (n a b : ℕ) → bytes_in n (a * 2 ^ (8 * n) + b) ≡ bytes_in n b
bytes_low zero a b = refl
bytes_low (suc n) a b =
    let e : 8 * suc n ≡ 8 + 8 * n = omega arith in
    let p : a * 2 ^ (8 * suc n) + b ≡ a * 256 * 2 ^ (8 * n) + b = rw (e, pow-add 2 8 (8 * n)) (omega arith) in
    rw p (ap₂ (λ (h : ℕ) (l : List ℕ). h ∷ l) (first (8 * n)) (bytes_low n (a * 256) b))
  where
    first : (k : ℕ) → (a * 256 * 2 ^ k + b) / 2 ^ k % 256 ≡ b / 2 ^ k % 256
    first k =
        let e : a * 256 * 2 ^ k + b ≡ (b / 2 ^ k + a * 256) * 2 ^ k + b % 2 ^ k = omega (arith, split b k) in
        rw (e, high (b / 2 ^ k + a * 256) k (mod-lt b (pow_pos k))) (add-mul-mod_self_right (b / 2 ^ k) a 256)

-- the bytes of the number that n bytes of bits spell
pub bytes_pack : (n : ℕ) (t : List Bool) → bytes_in n (number (fill (8 * n) t)) ≡ pack n t
bytes_pack zero t = refl
bytes_pack (suc n) t =
    let e : 8 * suc n ≡ 8 + 8 * n = omega arith in
    let p : List Bool = fill 8 t in
    let q : List Bool = fill (8 * n) (drop 8 t) in
    let l : length q ≡ 8 * n = length_fill (8 * n) (drop 8 t) in
    let f : number (fill (8 * suc n) t) ≡ number p * 2 ^ (8 * n) + number q = rw (e, fill_add 8 (8 * n) t, number_append p q, l) in
    let b : number q < 2 ^ (8 * n) = rw l at (number_small q) in
    let s : number p < 256 = rw (length_fill 8 t) at (number_small p) in
    rw (f, high (number p) (8 * n) b, mod-eq_of_lt s)
    (ap (λ (r : List ℕ). number p ∷ r) (bytes_low n (number p) (number q) ∙ bytes_pack n (drop 8 t)))

-- ---- the bits that are kept

number_zeros : (n : ℕ) → number (zeros n) ≡ 0
number_zeros n = sym (ap number (zero_bits n)) ∙ number_bits n 0 ∙ zero-mod (2 ^ n)

none : (n : ℕ) → number (fill n []) ≡ 0
unfolding zeros
none n = number_zeros n

-- bits at the top of n
top : (t : List Bool) (n : ℕ) → length t ≤ n → number (fill n t) ≡ number t * 2 ^ (n - length t)
top t n h = rw (fill_zeros t n h, number_append t (zeros (n - length t)), number_zeros, length_zeros) (omega arith)

sixty_four : (t : List Bool) → number (fill 64 t) < 2 ^ 64
sixty_four t = rw (length_fill 64 t) at (number_small (fill 64 t))

-- a field after the bits that are kept
join : (t : List Bool) (w v : ℕ) → length t + w ≤ 64 → v < 2 ^ w → number (fill 64 (t ++ bits_of w v)) ≡ number (fill 64 t) + v * 2 ^ (64 - (length t + w))
join t w v h l =
    let d : ℕ = 64 - (length t + w) in
    let n : length (t ++ bits_of w v) ≡ length t + w = length-append t (bits_of w v) ∙ rw (length_bits w v) in
    let e : 64 - length t ≡ w + d = omega arith in
    top (t ++ bits_of w v) 64 (omega arith)
    ∙ rw (n, number_append t (bits_of w v), length_bits w v, number_bits w v, mod-eq_of_lt l, top t 64 (omega arith), e, pow-add 2 w d) (omega arith)

-- the bits that are kept once m whole bytes are stored
shift : (t : List Bool) (m : ℕ) → m ≤ 8 → length t ≤ 64 → number (fill 64 t) * 2 ^ (m * 8) % 2 ^ 64 ≡ number (fill 64 (drop (8 * m) t))
shift t m h l =
    let d : ℕ = 64 - 8 * m in
    let k : m * 8 ≡ 8 * m = omega arith in
    let e : 64 ≡ 8 * m + d = omega arith in
    let g : 64 ≡ d + 8 * m = omega arith in
    let p : List Bool = fill (8 * m) t in
    let u : List Bool = drop (8 * m) t in
    let q : List Bool = fill d u in
    let lq : length q ≡ d = length_fill d u in
    let f : fill 64 t ≡ p ++ q = ap (λ (n : ℕ). fill n t) e ∙ fill_add (8 * m) d t in
    let x : number (fill 64 t) ≡ number p * 2 ^ d + number q = ap number f ∙ number_append p q ∙ rw lq in
    let pw : 2 ^ 64 ≡ 2 ^ d * 2 ^ (8 * m) = ap (λ (n : ℕ). 2 ^ n) g ∙ pow-add 2 d (8 * m) in
    let small : number q * 2 ^ (8 * m) < 2 ^ 64 = omega (arith, pw, pow-add 2 d (8 * m), shl_lt {a = number q} d (8 * m) (rw lq at (number_small q))) in
    let lu : length u ≤ d = omega (arith, length-drop (8 * m) t) in
    let z : number (fill 64 u) ≡ number q * 2 ^ (8 * m) =
    ap number (ap (λ (n : ℕ). fill n u) g ∙ fill_add d (8 * m) u ∙ ap (λ (y : List Bool). q ++ fill (8 * m) y) (drop_of_length-le u lu))
    ∙ number_append q (fill (8 * m) [])
    ∙ rw (length_fill (8 * m) [], none (8 * m)) (omega arith) in
    let y : number (fill 64 t) * 2 ^ (8 * m) ≡ number q * 2 ^ (8 * m) + number p * 2 ^ 64 = rw (x, pw) (omega arith) in
    rw (k, y, add-mul-mod_self_right, mod-eq_of_lt small) (sym z)

-- ---- the bytes

all_long : (bits : List Bool) (w v : ℕ) → length (bits ++ bits_of w v) ≡ length bits + w
all_long bits w v = length-append bits (bits_of w v) ∙ rw (length_bits w v)

filled_bytes : (s : List ℕ) (bits : List Bool) (at w v k : ℕ) → at ≡ length bits → w ≤ 32 → (at + w + 7) / 8 ≡ at / 8 + k → (at ≤ 8 * length s → take ((at + 7) / 8) s ≡ bytes_of_bits bits) → at + w ≤ 8 * length s
    → take ((at + w + 7) / 8) (sets s (at / 8) (pack 8 (drop (8 * (at / 8)) (bits ++ bits_of w v)))) ≡ bytes_of_bits (bits ++ bits_of w v)
filled_bytes s bits at w v k c n e h g =
    let i : ℕ = at / 8 in
    let o : ℕ = (at + 7) / 8 in
    let all : List Bool = bits ++ bits_of w v in
    let t : List Bool = drop (8 * i) all in
    let f : (length all + 7) / 8 ≡ i + k = ap (λ (m : ℕ). (m + 7) / 8) (all_long bits w v ∙ rw (← c)) ∙ e in
    let d : (length bits + 7) / 8 ≡ o = rw (← c) in
    let a : take i s ≡ pack i bits = sym (take-take i o s (omega arith)) ∙ ap (take i) (h (omega arith) ∙ rw d) ∙ take_pack i o bits (omega arith) in
    let b : pack i bits ≡ pack i all = sym (pack_front i bits (bits_of w v) (omega arith)) in
    rw (f, e, take_cells s i k (pack 8 t) (omega arith) (omega (arith, length_pack 8 t)), a, b, take_pack k 8 t (omega arith)) (sym (pack_add i k all))

-- ---- the field

pub filling : (s : List ℕ) (at wait w v x : ℕ) → w ≤ 32 → v < 2 ^ w → x ≡ (wait + v * 2 ^ (64 - (at % 8 + w)) % 2 ^ 64) % 2 ^ 64
    → Filling s at wait w v (sets s (at / 8) (bytes_in 8 x)) (x * 2 ^ ((at % 8 + w) / 8 * 8) % 2 ^ 64)
filling s at wait w v x n l e = record { long = length-sets s (at / 8) (bytes_in 8 x); fills = λ bits f. go bits f.count f.waits f.bytes }
  where
    go : (bits : List Bool) → at ≡ length bits → wait ≡ number (fill 64 (drop (8 * (at / 8)) bits)) → (at ≤ 8 * length s → take ((at + 7) / 8) s ≡ bytes_of_bits bits)
        → Filled (bits ++ bits_of w v) (sets s (at / 8) (bytes_in 8 x)) (at + w) (x * 2 ^ ((at % 8 + w) / 8 * 8) % 2 ^ 64)
    go bits c d b =
        let i : ℕ = at / 8 in
        let t : List Bool = drop (8 * i) bits in
        let u : List Bool = drop (8 * i) (bits ++ bits_of w v) in
        let lt : length t ≡ at % 8 = omega (arith, length-drop (8 * i) bits) in
        let du : u ≡ t ++ bits_of w v = drop-append-le (8 * i) bits (bits_of w v) (omega arith) in
        let j : number (fill 64 u) ≡ wait + v * 2 ^ (64 - (at % 8 + w)) = ap (λ (y : List Bool). number (fill 64 y)) du ∙ join t w v (omega arith) l ∙ rw (lt, ← d) in
        let m : wait + v * 2 ^ (64 - (at % 8 + w)) < 2 ^ 64 = rw (← j) (sixty_four u) in
        let x-is : x ≡ number (fill 64 u) = e ∙ rw (mod-eq_of_lt {n = v * 2 ^ (64 - (at % 8 + w))} {m = 2 ^ 64} (omega arith), mod-eq_of_lt m) (sym j) in
        let r : 8 * ((at + w) / 8) ≡ 8 * i + 8 * ((at % 8 + w) / 8) = omega arith in
        let long : length u ≤ 64 = omega (arith, ap length du, length-append t (bits_of w v), length_bits w v) in
        record {
          count = rw (length-append bits (bits_of w v), length_bits w v) (omega arith);
          waits = rw x-is (shift u ((at % 8 + w) / 8) (omega arith) long ∙ rw (drop-drop (8 * ((at % 8 + w) / 8)) (8 * i) (bits ++ bits_of w v), r));
          bytes = λ g. ap (λ (y : List ℕ). take ((at + w + 7) / 8) (sets s i y)) (ap (bytes_in 8) x-is ∙ bytes_pack 8 u) ∙ filled_bytes s bits at w v ((at + w + 7) / 8 - i) c n (omega arith) b (omega (arith, g, length-sets s i (bytes_in 8 x)));
        }
