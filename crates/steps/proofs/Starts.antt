-- Steps whose starts are judged: the loop over them, the tests one by one, and the step at its own start.
use mathlib.Core.Path.{◌≡◌, refl, sym, ap, ◌∙◌}
use mathlib.Core.Bool.{Bool, true, false, cond, ◌&&◌}
use mathlib.Core.List.{List, [], ◌∷◌}
use Prim.Native.Nat.{ℕ, zero, suc, ◌+◌, ◌-◌, ◌≤◌, ◌<◌}
use native.Mathlib.Omega.{arith}
use borrow.Author.Tests.{le-leb, lt-leb, leb-true, leb-false, ltb-true, lt-ltb, le-ltb, eqb-true, eq-eqb, ne_eqb}
use lib.Dec.{eqb, ltb, leb}
use lib.ListN.{length, take, drop, get_or}
use Rattle.std.proofs.lemmas.List.{drop_more, drop_all, take_all}
use Rattle.bits.proofs.Tests.{by_cases, and_left, and_right}
use Rattle.steps.specs.Steps.{starts_at_zero, rising_below, stepped, step_speed}

-- ---- starts that rise

-- last is the start before those that are left of the rest
abbrev pub Rising : ℕ → List ℕ → List ℕ → ℕ → ℕ → Type 0
Rising lsp l rest i last = rising_below lsp (last ∷ drop i rest) ≡ rising_below lsp l

module _ (lsp : ℕ) where
  pub rising_first : (l : List ℕ) → 0 < length l → Rising lsp l (take (length l - 1) (drop 1 l)) 0 (get_or l 0 0)
  rising_first [] h = absurd (omega arith)
  rising_first (a ∷ l) h = ap (λ (m : List ℕ). rising_below lsp (a ∷ m)) (take_all (length (a ∷ l) - 1) l (omega arith))

  module _ (l rest : List ℕ) (i last : ℕ) (g : Rising lsp l rest i last) where
    split : i < length rest → rising_below lsp (last ∷ get_or rest i 0 ∷ drop (i + 1) rest) ≡ rising_below lsp l
    split h = ap (λ (m : List ℕ). rising_below lsp (last ∷ m)) (sym (drop_more rest i 0 h)) ∙ g

    pub rising_next : i < length rest → last < get_or rest i 0 → Rising lsp l rest (i + 1) (get_or rest i 0)
    rising_next h less =
        let e : rising_below lsp (get_or rest i 0 ∷ drop (i + 1) rest) ≡ rising_below lsp (last ∷ get_or rest i 0 ∷ drop (i + 1) rest) = rw (lt-ltb last (get_or rest i 0) less) in
        e ∙ split h

    pub rising_not : i < length rest → get_or rest i 0 ≤ last → false ≡ rising_below lsp l
    rising_not h more =
        let e : false ≡ rising_below lsp (last ∷ get_or rest i 0 ∷ drop (i + 1) rest) = rw (le-ltb last (get_or rest i 0) more) in
        e ∙ split h

    pub rising_last : length rest ≤ i → ltb last lsp ≡ rising_below lsp l
    rising_last h = ap (λ (m : List ℕ). rising_below lsp (last ∷ m)) (sym (drop_all i rest h)) ∙ g

-- "starts rise strictly and lie below L_SP", start by start

pub rises : (lsp : ℕ) (l : List ℕ) → rising_below lsp l ≡ true → (i : ℕ) → suc i < length l → get_or l i 0 < get_or l (suc i) 0
rises lsp [] r i h = absurd (omega arith)
rises lsp (a ∷ []) r i h = absurd (omega arith)
rises lsp (a ∷ b ∷ l) r zero h = ltb-true a b (and_left (ltb a b) (rising_below lsp (b ∷ l)) r)
rises lsp (a ∷ b ∷ l) r (suc i) h = rises lsp (b ∷ l) (and_right (ltb a b) (rising_below lsp (b ∷ l)) r) i (omega arith)

pub lies : (lsp : ℕ) (l : List ℕ) → rising_below lsp l ≡ true → (i : ℕ) → i < length l → get_or l i 0 < lsp
lies lsp [] r i h = absurd (omega arith)
lies lsp (a ∷ []) r zero h = ltb-true a lsp r
lies lsp (a ∷ []) r (suc i) h = absurd (omega arith)
lies lsp (a ∷ b ∷ l) r zero h =
    let next : b < lsp = lies lsp (b ∷ l) (and_right (ltb a b) (rising_below lsp (b ∷ l)) r) 0 (omega arith) in
    omega (arith, ltb-true a b (and_left (ltb a b) (rising_below lsp (b ∷ l)) r))
lies lsp (a ∷ b ∷ l) r (suc i) h = lies lsp (b ∷ l) (and_right (ltb a b) (rising_below lsp (b ∷ l)) r) i (omega arith)

pub rising_given : (lsp : ℕ) (l : List ℕ) → ((i : ℕ) → suc i < length l → get_or l i 0 < get_or l (suc i) 0) → ((i : ℕ) → i < length l → get_or l i 0 < lsp) → rising_below lsp l ≡ true
rising_given lsp [] f g = refl
rising_given lsp (a ∷ []) f g = lt-ltb a lsp (g 0 (omega arith))
rising_given lsp (a ∷ b ∷ l) f g = rw (lt-ltb a b (f 0 (omega arith))) (rising_given lsp (b ∷ l) (λ i h. f (suc i) (omega arith)) (λ i h. g (suc i) (omega arith)))

-- ---- count, numbers, the first start

zero_not : (l : List ℕ) → (get_or l 0 0 ≡ 0 → ⊥) → starts_at_zero l ≡ false
zero_not [] n = refl
zero_not (a ∷ l) n = ne_eqb a 0 n

zero_is : (l : List ℕ) → 1 ≤ length l → get_or l 0 0 ≡ 0 → starts_at_zero l ≡ true
zero_is [] h e = absurd (omega arith)
zero_is (a ∷ l) h e = eq-eqb a 0 e

zero_first : (l : List ℕ) → starts_at_zero l ≡ true → get_or l 0 0 ≡ 0
zero_first [] e = refl
zero_first (a ∷ l) e = eqb-true a 0 e

module _ (lsp : ℕ) (starts speeds : List ℕ) where
  pub steps_none : length starts < 1 → false ≡ stepped lsp starts speeds
  steps_none h = rw (lt-leb 1 (length starts) h)

  module _ (some : 1 ≤ length starts) where
    pub steps_many : 128 < length starts → false ≡ stepped lsp starts speeds
    steps_many h = rw (le-leb 1 (length starts) some, lt-leb (length starts) 128 h)

    module _ (few : length starts ≤ 128) where
      pub steps_unequal : (length starts ≡ length speeds → ⊥) → false ≡ stepped lsp starts speeds
      steps_unequal n = rw (le-leb 1 (length starts) some, le-leb (length starts) 128 few, ne_eqb (length starts) (length speeds) n)

      module _ (same : length starts ≡ length speeds) where
        pub steps_late : (get_or starts 0 0 ≡ 0 → ⊥) → false ≡ stepped lsp starts speeds
        steps_late n = rw (le-leb 1 (length starts) some, le-leb (length starts) 128 few, eq-eqb (length starts) (length speeds) same, zero_not starts n)

        pub steps_rising : get_or starts 0 0 ≡ 0 → rising_below lsp starts ≡ stepped lsp starts speeds
        steps_rising e = rw (le-leb 1 (length starts) some, le-leb (length starts) 128 few, eq-eqb (length starts) (length speeds) same, zero_is starts some e)

  -- ---- what is known of steps that are accepted
  module _ (e : stepped lsp starts speeds ≡ true) where
    abbrev n : ℕ
    n = length starts

    abbrev third : Bool
    third = starts_at_zero starts && rising_below lsp starts

    abbrev second : Bool
    second = eqb n (length speeds) && third

    after_second : second ≡ true
    after_second = and_right (leb n 128) second (and_right (leb 1 n) (leb n 128 && second) e)

    after_third : third ≡ true
    after_third = and_right (eqb n (length speeds)) third after_second

    pub stepped_some : 1 ≤ length starts
    stepped_some = leb-true 1 n (and_left (leb 1 n) (leb n 128 && second) e)

    pub stepped_most : length starts ≤ 128
    stepped_most = leb-true n 128 (and_left (leb n 128) second (and_right (leb 1 n) (leb n 128 && second) e))

    pub stepped_same : length starts ≡ length speeds
    stepped_same = eqb-true n (length speeds) (and_left (eqb n (length speeds)) third after_second)

    pub stepped_zero : get_or starts 0 0 ≡ 0
    stepped_zero = zero_first starts (and_left (starts_at_zero starts) (rising_below lsp starts) after_third)

    pub stepped_rising : rising_below lsp starts ≡ true
    stepped_rising = and_right (starts_at_zero starts) (rising_below lsp starts) after_third

-- ---- the step at its own start

-- no step of those after it
step_before : (lsp v x b : ℕ) (starts speeds : List ℕ) → rising_below lsp (b ∷ starts) ≡ true → x < b → step_speed v x (b ∷ starts) speeds ≡ v
step_before lsp v x b starts [] r h = refl
step_before lsp v x b [] (w ∷ speeds) r h = rw (lt-leb b x h)
step_before lsp v x b (c ∷ starts) (w ∷ speeds) r h =
    let rise = ltb-true b c (and_left (ltb b c) (rising_below lsp (c ∷ starts)) r) in
    ap (λ (z : Bool). step_speed (cond z w v) x (c ∷ starts) speeds) (lt-leb b x h) ∙ step_before lsp v x c starts speeds (and_right (ltb b c) (rising_below lsp (c ∷ starts)) r) (omega arith)

-- where starts rise, the step i gives the speed from its start up to the next
pub step_at_lem : (lsp v x i : ℕ) (starts speeds : List ℕ) → rising_below lsp starts ≡ true → length starts ≡ length speeds → i < length starts
    → get_or starts i 0 ≤ x → (suc i < length starts → x < get_or starts (suc i) 0) → step_speed v x starts speeds ≡ get_or speeds i 0
step_at_lem lsp v x i [] speeds r e h low high = absurd (omega arith)
step_at_lem lsp v x i (a ∷ starts) [] r e h low high = absurd (omega arith)
step_at_lem lsp v x zero (a ∷ []) (w ∷ speeds) r e h low high = rw (le-leb a x low)
step_at_lem lsp v x zero (a ∷ b ∷ starts) (w ∷ speeds) r e h low high =
    ap (λ (z : Bool). step_speed (cond z w v) x (b ∷ starts) speeds) (le-leb a x low) ∙ step_before lsp w x b starts speeds (and_right (ltb a b) (rising_below lsp (b ∷ starts)) r) (high (omega arith))
step_at_lem lsp v x (suc i) (a ∷ []) (w ∷ speeds) r e h low high = absurd (omega arith)
step_at_lem lsp v x (suc i) (a ∷ b ∷ starts) (w ∷ speeds) r e h low high =
    step_at_lem lsp (cond (leb a x) w v) x i (b ∷ starts) speeds (and_right (ltb a b) (rising_below lsp (b ∷ starts)) r) (omega arith) (omega arith) low (λ k. high (omega arith))

-- at or before each place there is a last step
pub step_there : {C : Type 0} (lsp x : ℕ) (starts : List ℕ) → rising_below lsp starts ≡ true → 1 ≤ length starts → get_or starts 0 0 ≤ x
    → ((i : ℕ) → i < length starts → get_or starts i 0 ≤ x → (suc i < length starts → x < get_or starts (suc i) 0) → C) → C
step_there lsp x [] r h low k = absurd (omega arith)
step_there lsp x (a ∷ []) r h low k = k 0 (omega arith) low (λ m. absurd (omega arith))
step_there lsp x (a ∷ b ∷ starts) r h low k =
    by_cases (leb b x)
    (λ e. step_there lsp x (b ∷ starts) (and_right (ltb a b) (rising_below lsp (b ∷ starts)) r) (omega arith) (leb-true b x e) (λ i inside before last. k (suc i) (omega arith) before (λ m. last (omega arith))))
    (λ e. k 0 (omega arith) low (λ m. leb-false b x e))
