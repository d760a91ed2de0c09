-- The association list is a plain map: what is looked up after an addition and a removal; keys stay different, and what it weighs.
use mathlib.Core.Path.{◌≡◌, refl, sym, ap₂, ◌∙◌, subst}
use mathlib.Core.Bool.{Bool, true, false, cond, ◌&&◌, not}
use mathlib.Core.List.{List, [], ◌∷◌}
use mathlib.Core.Option.{Option, none, some}
use Prim.Native.Nat.{ℕ, ◌+◌, ◌≤◌}
use native.Mathlib.Omega.{arith}
use borrow.Author.Tests.{eqb-true, eq-eqb}
use lib.Dec.{eqb}
use lib.ListN.{length}
use Rattle.bits.proofs.Tests.{by_cases, and_left, and_right}
use Rattle.shelf.specs.declared.Key.{Key}
use Rattle.shelf.specs.Book.{same_key, below, Kept, lookup, without, placed_in, put, found, different, weight, Each}

pub contrary : {C : Type 0} {b : Bool} → b ≡ true → b ≡ false → C
contrary e f = absurd (let z : ◌≡◌ {A = ℕ} 0 1 = cc in omega arith)

-- ---- keys

pub same_refl : (k : Key) → same_key k k ≡ true
same_refl k = rw (eq-eqb k.nid_c k.nid_c refl, eq-eqb k.nid_sp k.nid_sp refl, eq-eqb k.major k.major refl, eq-eqb k.minor k.minor refl)

pub same_is : (j k : Key) → same_key j k ≡ true → j ≡ k
same_is j k e =
    let a = eqb j.nid_c k.nid_c in
    let b = eqb j.nid_sp k.nid_sp in
    let c = eqb j.major k.major in
    let d = eqb j.minor k.minor in
    let p = eqb-true j.nid_c k.nid_c (and_left a (b && (c && d)) e) in
    let e₁ = and_right a (b && (c && d)) e in
    let q = eqb-true j.nid_sp k.nid_sp (and_left b (c && d) e₁) in
    let e₂ = and_right b (c && d) e₁ in
    let r = eqb-true j.major k.major (and_left c d e₂) in
    let s = eqb-true j.minor k.minor (and_right c d e₂) in
    λ i. record { nid_c = p i; nid_sp = q i; major = r i; minor = s i }

same_not : (i j k : Key) → same_key i k ≡ false → same_key i j ≡ true → same_key k j ≡ false
same_not i j k p q =
    by_cases (same_key k j)
    (λ r. let e : i ≡ k = same_is i j q ∙ sym (same_is k j r) in contrary (subst (λ (h : Key). same_key i h ≡ true) e (same_refl i)) p)
    (λ r. r)

pub same_sym : (j k : Key) → same_key j k ≡ same_key k j
same_sym j k =
    by_cases (same_key j k)
    (λ e. e ∙ sym (let i = same_is j k e in subst (λ (h : Key). same_key h j ≡ true) i (same_refl j)))
    (λ e. by_cases (same_key k j) (λ d. let i = same_is k j d in contrary (subst (λ (h : Key). same_key h k ≡ true) i (same_refl k)) e) (λ d. e ∙ sym d))

-- ---- a plain map

-- "removing": the key is gone, and every other is as it was
pub lookup_without : (j k : Key) (b : List Kept) → lookup j (without k b) ≡ cond (same_key k j) none (lookup j b)
lookup_without j k [] = by_cases (same_key k j) (λ e. rw e) (λ e. rw e)
lookup_without j k (e ∷ b) =
    by_cases (same_key e.key k)
    (λ p. by_cases (same_key k j)
    (λ q. rw (p, q) (lookup_without j k b ∙ rw q))
    (λ q. let i = same_is e.key k p in let o : same_key e.key j ≡ false = subst (λ (h : Key). same_key h j ≡ false) (sym i) q in rw (p, q, o) (lookup_without j k b ∙ rw q)))
    (λ p. by_cases (same_key e.key j)
    (λ q. let o : same_key k j ≡ false = same_not e.key j k p q in rw (p, q, o))
    (λ q. rw (p, q) (lookup_without j k b)))

lookup_placed : (j : Key) (n : Kept) (b : List Kept) → lookup n.key b ≡ none → lookup j (placed_in n b) ≡ cond (same_key n.key j) (some n.sheet) (lookup j b)
lookup_placed j n [] z = refl
lookup_placed j n (e ∷ b) z =
    by_cases (below n.key e.key)
    (λ p. rw p)
    (λ p. by_cases (same_key e.key n.key)
    (λ q. absurd (let y : some e.sheet ≡ none = rw q at z in let x : ◌≡◌ {A = ℕ} 0 1 = cc in omega arith))
    (λ q. by_cases (same_key e.key j)
    (λ r. let o : same_key n.key j ≡ false = same_not e.key j n.key q r in rw (p, r, o))
    (λ r. rw (p, r) (lookup_placed j n b (rw q at z)))))

-- "Adding the same key replaces": the sheet is under its key, and every other is as it was
pub lookup_put : (j : Key) (n : Kept) (b : List Kept) → lookup j (put n b) ≡ cond (same_key n.key j) (some n.sheet) (lookup j b)
lookup_put j n b =
    let k = n.key in
    let gone : lookup k (without k b) ≡ none = lookup_without k k b ∙ rw (same_refl k) in
    lookup_placed j n (without k b) gone ∙ by_cases (same_key k j) (λ e. rw e) (λ e. rw e (lookup_without j k b ∙ rw e))

-- ---- keys stay different

absent : (o : Option (List ℕ)) → not (found o) ≡ true → o ≡ none
absent none e = refl
absent (some s) e = contrary e refl

-- a sheet in front, under a key that no other has
pub front_different : (e : Kept) (b : List Kept) → lookup e.key b ≡ none → different b ≡ true → different (e ∷ b) ≡ true
front_different e b z d = ap₂ (λ (o : Option (List ℕ)) (q : Bool). not (found o) && q) z d

pub first_absent : (e : Kept) (b : List Kept) → different (e ∷ b) ≡ true → lookup e.key b ≡ none
first_absent e b d = absent (lookup e.key b) (and_left (not (found (lookup e.key b))) (different b) d)

pub rest_different : (e : Kept) (b : List Kept) → different (e ∷ b) ≡ true → different b ≡ true
rest_different e b d = and_right (not (found (lookup e.key b))) (different b) d

still_absent : (j k : Key) (b : List Kept) → lookup j b ≡ none → lookup j (without k b) ≡ none
still_absent j k b z = lookup_without j k b ∙ by_cases (same_key k j) (λ e. rw e) (λ e. rw e z)

pub without_different : (k : Key) (b : List Kept) → different b ≡ true → different (without k b) ≡ true
without_different k [] d = refl
without_different k (e ∷ b) d =
    by_cases (same_key e.key k)
    (λ p. rw p (without_different k b (rest_different e b d)))
    (λ p. rw p (front_different e (without k b) (still_absent e.key k b (first_absent e b d)) (without_different k b (rest_different e b d))))

-- a key that the first has not
pub not_first : (k : Key) (e : Kept) (b : List Kept) → lookup k (e ∷ b) ≡ none → same_key e.key k ≡ false
not_first k e b z = by_cases (same_key e.key k) (λ q. absurd (let y : some e.sheet ≡ none = rw q at z in let x : ◌≡◌ {A = ℕ} 0 1 = cc in omega arith)) (λ q. q)

pub not_later : (k : Key) (e : Kept) (b : List Kept) → lookup k (e ∷ b) ≡ none → lookup k b ≡ none
not_later k e b z = rw (not_first k e b z) at z

placed_different : (n : Kept) (b : List Kept) → lookup n.key b ≡ none → different b ≡ true → different (placed_in n b) ≡ true
placed_different n [] z d = refl
placed_different n (e ∷ b) z d =
    by_cases (below n.key e.key)
    (λ p. rw p (front_different n (e ∷ b) z d))
    (λ p. let o : same_key n.key e.key ≡ false = same_sym n.key e.key ∙ not_first n.key e b z in
    let y = not_later n.key e b z in
    rw p (front_different e (placed_in n b) (lookup_placed e.key n b y ∙ rw o (first_absent e b d)) (placed_different n b y (rest_different e b d))))

pub put_different : (n : Kept) (b : List Kept) → different b ≡ true → different (put n b) ≡ true
put_different n b d =
    let k = n.key in
    placed_different n (without k b) (lookup_without k k b ∙ rw (same_refl k)) (without_different k b d)

-- ---- what it weighs, and what holds of each

pub weight_placed : (n : Kept) (b : List Kept) → weight (placed_in n b) ≡ 4 + length n.sheet + weight b
weight_placed n [] = refl
weight_placed n (e ∷ b) = by_cases (below n.key e.key) (λ p. rw p) (λ p. rw p (omega (arith, weight_placed n b)))

pub weight_without : (k : Key) (b : List Kept) → weight (without k b) ≤ weight b
weight_without k [] = omega arith
weight_without k (e ∷ b) = by_cases (same_key e.key k) (λ p. rw p (omega (arith, weight_without k b))) (λ p. rw p (omega (arith, weight_without k b)))

-- "the kept sheets, without the replaced one, plus the new sheet and four bytes for each"
pub weight_put : (n : Kept) (b : List Kept) → weight (put n b) ≡ 4 + length n.sheet + weight (without n.key b)
weight_put n b = weight_placed n (without n.key b)

module _ (P : Kept → Type 0) where
  pub each_without : (k : Key) (b : List Kept) → Each P b → Each P (without k b)
  each_without k [] c = tt
  each_without k (e ∷ b) c = by_cases (same_key e.key k) (λ p. rw p (each_without k b c.1)) (λ p. rw p (c.0, each_without k b c.1))

  each_placed : (n : Kept) (b : List Kept) → P n → Each P b → Each P (placed_in n b)
  each_placed n [] h c = (h, tt)
  each_placed n (e ∷ b) h c = by_cases (below n.key e.key) (λ p. rw p (h, c)) (λ p. rw p (c.0, each_placed n b h c.1))

  pub each_put : (n : Kept) (b : List Kept) → P n → Each P b → Each P (put n b)
  each_put n b h c = each_placed n (without n.key b) h (each_without n.key b c)
