-- Numbers put one after another, and fields copied in a row: one more, two rows after one another, and the fields of a window that is read at once.
use mathlib.Core.Path.{◌≡◌, refl, sym, ◌∙◌}
use mathlib.Core.List.{List, [], ◌∷◌, ◌++◌}
use Prim.Native.Nat.{ℕ, ◌+◌, ◌*◌, ◌%◌, ◌^◌, ◌≤◌, ◌<◌}
use native.Mathlib.Omega.{arith}
use lib.ListN.{length}
use Rattle.bits.specs.Bits.{field_at}
use Rattle.bits.specs.internal.Windows.{bits_in, parts}
use Rattle.bits.proofs.Windows.{field_back, parts_at, bits_join, fields_join}
use Rattle.numbers.specs.Numbers.{groups_in}
use Rattle.numbers.specs.internal.Groups.{Put}
use Rattle.numbers.proofs.Counting.{last_group}
use Rattle.sheet_write_segment.specs.internal.elements.Writing.{putting}
use Rattle.sheet_write_segment.specs.internal.row.Row.{put_all, FitAll, none, more, values_at, Row, copied}

-- ---- one more number

pub all_one : (p : Put) (v : ℕ) {q : Put} → q ≡ putting p v → q ≡ put_all p (v ∷ [])
unfolding put_all
all_one p v e = e

module _ {p : Put} {v : ℕ} {vs : List ℕ} where
  pub one_fits : FitAll p (v ∷ vs) → p.next + length (groups_in v) ≤ length p.bytes
  one_fits (more h g) = h

  pub more_fit : {q : Put} → q ≡ putting p v → FitAll p (v ∷ vs) → FitAll q vs
  more_fit e (more h g) = rw e g

module _ (p : Put) (v : ℕ) (vs : List ℕ) {q : Put} (e : q ≡ putting p v) where
  pub all_more : {r : Put} → r ≡ put_all q vs → r ≡ put_all p (v ∷ vs)
  unfolding put_all
  all_more d = d ∙ rw e

-- ---- numbers after numbers

module _ (vs : List ℕ) where
  pub put_join : (us : List ℕ) (p : Put) → put_all p (us ++ vs) ≡ put_all (put_all p us) vs
  unfolding put_all
  put_join [] p = refl
  put_join (u ∷ us) p = put_join us (putting p u)

  pub fit_join : (us : List ℕ) (p : Put) → FitAll p us → FitAll (put_all p us) vs → FitAll p (us ++ vs)
  unfolding put_all
  fit_join [] p h g = g
  fit_join (u ∷ us) p (more a h) g = more a (fit_join us (putting p u) h g)

  pub fit_first : (us : List ℕ) (p : Put) → FitAll p (us ++ vs) → FitAll p us
  fit_first [] p h = none
  fit_first (u ∷ us) p (more a h) = more a (fit_first us (putting p u) h)

  fit_rest : (us : List ℕ) (p : Put) → FitAll p (us ++ vs) → FitAll (put_all p us) vs
  unfolding put_all
  fit_rest [] p h = h
  fit_rest (u ∷ us) p (more a h) = fit_rest us (putting p u) h

module _ (us vs : List ℕ) (p : Put) {q : Put} (e : q ≡ put_all p us) where
  pub fit_after : FitAll p (us ++ vs) → FitAll q vs
  fit_after h = rw e (fit_rest vs us p h)

  pub all_both : {r : Put} → r ≡ put_all q vs → r ≡ put_all p (us ++ vs)
  all_both d = d ∙ rw e (sym (put_join vs us p))

-- ---- a row of two parts is copied part after part

pub values_join : (s : List ℕ) (at : ℕ) (ws vs : List ℕ) → values_at s at (ws ++ vs) ≡ values_at s at ws ++ values_at s (at + bits_in ws) vs
unfolding values_at
values_join s at ws vs = fields_join s at ws vs

module _ (s : List ℕ) (at : ℕ) (ws vs : List ℕ) (p : Put) where
  abbrev here : List ℕ
  here = values_at s at ws

  abbrev there : List ℕ
  there = values_at s (at + bits_in ws) vs

  pub row_first : Row s at (ws ++ vs) p → Row s at ws p
  row_first h = record {
    inside = omega (arith, h.inside, bits_join ws vs);
    few = omega (arith, h.few, bits_join ws vs);
    long = h.long;
    holds = fit_first there here p (rw (values_join s at ws vs) at h.holds);
  }

  module _ (to : ℕ) (d : to ≡ at + bits_in ws) {q : Put} (c : q ≡ copied s at ws p) where
    pub row_after : Row s at (ws ++ vs) p → Row s to vs q
    row_after h = rw d record {
      inside = omega (arith, h.inside, bits_join ws vs);
      few = omega (arith, h.few, bits_join ws vs);
      long = h.long;
      holds = fit_after here there p c (rw (values_join s at ws vs) at h.holds);
    }

    pub row_both : {r : Put} → r ≡ copied s to vs q → r ≡ copied s at (ws ++ vs) p
    row_both e = rw (values_join s at ws vs) (all_both here there p c (rw d at e))

-- ---- fields that are read at once, as t

pub cut_last : (s : List ℕ) (at o w : ℕ) {t : ℕ} → t ≡ field_at s at (o + w) → at + (o + w) ≤ 8 * length s → t % 2 ^ w ≡ field_at s (at + o) w
cut_last s at o w e h = rw e (field_back s at o w h)

module _ (s : List ℕ) (at : ℕ) (ws : List ℕ) (p : Put) (h : Row s at ws p) {t : ℕ} (e : t ≡ field_at s at (bits_in ws)) where
  pub window_fits : FitAll p (parts ws t)
  unfolding values_at
  window_fits = rw (← parts_at s at ws e h.inside) at h.holds

  pub window_copied : {q : Put} → q ≡ put_all p (parts ws t) → q ≡ copied s at ws p
  unfolding values_at
  window_copied d = rw (← parts_at s at ws e h.inside) d

-- a number below 128
pub single : (v : ℕ) → v < 128 → groups_in v ≡ v ∷ []
unfolding groups_in
single v h = last_group 4 v h

-- ---- a field alone

module _ (s : List ℕ) (at w : ℕ) (p : Put) (h : Row s at (w ∷ []) p) {t : ℕ} (e : t ≡ field_at s at w) where
  whole : t ≡ field_at s at (w + 0)
  whole = let d : w + 0 ≡ w = omega arith in e ∙ rw d

  pub alone_fits : p.next + length (groups_in t) ≤ length p.bytes
  alone_fits = one_fits (window_fits s at (w ∷ []) p h whole)

  pub alone_copied : {q : Put} → q ≡ putting p t → q ≡ copied s at (w ∷ []) p
  alone_copied d = window_copied s at (w ∷ []) p h whole (all_one p t d)
