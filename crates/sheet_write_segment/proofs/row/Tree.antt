-- Fields of an accepted packet's tree that are a row: they may be copied, and are then written.
use mathlib.Core.Path.{◌≡◌, refl}
use mathlib.Core.Bool.{Bool, true, ◌&&◌}
use mathlib.Core.List.{List, [], ◌∷◌, ◌++◌}
use Prim.Native.Nat.{ℕ, ◌+◌, ◌^◌}
use native.Mathlib.Omega.{arith}
use lib.Dec.{leb, ltb}
use Rattle.bits.specs.Bits.{field_at}
use Rattle.bits.specs.internal.Windows.{bits_in}
use Rattle.bits.proofs.Tests.{and_right}
use Rattle.bits.proofs.Windows.{bits_join}
use Rattle.numbers.specs.internal.Groups.{Put}
use Rattle.kinds.specs.Kind.{Kind, up_to}
use Rattle.format.specs.Format.{Format, field}
use Rattle.grammar.specs.internal.rows.Rows.{row, fits}
use Rattle.sheet_write_segment.specs.internal.elements.Writing.{putting, PartWritable, Wrote}
use Rattle.sheet_write_segment.proofs.elements.Writing.{Along, along_all, along_as, along_here, along_next, along_on, along_none, along_put, field_here}
use Rattle.sheet_write_segment.specs.internal.row.Row.{put_all, FitAll, none, more, values_at, Row, copied}
use Rattle.sheet_write_segment.proofs.row.Rows.{values_join, put_join, fit_join}

record Rowed (ws ms s : List ℕ) (stop at : ℕ) (p : Put) : Type 0 where
  holds : FitAll p (values_at s at ws)
  wrote : Wrote (row ws ms) s stop at p (at + bits_in ws) (copied s at ws p)

-- a row of the tree
rowed : (s : List ℕ) (stop : ℕ) (ws ms : List ℕ) → fits ws ms ≡ true → {at : ℕ} {p : Put} → PartWritable (row ws ms) s stop at p → Rowed ws ms s stop at p
unfolding row put_all values_at
rowed s stop [] ms e {at} h =
    let q : at + 0 ≡ at = omega arith in
    record { holds = none; wrote = rw q (along_none s stop (along_all s stop h)) }
rowed s stop (w ∷ ws) [] e h = absurd (let z : ◌≡◌ {A = ℕ} 0 1 = cc in omega arith)
rowed s stop (w ∷ ws) (m ∷ ms) e {at} {p} h =
    let after : Bool = ltb m (2 ^ w) && fits ws ms in
    let fit = and_right (ltb m (2 ^ w)) (fits ws ms) (and_right (leb w 32) after (and_right (leb 1 w) (leb w 32 && after) e)) in
    let v = field_at s at w in
    let first = along_put s stop (up_to w m) (λ u. row ws ms) w refl (along_all s stop h) h v refl (at + w) refl refl in
    let next = rowed s stop ws ms fit (along_here s stop first h) in
    let q : at + (w + bits_in ws) ≡ at + w + bits_in ws = omega arith in
    record {
      holds = more (field_here s stop (up_to w m) (λ u. row ws ms) w refl h v refl).fits next.holds;
      wrote = rw q (along_none s stop (along_on s stop (row ws ms) (λ f. f) first next.wrote));
    }

-- ---- fields of a part, from its first on

module _ (s : List ℕ) (stop at : ℕ) (p : Put) where
  -- they are a row of these widths, and after it the part q is left of the part o
  pub record Rowing (o q : Format → Format) (ws : List ℕ) : Type 0 where
    pub along : Along s stop o q at p (at + bits_in ws) (copied s at ws p)
    pub holds : FitAll p (values_at s at ws)

  pub rowing_none : {o : Format → Format} → PartWritable o s stop at p → Rowing o o []
  unfolding put_all values_at
  rowing_none h = let e : at + 0 ≡ at = omega arith in record { along = rw e (along_all s stop h); holds = none }

  pub rowing_as : {o q : Format → Format} {ws : List ℕ} (r : Format → Format) → ((f : Format) → q f ≡ r f) → Rowing o q ws → Rowing o r ws
  rowing_as r e g = record { along = along_as s stop r e g.along; holds = g.holds }

  -- they may be copied
  pub rowing_here : {o q : Format → Format} {ws : List ℕ} → Rowing o q ws → Row s at ws p
  rowing_here g =
      let r = g.along.left.stands in
      record { inside = omega (arith, r.before, r.inside); few = omega (arith, r.before, r.few); long = r.long; holds = g.holds }

  module _ {o : Format → Format} (ws : List ℕ) (h : PartWritable o s stop at p) where
    rowing_join : {q : Format → Format} (vs : List ℕ) → FitAll p (values_at s at ws) → FitAll (copied s at ws p) (values_at s (at + bits_in ws) vs)
        → Along s stop o q at p (at + bits_in ws + bits_in vs) (copied s (at + bits_in ws) vs (copied s at ws p)) → Rowing o q (ws ++ vs)
    rowing_join vs a b l =
        let w : at + bits_in (ws ++ vs) ≡ at + bits_in ws + bits_in vs = omega (arith, bits_join ws vs) in
        let us = values_at s at ws in
        let ts = values_at s (at + bits_in ws) vs in
        record { along = rw (w, values_join s at ws vs, put_join ts us p) l; holds = rw (values_join s at ws vs) (fit_join ts us p a b) }

    -- a row of the tree more
    pub rowing_row : (q : Format → Format) (vs ms : List ℕ) → fits vs ms ≡ true → Rowing o (λ f. row vs ms (q f)) ws → Rowing o q (ws ++ vs)
    rowing_row q vs ms e g =
        let r = rowed s stop vs ms e (along_next s stop (row vs ms) q g.along h) in
        rowing_join vs g.holds r.holds (along_on s stop (row vs ms) q g.along r.wrote)

    -- a field more, on whose value what follows may depend
    pub rowing_field : (k : Kind) (part : ℕ → Format → Format) (w : ℕ) → k.width ≡ w → ((v : ℕ) → k.raise v ≡ v)
        → Rowing o (λ f. field k (λ u. part u f)) ws → (v : ℕ) → v ≡ field_at s (at + bits_in ws) w → Rowing o (part v) (ws ++ w ∷ [])
    unfolding put_all values_at
    rowing_field k part w d same g v b =
        let to = at + bits_in ws in
        let y = copied s at ws p in
        let l : w + 0 ≡ w = omega arith in
        let m = along_here s stop g.along h in
        let x : putting y (field_at s to w) ≡ putting y (k.raise v) = rw (same v, b) in
        rowing_join (w ∷ []) g.holds
        (more (rw (same (field_at s to w)) at (field_here s stop k part w d m (field_at s to w) refl).fits) none)
        (along_put s stop k part w d g.along h v b (to + (w + 0)) (rw l) x)
