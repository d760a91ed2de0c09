-- The lines of a listing, written piece by piece, and the numbers that they show.
use mathlib.Core.Path.{◌≡◌, refl, sym, ◌∙◌}
use mathlib.Core.List.{List, ◌++◌}
use Prim.Native.Nat.{ℕ, zero, suc, ◌+◌, ◌*◌, ◌-◌, ◌≤◌}
use native.Mathlib.Nat.{add-zero}
use native.Mathlib.Omega.{arith}
use lib.IntN.{ℤ, pos, negsuc}
use lib.ListN.{length, drop, get_or, length-append}
use lib.Seq.{drop-drop, get_or-drop}
use Rattle.speed.specs.Speed.{Element, after_entries, after_element, element_of, changes_from, profile_of}
use Rattle.text.specs.internal.sheet.Numbers.{numbers_in, NumbersAt}
use Rattle.text.specs.words.Words.{ascii, signed_decimal, labelled, Laid}
use Rattle.text.specs.lines.Lines.{names_text, measures, segment_line, element_line, element_lines, lines}
use Rattle.text.specs.internal.lines.Changes.{changes_of}
use Rattle.text.proofs.words.Putting.{laid_on, laid_long, decimal_short}

-- ---- numbers of a sheet

-- the number at the place after k numbers is the number k, counted from 0
pub value_at : {s : List ℕ} {p v : ℕ} (k : ℕ) (ns : List ℕ) → NumbersAt s p (drop k ns) → v ≡ get_or (numbers_in (drop p s)) 0 0 → v ≡ get_or ns k 0
value_at k ns h e = e ∙ rw h.here (get_or-drop k ns 0 0 ∙ rw (add-zero k))

after_entries_lem : (n : ℕ) (s : List ℕ) → after_entries n s ≡ drop (3 * n) s
after_entries_lem zero s = refl
after_entries_lem (suc n) s = let e : 3 + 3 * n ≡ 3 * suc n = omega arith in after_entries_lem n (drop 3 s) ∙ drop-drop (3 * n) 3 s ∙ rw e

pub after_here : {s : List ℕ} {p : ℕ} (ns : List ℕ) (n : ℕ) → n ≡ get_or ns 2 0 → NumbersAt s p (drop (3 + 3 * n) ns) → NumbersAt s p (after_element ns)
after_here ns n e h = record {
  here = h.here ∙ sym (after_entries_lem (get_or ns 2 0) (drop 3 ns) ∙ drop-drop (3 * get_or ns 2 0) 3 ns ∙ rw e);
  inside = h.inside;
}

-- ---- lines

pub signed_short : (z : ℤ) → length (signed_decimal z) ≤ 11
signed_short (pos n) = omega (arith, decimal_short n)
signed_short (negsuc n) = omega (arith, decimal_short (suc n))

module _ {room : List ℕ} {at : ℕ} {n1 n2 n3 n4 : ℕ} {c1 c2 c3 c4 : List ℕ} (start v q : ℕ) (ns : List ℕ)
    (e1 : Laid room at (labelled (ascii "FROM ") start) n1 c1) (e2 : Laid c1 n1 (labelled (ascii " SPEED ") v) n2 c2)
    (e3 : Laid c2 n2 (labelled (ascii " FRONT ") q) n3 c3) (e4 : Laid c3 n3 (ascii "\n") n4 c4) where
  pub element_laid : v ≡ get_or ns 0 0 → q ≡ get_or ns 1 0 → Laid room at (element_line (element_of start ns)) n4 c4
  element_laid p r = rw (← p, ← r) (laid_on (laid_on (laid_on e1 e2) e3) e4)

pub names_laid : {room : List ℕ} {at n1 n2 : ℕ} {c1 c2 : List ℕ} (a b : ℕ) (ns : List ℕ)
    → Laid room at (labelled (ascii "SEGMENT ") a) n1 c1 → Laid c1 n1 (labelled (ascii " ") b) n2 c2
    → a ≡ get_or ns 6 0 → b ≡ get_or ns 7 0 → Laid room at (names_text ns) n2 c2
names_laid a b ns e1 e2 p q = rw (← p, ← q) (laid_on e1 e2)

pub measures_laid : {room : List ℕ} {at n1 n2 n3 n4 : ℕ} {c1 c2 c3 c4 : List ℕ} (l : ℕ) (y z : ℤ) (ns : List ℕ)
    → Laid room at (labelled (ascii " LENGTH ") l) n1 c1 → Laid c1 n1 (ascii " ALTITUDE ") n2 c2
    → Laid c2 n2 (signed_decimal y) n3 c3 → Laid c3 n3 (ascii "\n") n4 c4
    → l ≡ get_or ns 10 0 → y ≡ z → Laid room at (measures z ns) n4 c4
measures_laid l y z ns e1 e2 e3 e4 p t = rw (← p, ← t) (laid_on (laid_on (laid_on e1 e2) e3) e4)

pub segment_laid : {room : List ℕ} {at n1 n2 : ℕ} {c1 c2 : List ℕ} (y z : ℤ) (ns : List ℕ)
    → Laid room at (names_text ns) n1 c1 → Laid c1 n1 (measures y ns) n2 c2 → y ≡ z → Laid room at (segment_line z ns) n2 c2
segment_laid y z ns e1 e2 t = rw (← t) (laid_on e1 e2)

-- an element's line has `FROM `, ` SPEED `, ` FRONT `, three numbers of at most ten digits, and the line's end
pub element_short : (e : Element) → length (element_line e) ≤ 50
element_short e = simp length-append (omega (arith, decimal_short e.start, decimal_short e.v_static, decimal_short e.q_front))

-- ---- changes, one after the other

change_lines : (n start : ℕ) (ns : List ℕ) → (n ≡ 0 → ⊥) → start ≡ get_or ns 0 0
    → element_line (element_of start (drop 1 ns)) ++ element_lines (changes_from 0 (n - 1) (after_element (drop 1 ns))) ≡ element_lines (changes_from 0 n ns)
change_lines zero start ns h e = absurd (h refl)
change_lines (suc n) start ns h e =
    let d : suc n - 1 ≡ n = omega arith in
    let p : 0 + get_or ns 0 0 ≡ start = omega arith in
    rw (d, p)

-- the text of the n changes that are left, written from here on, completes the whole text
pub record Changing (sheet : List ℕ) (Whole : ℕ → List ℕ → Type 0) (n place next : ℕ) (room : List ℕ) : Type 0 where
  pub inside : place ≤ length sheet
  pub fits : next + 50 * n ≤ length room
  pub makes : (last : ℕ) (cells : List ℕ) → Laid room next (element_lines (changes_from 0 n (numbers_in (drop place sheet)))) last cells → Whole last cells

module _ {sheet : List ℕ} {Whole : ℕ → List ℕ → Type 0} {n place next : ℕ} {room : List ℕ} (w : Changing sheet Whole n place next room) where
  pub changing_on : {start p q after : ℕ} {cells : List ℕ} → (n ≡ 0 → ⊥) → start ≡ get_or (numbers_in (drop place sheet)) 0 0
      → NumbersAt sheet p (drop 1 (numbers_in (drop place sheet)))
      → Laid room next (element_line (element_of start (numbers_in (drop p sheet)))) after cells
      → NumbersAt sheet q (after_element (numbers_in (drop p sheet)))
      → Changing sheet Whole (n - 1) q after cells
  changing_on {start} {p} {q} {after} {cells} h e a l b =
      let ns = numbers_in (drop place sheet) in
      let line : Laid room next (element_line (element_of start (drop 1 ns))) after cells = rw a.here at l in
      record {
        inside = b.inside;
        fits = omega (arith, w.fits, line.place, laid_long line, element_short (element_of start (drop 1 ns)));
        makes = λ last room' m.
            let rest : Laid cells after (element_lines (changes_from 0 (n - 1) (after_element (drop 1 ns)))) last room' = rw (b.here, a.here) at m in
            w.makes last room' (rw (← change_lines n start ns h e) (laid_on line rest));
      }

  pub changing_end : n ≡ 0 → Whole next room
  changing_end e = w.makes next room (rw e (record { place = omega arith; bytes = refl }))

-- ---- all lines

-- a segment's line up to NID_SP has `SEGMENT `, a space and two numbers of at most ten digits
pub names_short : (ns : List ℕ) → length (names_text ns) ≤ 29
names_short ns = simp length-append (omega (arith, decimal_short (get_or ns 6 0), decimal_short (get_or ns 7 0)))

-- the rest of a segment's line has ` LENGTH `, ` ALTITUDE `, a number of at most ten digits, one with a sign, and the line's end
pub measures_short : (z : ℤ) (ns : List ℕ) → length (measures z ns) ≤ 40
measures_short z ns = simp length-append (omega (arith, decimal_short (get_or ns 10 0), signed_short z))

pub segment_short : (z : ℤ) (ns : List ℕ) → length (segment_line z ns) ≤ 69
segment_short z ns = rw (length-append (names_text ns) (measures z ns)) (omega (arith, names_short ns, measures_short z ns))

module _ {sheet room : List ℕ} {n1 n2 p q n : ℕ} {c1 c2 : List ℕ} (y : ℤ)
    (e1 : Laid room 0 (segment_line y (numbers_in sheet)) n1 c1)
    (a : NumbersAt sheet p (profile_of (numbers_in sheet)))
    (e2 : Laid c1 n1 (element_line (element_of 0 (numbers_in (drop p sheet)))) n2 c2)
    (b : NumbersAt sheet q (after_element (numbers_in (drop p sheet))))
    (e : n ≡ get_or (numbers_in (drop q sheet)) 0 0) where
  count : n ≡ changes_of (numbers_in sheet)
  count = e ∙ rw (b.here, a.here)

  pub changes_fit : changes_of (numbers_in sheet) ≤ 31 → 1669 ≤ length room → n2 + 50 * n ≤ length c2
  changes_fit h l =
      omega (arith, count, e1.place, laid_long e1, e2.place, laid_long e2, segment_short y (numbers_in sheet), element_short (element_of 0 (numbers_in (drop p sheet))))

  pub lines_laid : {r n3 : ℕ} {c3 : List ℕ} {z : ℤ} → y ≡ z → NumbersAt sheet r (drop 1 (numbers_in (drop q sheet)))
      → Laid c2 n2 (element_lines (changes_from 0 n (numbers_in (drop r sheet)))) n3 c3 → Laid room 0 (lines z (numbers_in sheet)) n3 c3
  lines_laid {r} {n3} {c3} t f e3 =
      let first : Laid c1 n1 (element_line (element_of 0 (profile_of (numbers_in sheet)))) n2 c2 = rw a.here at e2 in
      let others : Laid c2 n2 (element_lines (changes_from 0 (changes_of (numbers_in sheet)) (drop 1 (after_element (profile_of (numbers_in sheet)))))) n3 c3 =
      rw (f.here, count, b.here, a.here) at e3 in
      rw (← t) (laid_on e1 (laid_on first others))
