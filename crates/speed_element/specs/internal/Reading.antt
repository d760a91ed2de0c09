-- The parts of an accepted speed profile, read at places of any medium, as the contracts say it. No promise names it.
use Rattle.std.specs.Prelude.{◌≡◌, cond, List, ◌∷◌, ◌++◌, ℕ, ◌≤◌, ◌<◌, drop, get_or}
use Rattle.kinds.specs.declared.Item.{Item}
use Rattle.kinds.specs.Kind.{Kind}
use Rattle.kinds.specs.Kinds.{n_iter, d_location}
use Rattle.format.specs.Format.{Format, end, field, sheet_numbers}
use Rattle.grammar.specs.segment.Segment.{entries, profile, changes, part}
use Rattle.grammar.specs.internal.segment.Parts.{entry, three_lists}
use Rattle.speed.specs.declared.Train.{Train}
use Rattle.speed.specs.Speed.{Element, element_speed, holds, held_speeds, element_of, after_element, changes_from, elements_from, segment_length, profile_of}
use Rattle.speed_element.specs.declared.Lows.{Lows}
use Rattle.speed_element.specs.declared.First.{First}
use Rattle.speed_element.specs.declared.Following.{Following}
use Rattle.speed_element.specs.declared.Open.{Open}
use Rattle.speed_element.specs.internal.Elements.{none, instead_from, OneMore, element_as}

-- r stands for what was held before and for the speeds l
pub record Holding (before : ℕ) (l : List ℕ) (r : ℕ) : Type 0 where
  pub with : (m : List ℕ) → instead_from r 0 m ≡ instead_from before 0 (l ++ m)

-- Reads f at l: the tree f stands at the place at, and is accepted with the values l
module _ (Reads : Format → ℕ → List Item → Type 0) where
  -- something follows the part with which it is accepted
  pub record Readable (part : Format → Format) (at : ℕ) : Type 0 where
    pub follows : Format
    pub values : List Item
    pub reads : Reads (part follows) at values

  -- the tree f stands at the place to, with these numbers
  pub record Past (f : Format) (to : ℕ) (ns : List ℕ) : Type 0 where
    pub values : List Item
    pub reads : Reads f to values
    pub numbers : sheet_numbers values ≡ ns

  -- whatever follows a part stands after it, with the numbers that are left
  pub record Passes (part : Format → Format) (after : List ℕ → List ℕ) (at to : ℕ) : Type 0 where
    pub past : (f : Format) (l : List Item) → Reads (part f) at l → Past f to (after (sheet_numbers l))

  -- a field, its value and its number; what follows may depend on the value
  pub record FieldRead (k : Kind) (at to v a : ℕ) : Type 0 where
    pub past : (next : ℕ → Format) (l : List Item) → Reads (field k next) at l → Past (next v) to (drop 1 (sheet_numbers l))
    pub is : (next : ℕ → Format) (l : List Item) → Reads (field k next) at l → get_or (sheet_numbers l) 0 0 ≡ a

  -- a field of the kind stands at the place, whatever follows
  pub record Stands (k : Kind) (at : ℕ) : Type 0 where
    pub part : ℕ → Format → Format
    pub readable : Readable (λ f. field k (λ u. part u f)) at

  -- the location of some change does
  pub record LocationStands (at : ℕ) : Type 0 where
    pub last : ℕ
    pub lsp : ℕ
    pub stands : Stands (d_location last lsp) at

  pub record EntryRead (t : Train) (lows after : Lows) (at to : ℕ) : Type 0 where
    pub passes : Passes entry (drop 3) at to
    pub more : (f : Format) (l : List Item) → Reads (entry f) at l
        → OneMore t lows (get_or (sheet_numbers l) 0 0) (get_or (sheet_numbers l) 1 0) (get_or (sheet_numbers l) 2 0) after

  -- an open element is e: its entries stand at their place
  pub record Opened (o : Open) (e : Element) : Type 0 where
    pub follows : Format
    pub values : List Item
    pub reads : Reads (entries o.count follows) o.entries values
    pub is : e ≡ element_as o (sheet_numbers values)

  -- it is some element, with a speed
  pub record Opens (o : Open) : Type 0 where
    pub readable : Readable (entries o.count) o.entries
    pub below : o.v_static < none

  pub record ElementRead (at to : ℕ) (o : Open) : Type 0 where
    pub passes : Passes profile after_element at to
    pub opened : (f : Format) (l : List Item) → Reads (profile f) at l → Opened o (element_of o.start (sheet_numbers l))
    pub below : o.v_static < none

  -- what is held at x once the open element ends at stop: with its speed, if it holds there
  pub record Ended (t : Train) (held stop x : ℕ) (o : Open) (r : ℕ) : Type 0 where
    pub said : (e : Element) → Opened o e → (l : List ℕ) → instead_from r 0 l ≡ instead_from held 0 (cond (holds t e stop x) (element_speed t e ∷ l) l)

  -- a change after an element that starts at last: its location, and its element
  pub record ChangeRead (lsp last at : ℕ) (r : Following) : Type 0 where
    pub between : ℕ
    pub location : FieldRead (d_location last lsp) at between r.end r.end
    pub element : ElementRead between r.next r.«open»
    pub starts : r.«open».start ≡ r.end

  -- an open element ends at the next of n changes, or with the segment
  pub record NextRead (lsp : ℕ) (o : Open) (n at : ℕ) (r : Following) : Type 0 where
    pub change : 0 < n → ChangeRead lsp o.start at r
    pub last : n ≡ 0 → r.end ≡ lsp

  -- the first element of a profile at the place at, and the count of the changes after it
  pub record FirstRead (at : ℕ) (r : First) : Type 0 where
    pub between : ℕ
    pub element : ElementRead at between r.«open»
    pub starts : r.«open».start ≡ 0
    pub number : FieldRead (n_iter 31) between r.next r.count r.count
    pub few : r.count ≤ 31

  -- what is held at x after n changes that follow an open element: what was held before, with all of them
  pub record ChangesRead (t : Train) (lsp x before : ℕ) (first : Open) (n at r : ℕ) : Type 0 where
    pub said : (e : Element) → Opened first e → (f : Format) (l : List Item) → Reads (changes profile lsp first.start n f) at l
        → Holding before (held_speeds t lsp x (e ∷ changes_from 0 n (sheet_numbers l))) r

  pub record ProfileRead (t : Train) (lsp x before at r : ℕ) : Type 0 where
    pub said : (f : Format) (l : List Item) → Reads (part profile 31 lsp f) at l → Holding before (held_speeds t lsp x (elements_from 0 (sheet_numbers l))) r

  -- the head of a segment with the numbers ns was read: lsp is its L_SP, and the speed profile stands at the place at
  pub record HeadRead (ns : List ℕ) (lsp at : ℕ) : Type 0 where
    pub length_is : lsp ≡ segment_length ns
    pub small : lsp < 16777216
    pub past : Past (three_lists lsp end) at (profile_of ns)
