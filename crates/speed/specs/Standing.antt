-- The elements of the speed rules as the fields of the tree: which values of a segment are an entry, an element, its start, the profile and L_SP.
use Rattle.std.specs.Prelude.{◌≡◌, List, [], ◌∷◌, ℕ, zero, suc, ◌+◌}
use Rattle.kinds.specs.declared.Item.{Item}
use Rattle.kinds.specs.Kind.{Kind}
use Rattle.kinds.specs.Kinds.{l_sp, speed, q_front, n_iter, q_diff, class, d_location}
use Rattle.format.specs.Grounds.{Front}
use Rattle.grammar.specs.segment.Segment.{lists, sheet_fields, wire_changes}
use Rattle.speed.specs.Speed.{Entry, Element}

-- Good k i: the value i is good where the tree has a field of the kind k, in a packet or in a sheet
module _ (Good : Kind → Item → Type 0) where
  -- "then that many specific entries: Q_DIFF 2 (0 to 2), class 4, V_DIFF 7 (0 to 120)": n entries, and the values that follow them
  pub data EntriesStand (follow : List Item) : ℕ → List Item → List Entry → Type 0 where
    none : EntriesStand follow zero follow []
    entry : {n : ℕ} {l : List Item} {es : List Entry} (q c v : Item) → Good q_diff q → Good (class q.packet) c → Good speed v → EntriesStand follow n l es
        → EntriesStand follow (suc n) (q ∷ c ∷ v ∷ l) (record { q_diff = q.sheet; class = c.sheet; v_diff = v.sheet } ∷ es)

  -- "V_STATIC 7 (0 to 120, steps of 5 km/h), Q_FRONT 1, N_ITER 5 (0 to 31), then that many specific entries": an element that starts there
  pub data ElementStands (follow : List Item) (start : ℕ) : List Item → Element → Type 0 where
    element : {l : List Item} {es : List Entry} (v f n : Item) → Good speed v → Good q_front f → Good (n_iter 31) n → EntriesStand follow n.packet l es
        → ElementStands follow start (v ∷ f ∷ n ∷ l) (record { start = start; v_static = v.sheet; q_front = f.sheet; entries = es })

  -- "then that many changes: D_Location 24, V_STATIC 7, Q_FRONT 1, N_ITER 5 and its specific entries": n changes after the location last;
  -- "each change starts the next", counted from where the segment starts
  pub data ChangesStand (follow : List Item) (from lsp : ℕ) : ℕ → ℕ → List Item → List Element → Type 0 where
    none : {last : ℕ} → ChangesStand follow from lsp zero last follow []
    change : {n last : ℕ} {l m : List Item} {e : Element} {es : List Element} (x : Item) → Good (d_location last lsp) x → ElementStands m (from + x.sheet) l e
        → ChangesStand follow from lsp n x.packet m es → ChangesStand follow from lsp (suc n) last (x ∷ l) (e ∷ es)

  -- "Element 0 of the profile starts at 0"; "N_ITER 5 (0 to 31), then that many changes"
  pub data ProfileStands (follow : List Item) (from lsp : ℕ) : List Item → List Element → Type 0 where
    counted : {l m : List Item} {e : Element} {es : List Element} (n : Item) → ElementStands (n ∷ m) (from + 0) l e → Good (n_iter 31) n
        → ChangesStand follow from lsp n.packet 0 m es → ProfileStands follow from lsp l (e ∷ es)

  -- "The numbers stand in packet order": the values of a segment that starts at from, by the names of their fields, and the elements of its speed profile
  pub record SegmentStands (from : ℕ) (l : List Item) (es : List Element) : Type 0 where
    pub number : Item
    pub operational : Item
    pub engine : Item
    pub date : Item
    pub seconds : Item
    pub counter : Item
    pub country : Item
    pub identity : Item
    pub major : Item
    pub minor : Item
    pub length : Item
    pub offset : Item
    pub clock : Item
    pub altitude : Item
    pub values : List Item
    pub follow : List Item
    pub split : l
        ≡ number ∷ operational ∷ engine ∷ date ∷ seconds ∷ counter ∷ country ∷ identity ∷ major ∷ minor ∷ length ∷ offset ∷ clock ∷ altitude ∷ values
    pub front : Front Good (sheet_fields wire_changes)
        (number ∷ operational ∷ engine ∷ date ∷ seconds ∷ counter ∷ country ∷ identity ∷ major ∷ minor ∷ length ∷ offset ∷ clock ∷ altitude ∷ [])
        (lists wire_changes length.packet)
    pub long : Good l_sp length
    pub elements : ProfileStands follow from length.packet values es
