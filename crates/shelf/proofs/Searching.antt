-- The searches in a run: whether it keeps a key, where a new entry goes, and the number above all keys.
use mathlib.Core.Path.{◌≡◌, sym, ap, ◌∙◌}
use mathlib.Core.Bool.{true, false}
use mathlib.Core.List.{List}
use mathlib.Core.Option.{Option}
use Prim.Native.Nat.{ℕ, ◌+◌, ◌≤◌, ◌<◌}
use borrow.Author.Tests.{lt-ltb, le-ltb, le-leb, lt-leb}
use lib.ListN.{length}
use Rattle.std.specs.Prelude.{Ok, Err}
use Rattle.kinds.specs.declared.refusals.Refusal.TheVariants.{NoShelf}
use Rattle.shelf.specs.declared.Key.{Key}
use Rattle.shelf.specs.declared.run.Entry.{Entry}
use Rattle.shelf.specs.Book.{same_key, key_number, Kept, lookup, found}
use Rattle.shelf.specs.internal.Scanning.{kept_in, entry_at, above_with, gap_from, gap_in}
use Rattle.shelf.proofs.Entries.{Left, left_over_lem, left_here, left_next}

-- ---- whether a key is kept

-- the answer lies in the entries that are left
abbrev pub Asked : List ℕ → Key → ℕ → List Kept → Type 0
Asked u k at b = lookup k b ≡ lookup k (kept_in u)

module _ (u : List ℕ) (k : Key) {at : ℕ} (l : Left u (Asked u k) at) where
  pub asked_over : length u ≤ at → false ≡ found (lookup k (kept_in u))
  asked_over h = ap found (left_over_lem u (Asked u k) l h)

  module _ (short : length u ≤ 65536) (more : at < length u) {e : Entry} (r : e ≡ entry_at u at) where
    pub asked_here : same_key e.key k ≡ true → true ≡ found (lookup k (kept_in u))
    asked_here q =
        left_here u (Asked u k) l short more λ f c i h.
        let p : same_key f.key k ≡ true = ap (λ (j : Key). same_key j k) (i ∙ sym (ap (λ (x : Entry). x.key) r)) ∙ q in
        ap found (rw p at h)

    pub asked_next : same_key e.key k ≡ false → Left u (Asked u k) e.next
    asked_next q =
        rw r
        (left_next u (Asked u k) l short more λ f c i h.
        let p : same_key f.key k ≡ false = ap (λ (j : Key). same_key j k) (i ∙ sym (ap (λ (x : Entry). x.key) r)) ∙ q in
        rw p at h)

-- ---- where a new entry goes

abbrev pub Gapped : List ℕ → ℕ → ℕ → List Kept → Type 0
Gapped u m at b = gap_from at m b ≡ gap_in m (kept_in u)

module _ (u : List ℕ) (m : ℕ) {at : ℕ} (l : Left u (Gapped u m) at) where
  pub gapped_over : length u ≤ at → at ≡ gap_in m (kept_in u)
  gapped_over h = left_over_lem u (Gapped u m) l h

  module _ (short : length u ≤ 65536) (more : at < length u) {e : Entry} (r : e ≡ entry_at u at) where
    pub gapped_here : m < key_number e.key → at ≡ gap_in m (kept_in u)
    gapped_here q =
        left_here u (Gapped u m) l short more λ f c i h.
        let n : e.key ≡ f.key = ap (λ (x : Entry). x.key) r ∙ sym i in
        rw (lt-ltb m (key_number f.key) (rw n at q)) at h

    pub gapped_next : key_number e.key ≤ m → Left u (Gapped u m) e.next
    gapped_next q =
        rw r
        (left_next u (Gapped u m) l short more λ f c i h.
        let n : e.key ≡ f.key = ap (λ (x : Entry). x.key) r ∙ sym i in
        rw (le-ltb m (key_number f.key) (rw n at q)) at h)

-- ---- the number above all keys

module _ (above : ℕ) (o : Option (List ℕ)) {n m : ℕ} (e : n ≡ m) where
  pub above_greater : above ≤ n → Ok (n + 1) ≡ above_with above m o
  above_greater h = rw (e, le-leb above m (rw e at h))

  module _ (h : n < above) where
    pub above_kept : found o ≡ true → Err NoShelf ≡ above_with above m o
    above_kept q = rw (lt-leb above m (rw e at h), q)

    pub above_other : found o ≡ false → Ok above ≡ above_with above m o
    above_other q = rw (lt-leb above m (rw e at h), q)
