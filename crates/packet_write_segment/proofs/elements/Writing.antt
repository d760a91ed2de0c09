-- Writing a part of an accepted sheet's packet: a number that is there, what is left of a part, and bits put in one piece.
use mathlib.Core.Path.{◌≡◌, refl, sym, ap, ap₂, ◌∙◌}
use mathlib.Core.Bool.{Bool, true, false}
use mathlib.Core.List.{List, [], ◌++◌, append_assoc, append-nil}
use mathlib.Core.Option.{Option, none, some}
use Prim.Native.Nat.{ℕ, ◌+◌, ◌*◌, ◌-◌, ◌^◌, ◌≤◌, ◌<◌}
use native.Mathlib.Nat.{mod-eq_of_lt}
use native.Mathlib.Omega.{arith}
use lib.ListN.{length, drop, length-append, length-drop}
use lib.Pow.{high, low}
use Rattle.bits.specs.Bits.{Bytes, bits_of}
use Rattle.bits.proofs.Spelling.{bits_append, bits_low}
use Rattle.std.specs.Prelude as std
use Rattle.std.specs.Prelude.{Some, None}
use Rattle.numbers.specs.Numbers.{number_in, groups_in}
use Rattle.numbers.proofs.Counting.{count_some}
use Rattle.numbers.proofs.Reading.{number_only}
use Rattle.numbers.specs.declared.accepted.ReadNumber.{ReadNumber}
use Rattle.numbers.specs.internal.accepted.Accepted.{There, Single, Reads}
use Rattle.kinds.specs.Kind.{Kind, when}
use Rattle.kinds.specs.Judged.{number_in_sheet}
use Rattle.fields.proofs.Lawful.{LawfulKind, value_small}
use Rattle.fields.specs.internal.lower.Lowered.{value_or, lowered}
use Rattle.format.specs.Format.{Format, field, times, Read, accepted, refused, read, write, answer_of}
use Rattle.format.specs.Media.{packet, sheet}
use Rattle.format.specs.internal.Places.{Is, Refused, taken_at, number_taken}
use Rattle.format.specs.internal.Pass.{made}
use Rattle.format.specs.internal.Tasks.{Told, recording}
use Rattle.format.specs.internal.Ways.{Went, Got, Over, Took, Left, Ahead}
use Rattle.format.proofs.Media.{bytes_drop}
use Rattle.format.proofs.Places.{number_found, number_none}
use Rattle.format.proofs.Passing.{pass_read, sheet_seen}
use Rattle.format.proofs.Tasks.{made_record}
use Rattle.format.proofs.Ways.{took_is, took_off, left_all, left_as, left_none, left_on, left_value, times_more, times_none, ahead_first, ahead_left, ahead_never}
use Rattle.packet_write_segment.specs.declared.elements.PacketSpot.{PacketSpot}
use Rattle.packet_write_segment.specs.declared.row.Given.{Given}
use Rattle.packet_write_segment.specs.internal.row.Alone.{Copied, Fitting, Gives}
use Rattle.packet_write_segment.specs.internal.elements.Writing.{writer, Few, FieldPut, Ready, Puts, Wrote}

-- ---- bits

-- two fields in one piece
pub bits_join : (a b h l : ℕ) → l < 2 ^ b → bits_of (a + b) (h * 2 ^ b + l) ≡ bits_of a h ++ bits_of b l
bits_join a b h l e =
    bits_append a b (h * 2 ^ b + l)
    ∙ ap₂ (λ (p q : List Bool). p ++ q) (ap (bits_of a) (high h b e)) (bits_low b (h * 2 ^ b + l) l (low h b e ∙ sym (mod-eq_of_lt e)))

-- ---- what is known while something is ahead

few_bits : (x : List Bool) (f : Format) (r : Read) → Few (answer_of Told.not (λ l. Told.told (x ++ write packet f l)) r) → length x < 2 ^ 32
few_bits x f (accepted l) h = omega (arith, h, length-append x (write packet f l))
few_bits x f (refused r n) h = absurd h

-- what a whole tree comes to: the bits so far, and those of its values
pub run_told : (s : List ℕ) (f : Format) (at : ℕ) (x : List Bool)
    → (writer s).run f at x ≡ answer_of Told.not (λ l. Told.told (x ++ write packet f l)) (read sheet f at (drop at s))
run_told s f at x = pass_read sheet (recording packet) f x at (drop at s) ∙ go (read sheet f at (drop at s))
  where
    go : (r : Read) → answer_of Told.not (λ l. Told.told (made (recording packet) f l x)) r ≡ answer_of Told.not (λ l. Told.told (x ++ write packet f l)) r
    go (accepted l) = ap Told.told (made_record packet f l x)
    go (refused r n) = refl

pub at_small : {part : Format → Format} {s room : List ℕ} {p : PacketSpot} → Ready part s room p → p.at < 2 ^ 32
at_small {part} {s} {p = p} h =
    let a = h.ahead in
    omega (arith, h.filled.count, few_bits h.bits (part a.follows) (read sheet (part a.follows) p.from (drop p.from s)) (rw (run_told s (part a.follows) p.from h.bits) at a.good))

-- ---- a number that is there

-- the number n before the place to: its value in the packet is v
pub record Has (k : Kind) (s : List ℕ) (at n to v : ℕ) : Type 0 where
  pub lower : k.lower n ≡ some v
  pub took : (x : List Bool) → Took (writer s) k at x (Got.is v to (x ++ bits_of k.width v))

module _ (k : Kind) (part : ℕ → Format → Format) (s : List ℕ) (ok : Bytes s) (at : ℕ) {x : List Bool} (a : Ahead (writer s) Few (λ f. field k (λ u. part u f)) at x) where
  never : {C : Type 0} {r : ℕ} → Refused r ≡ number_taken k s at → C
  never e = ahead_never part (λ z. z) (took_off (sheet_seen s) (recording packet) (λ n y. n ≤ length s) k tt e) a

  lower_some : (b : ℕ) → number_in (drop at s) ≡ Some b → k.lower b ≡ some (lowered k b)
  lower_some b e = go (k.lower b) refl
    where
      go : (o : Option ℕ) → k.lower b ≡ o → o ≡ some (value_or (2 ^ k.width) o)
      go none q = let z : Refused (k.refusal b) ≡ taken_at (number_in_sheet k b) (at + length (groups_in b)) = rw q in never (z ∙ number_found k s at e)
      go (some u) q = refl

  -- what is accepted has a number here
  pub number_there : There s at
  number_there = go (number_in (drop at s)) refl
    where
      go : (m : std.Option ℕ) → number_in (drop at s) ≡ m → There s at
      go None e = never (number_none k s at e)
      go (Some v) e = record { value = v; is = e }

  -- of one group, where the kind's numbers are
  pub number_single : LawfulKind k → k.highest < 128 → Single s at
  number_single w m =
      let t = number_there in
      record { there = t; small = omega (arith, w.top t.value (lowered k t.value) (lower_some t.value t.is)) }

  pub number_has : {r : ReadNumber} → Reads s at r → Has k s at r.value r.next (lowered k r.value)
  number_has {r} t =
      let b : ℕ = r.value in
      let g : ℕ = length (groups_in b) in
      let w = number_only (drop at s) b (bytes_drop at s ok) t.is in
      let l : at + g ≤ length s = omega (arith, ap length w.bytes, length-append (groups_in b) (drop g (drop at s)), length-drop at s, count_some b) in
      let o = lower_some b t.is in
      let i : Is (record { sheet = b; packet = lowered k b }) (at + g) ≡ taken_at (number_in_sheet k b) (at + g) = rw o in
      rw t.next
      record { lower = o; took = λ y. took_is (sheet_seen s) (recording packet) (λ n z. n ≤ length s) k tt (i ∙ number_found k s at t.is) l }

same_is : (b : Bool) (n v : ℕ) → when b n ≡ some v → v ≡ n
same_is true n v e = cc
same_is false n v e = absurd (let z : ◌≡◌ {A = ℕ} 0 1 = cc in omega arith)

module _ {k : Kind} {s : List ℕ} {at n to v : ℕ} (h : Has k s at n to v) where
  -- "They equal the packet fields"
  pub has_same : (b : Bool) → k.lower n ≡ when b n → Has k s at n to n
  has_same b e = let q : v ≡ n = same_is b n v (sym e ∙ h.lower) in rw q at h

  pub has_small : LawfulKind k → v < 2 ^ k.width
  has_small w = value_small w v (w.into n v h.lower)

-- ---- what is left of a part, after these bits of it

abbrev pub Gone : List ℕ → (Format → Format) → (Format → Format) → ℕ → ℕ → List Bool → Type 0
Gone s p q from to bits = (x : List Bool) → Left (writer s) p q from x to (x ++ bits)

pub gone_all : {s : List ℕ} {p : Format → Format} {at : ℕ} → at ≤ length s → Gone s p p at at []
gone_all h x = rw append-nil (left_all h)

module _ {s : List ℕ} {p : Format → Format} {from to : ℕ} {bits : List Bool} where
  pub gone_as : {q : Format → Format} (r : Format → Format) → ((f : Format) → q f ≡ r f) → Gone s p q from to bits → Gone s p r from to bits
  gone_as r e g x = left_as r e (g x)

  -- a number that is there
  module _ {room : List ℕ} {u : PacketSpot} (h : Ready p s room u) (e : u.from ≡ from) (k : Kind) (part : ℕ → Format → Format)
      (g : Gone s p (λ f. field k (λ v. part v f)) from to bits) where
    pub gone_there : There s to
    gone_there = number_there k part s h.bytes to (ahead_left (g h.bits) (rw e at h.ahead))

    pub gone_single : LawfulKind k → k.highest < 128 → Single s to
    gone_single w m = number_single k part s h.bytes to (ahead_left (g h.bits) (rw e at h.ahead)) w m

    pub gone_has : {r : ReadNumber} → Reads s to r → Has k s to r.value r.next (lowered k r.value)
    gone_has t = number_has k part s h.bytes to (ahead_left (g h.bits) (rw e at h.ahead)) t

  -- it is taken
  pub gone_field : (k : Kind) (part : ℕ → Format → Format) → Gone s p (λ f. field k (λ v. part v f)) from to bits → {n after v : ℕ} → Has k s to n after v
      → Gone s p (part v) from after (bits ++ bits_of k.width v)
  gone_field k part g {v = v} h x = rw (← append_assoc x bits (bits_of k.width v)) (left_value part (g x) (h.took (x ++ bits)))

  -- a part of it
  pub gone_over : (q r : Format → Format) → Gone s p (λ f. q (r f)) from to bits → {after : ℕ} {more : List Bool}
      → ((x : List Bool) → Over (writer s) q to x (Went.on after (x ++ more))) → Gone s p r from after (bits ++ more)
  gone_over q r g {more = more} o x = rw (← append_assoc x bits more) (left_on q r (g x) (o (x ++ bits)))

-- ---- bits put

pub puts_none : {room : List ℕ} {at wait : ℕ} → Puts room at wait [] room at wait
puts_none = record { long = refl; fills = λ x h. rw append-nil h }

pub puts_field : {room mid end : List ℕ} {at wait v w next : ℕ} {p q : PacketSpot} {bits : List Bool} → Puts room at wait bits mid p.at p.wait → FieldPut mid p w v next end q
    → Puts room at wait (bits ++ bits_of w v) end q.at q.wait
puts_field {v = v} {w = w} {bits = bits} a b =
    let f = b.filling in
    record { long = f.long ∙ a.long; fills = λ x h. rw (b.at, ← append_assoc x bits (bits_of w v)) (f.fills (x ++ bits) (a.fills x h)) }

pub puts_on : {room mid end : List ℕ} {at wait to left after last : ℕ} {bits more : List Bool} → Puts room at wait bits mid to left → Puts mid to left more end after last
    → Puts room at wait (bits ++ more) end after last
puts_on {bits = bits} {more = more} a b =
    record { long = b.long ∙ a.long; fills = λ x h. rw (← append_assoc x bits more) (b.fills (x ++ bits) (a.fills x h)) }

-- ---- both

-- what is left of a part, and the room at that place
pub record Along (p q : Format → Format) (s room : List ℕ) (u : PacketSpot) (after : List ℕ) (v : PacketSpot) : Type 0 where
  pub bits : List Bool
  pub gone : Gone s p q u.from v.from bits
  pub puts : Puts room u.at u.wait bits after v.at v.wait

module _ {s room : List ℕ} {u : PacketSpot} where
  pub along_all : {p : Format → Format} → Ready p s room u → Along p p s room u room u
  along_all h = record { bits = []; gone = gone_all h.inside; puts = puts_none }

  module _ {p : Format → Format} {mid : List ℕ} {v : PacketSpot} where
    pub along_as : {q : Format → Format} (r : Format → Format) → ((f : Format) → q f ≡ r f) → Along p q s room u mid v → Along p r s room u mid v
    along_as r e l = record { bits = l.bits; gone = gone_as r e l.gone; puts = l.puts }

    pub along_none : Along p (λ f. f) s room u mid v → Wrote p s room u mid v
    along_none l = record { bits = l.bits; over = λ x. left_none (l.gone x); puts = l.puts }

    module _ (q r : Format → Format) (l : Along p (λ f. q (r f)) s room u mid v) where
      pub along_next : Ready p s room u → Ready q s mid v
      along_next h =
          record {
            bytes = h.bytes;
            inside = (l.gone []).stands;
            bits = h.bits ++ l.bits;
            filled = l.puts.fills h.bits h.filled;
            ahead = ahead_first r (ahead_left (l.gone h.bits) h.ahead);
          }

      pub along_on : {end : List ℕ} {w : PacketSpot} → Wrote q s mid v end w → Along p r s room u end w
      along_on o = record { bits = l.bits ++ o.bits; gone = gone_over q r l.gone o.over; puts = puts_on l.puts o.puts }

  -- a part so many times: one more, and none left
  module _ {p : Format → Format} (part : Format → Format) {n : ℕ} {mid : List ℕ} {v : PacketSpot} (l : Along p (times part n) s room u mid v) where
    module _ (some : 0 < n) where
      more : Along p (λ f. part (times part (n - 1) f)) s room u mid v
      more = along_as (λ f. part (times part (n - 1) f)) (times_more part n some) l

      pub times_next : Ready p s room u → Ready part s mid v
      times_next h = along_next part (times part (n - 1)) more h

      pub times_on : {end : List ℕ} {w : PacketSpot} → Wrote part s mid v end w → Along p (times part (n - 1)) s room u end w
      times_on o = along_on part (times part (n - 1)) more o

    pub times_end_lem : n ≤ 0 → Wrote p s room u mid v
    times_end_lem h = along_none (along_as (λ f. f) (times_none part n h) l)

  -- what is left once some of it is put in one piece, and a part that is
  pub along_once : {p q : Format → Format} {to : ℕ} {b : List Bool} → Gone s p q u.from to b → {w v : ℕ} → b ≡ bits_of w v → {end : List ℕ} {r : PacketSpot}
      → FieldPut room u w v to end r → Along p q s room u end r
  along_once g {w} {v} e f = record { bits = bits_of w v; gone = λ x. rw (f.from) (rw e at (g x)); puts = puts_field puts_none f }

  pub wrote_once : {p : Format → Format} {to : ℕ} {b : List Bool} → Gone s p (λ f. f) u.from to b → {w v : ℕ} → b ≡ bits_of w v → {end : List ℕ} {q : PacketSpot}
      → FieldPut room u w v to end q → Wrote p s room u end q
  wrote_once g {w} {v} e f = along_none (along_once g e f)

-- ---- a field that is put alone, and whose number in the sheet is its value

-- it is next in what is left of a part
pub record Next (p : Format → Format) (k : Kind) (part : ℕ → Format → Format) (s room : List ℕ) (u : PacketSpot) (mid : List ℕ) (v : PacketSpot) : Type 0 where
  pub ready : Ready p s room u
  pub along : Along p (λ f. field k (λ x. part x f)) s room u mid v
  pub lawful : LawfulKind k
  pub same : (n : ℕ) → k.lower n ≡ when (k.allowed n) n

module _ {p : Format → Format} {k : Kind} {part : ℕ → Format → Format} {s room mid : List ℕ} {u v : PacketSpot} (g : Next p k part s room u mid v) where
  next_has : {t : ReadNumber} → Reads s v.from t → Has k s v.from t.value t.next t.value
  next_has {t} d = has_same (gone_has g.ready refl k part g.along.gone d) (k.allowed t.value) (g.same t.value)

  pub next_fits : Fitting s v k.width
  next_fits =
      record {
        there = gone_there g.ready refl k part g.along.gone;
        some = g.lawful.narrow.some;
        most = g.lawful.narrow.most;
        small = λ d. has_small (next_has d) g.lawful;
        near = at_small (along_next (λ f. field k (λ x. part x f)) (λ f. f) g.along g.ready);
      }

  module _ {end : List ℕ} {r : Given} where
    -- it is put, and what is left
    pub next_on : {w : ℕ} → k.width ≡ w → Copied s mid v w end r → Along p (part r.value) s room u end r.next
    next_on {w} e c =
        record { bits = g.along.bits ++ bits_of w r.value; gone = rw e at (gone_field k part g.along.gone (next_has c.reads)); puts = puts_field g.along.puts c.put }

    pub next_gives : Copied s mid v k.width end r → Gives k s mid v end r
    next_gives c = record { took = (next_has c.reads).took; puts = puts_field puts_none c.put }
