-- The sheet of an accepted packet written into a room, part by part. Used by contracts of the code; no promise names these.
use Rattle.std.specs.Prelude.{◌≡◌, List, ℕ, ◌*◌, ◌^◌, ◌≤◌, ◌<◌, length}
use Rattle.numbers.specs.internal.Groups.{Put, put_number}
use Rattle.format.specs.Format.{Format}
use Rattle.format.specs.Media.{packet}
use Rattle.format.specs.internal.Places.{bits_between}
use Rattle.format.specs.internal.Pass.{Task}
use Rattle.format.specs.internal.Ways.{Way, passing, Went, Over, Ahead}
use Rattle.format.specs.internal.Tasks.{Told}

-- the room p with the number v put at the byte up to which p is written
abbrev pub putting : Put → ℕ → Put
putting p v = put_number p.bytes p.next v

-- the task of the pass: each field's number is put after the numbers before it
abbrev pub writing : Task Put (Told Put)
writing = record { on = λ k i p. putting p i.sheet; answer = Told.told; refusal = Told.not }

-- a place in a packet of at least eight bytes, whose fields end at the bit stop
pub record Reads (s : List ℕ) (stop at : ℕ) : Type 0 where
  pub before : at ≤ stop
  pub inside : stop ≤ 8 * length s
  pub few : stop < 2 ^ 32
  pub long : 8 ≤ length s

abbrev pub writer : List ℕ → ℕ → Way Put (Told Put)
writer s stop = passing packet writing (λ at. bits_between s at stop) (λ at p. Reads s stop at)

-- all of the numbers are written, none of them past the room's end
abbrev pub Fits : Told Put → Type 0
Fits (Told.told p) = p.next ≤ length p.bytes
Fits (Told.not r at) = ⊥

-- a room that is written up to the byte n
abbrev pub filled : List ℕ → ℕ → Put
filled room n = record { next = n; bytes = room }

-- A part may be written from here: the packet is accepted with what follows, and all of it fits the room.
pub record PartWritable (part : Format → Format) (s : List ℕ) (stop at : ℕ) (p : Put) : Type 0 where
  pub reads : Reads s stop at
  pub ahead : Ahead (writer s stop) Fits part at p

-- A part is written: whatever follows it, writing from here is writing what follows from there, in a room of the same length.
pub record Wrote (part : Format → Format) (s : List ℕ) (stop at : ℕ) (p : Put) (to : ℕ) (q : Put) : Type 0 where
  pub over : Over (writer s stop) part at p (Went.on to q)
  pub long : length q.bytes ≡ length p.bytes
