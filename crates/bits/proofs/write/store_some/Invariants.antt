-- `bits::write::store_some` meets its contract. The loop's invariant: what is left to set, from the byte j on, stands at the top of rest.
use Rattle.std.proofs.Common.{◌≡◌, ◌-◌, ◌*◌, ◌%◌, ◌^◌}
use lib.Seq.{sets}
use Rattle.bits.specs.internal.write.Filling.{bytes_in}
use Rattle.bits.proofs.write.store_some.Given as goal

abbrev pub invariant-loop-j : goal.invariant-loop-j
invariant-loop-j l = record {
  left : sets l.initial.s l.i (bytes_in 8 l.x) ≡ sets l.s l.j (bytes_in (8 - (l.j - l.i)) l.x);
  top : l.rest ≡ l.x * 2 ^ (8 * (l.j - l.i)) % 2 ^ 64;
}
