-- `packet_segment::head::identity_bytes` meets its contract.
use lib.Dec.{lit≤}
use native.Mathlib.Omega.{arith}
use Rattle.packet_segment.proofs.head.Places.{few_bits}
use Rattle.packet_segment.proofs.head.identity_bytes.Goals as goal

pub short-country-requires : goal.short-country-requires
short-country-requires c = few_bits c.args.s.now 120 10 (lit≤ tt) c.read_window.ensures

pub short-major-requires : goal.short-major-requires
short-major-requires c = few_bits c.args.s.now 162 8 (lit≤ tt) c.read_window-3.ensures

pub short-minor-requires : goal.short-minor-requires
short-minor-requires c = few_bits c.args.s.now 170 8 (lit≤ tt) c.read_window-4.ensures

pub returns : goal.returns
returns c =
    omega (arith, rw c.read_window.ensures at c.short-country.ensures, rw c.read_window-2.ensures at c.groups-identity.ensures, rw c.read_window-3.ensures at c.short-major.ensures, rw c.read_window-4.ensures at c.short-minor.ensures)
