-- The bytes that `list` writes are inside the room.
use Rattle.std.proofs.Common.{sym, length-take-le}
use Rattle.text.proofs.Whole.{listing_inside}
use Rattle.listing.proofs.list.Goals as goal

pub slice_bounds-room-end : goal.slice_bounds-room-end
slice_bounds-room-end g c = listing_inside _ _ c.listing-length.ensures

pub slice_bounds-write_all-end : goal.slice_bounds-write_all-end
slice_bounds-write_all-end g c = sym (length-take-le _ _ (listing_inside _ _ c.listing-length.ensures))
