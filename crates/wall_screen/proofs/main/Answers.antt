-- The bytes that `main` writes are inside the room.
use Rattle.std.proofs.Common.{sym, length-take-le}
use Rattle.screen.proofs.Whole.{screen_inside}
use Rattle.wall_screen.proofs.main.Goals as goal

pub slice_bounds-room-end : goal.slice_bounds-room-end
slice_bounds-room-end c = screen_inside _ _ _ c.screen-length.ensures

pub slice_bounds-write_all-end : goal.slice_bounds-write_all-end
slice_bounds-write_all-end c = sym (length-take-le _ _ (screen_inside _ _ _ c.screen-length.ensures))
