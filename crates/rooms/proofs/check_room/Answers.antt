-- `rooms::check_room` meets its contract. Assumes nothing.
use Rattle.model.specs.Check.{check_rooms}
use Rattle.rooms.proofs.check_room.Goals as goal

pub returns : goal.returns
unfolding check_rooms
returns c = λ g a e f. rw (f, e, c.difference_room-differences.ensures, c.center_room-centers.ensures.0) at c.room_too_small.ensures
