-- `rooms::test_room` meets its contract. Assumes nothing.
use Rattle.model.specs.RouteTest.{test_rooms}
use Rattle.rooms.proofs.test_room.Goals as goal

pub returns : goal.returns
unfolding test_rooms
returns c = λ a e f h. rw (e, f, h, c.difference_room-differences.ensures, c.center_room-centers.ensures.0) at c.room_too_small.ensures
