-- `packed::read_room` meets its contract. Assumes nothing.
use Rattle.model.specs.Packed.{read_rooms}
use Rattle.packed.proofs.read_room.Goals as goal

pub returns : goal.returns
unfolding read_rooms
returns c = λ s a e f h. rw (f, h, c.area.ensures.0, e.width, e.height, e.obstacles) at c.room_too_small.ensures
