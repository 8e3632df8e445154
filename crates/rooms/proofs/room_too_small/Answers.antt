-- `rooms::room_too_small` meets its contract: the lines that are left are those from area i on. Assumes nothing.
use mathlib.Core.Path.{sym, ◌∙◌}
use Rattle.rooms.proofs.Areas.{area_enough, area_small, areas_done}
use Rattle.rooms.proofs.room_too_small.Goals as goal

pub returns-then-room : goal.returns-then-room
returns-then-room c =
    sym (c.loop-room.invariant ∙ area_small c.args.rooms.now c.loop-room.room-index _ c.loop-room-test.true c.if-room.true)

pub loop-room-preserved : goal.loop-room-preserved
loop-room-preserved c =
    c.loop-room.invariant ∙ area_enough c.args.rooms.now c.loop-room.room-index _ c.loop-room-test.true c.if-room.false

pub returns : goal.returns
returns c = sym (c.loop-room.invariant ∙ areas_done c.args.rooms.now c.loop-room.room-index c.loop-room-test.false)
