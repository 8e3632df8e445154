-- `rooms::room_too_small` meets its contract: the lines that are left are those from area i on. Assumes nothing.
use mathlib.Core.Path.{◌≡◌}
use lib.ListN.{drop}
use Rattle.model.specs.Refusal.{first}
use Rattle.model.specs.Areas.{room_lines}
use Rattle.rooms.proofs.room_too_small.Given as goal

abbrev pub invariant-loop-room : goal.invariant-loop-room
invariant-loop-room l = first (room_lines l.rooms) ≡ first (room_lines (drop l.room-index l.rooms))
