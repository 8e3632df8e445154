-- `walls::check_wall` meets its contract. Assumes nothing.
use mathlib.Core.Path.{refl}
use Rattle.model.specs.Ground.{seen}
use Rattle.model.specs.Areas.{room_lines}
use Rattle.model.specs.Check.{CheckAreas, check_rooms}
use Rattle.model.proofs.Enough.{check_enough}
use Rattle.walls.proofs.Accepting.{all_valid, none_small}
use Rattle.walls.proofs.check_wall.Goals as goal

pub accepted-requires : goal.accepted-requires
accepted-requires c =
    let a = c.args in
    let was : CheckAreas = record { issues = a.issues.now; base = a.base.now; plan = a.planned.now; marks = a.marks.now; parents = a.parents.now; queue = a.queue.now; route = a.route.now } in
    let g = seen a.ground in
    let lines = room_lines (check_rooms g a.query was) in
    let e = c.in_ok-validate_check.was in
    let h = c.validate_check.ensures was refl in
    record { valid = all_valid g a.query lines e h; check_enough = check_enough g a.query was (none_small g a.query lines e h) }
