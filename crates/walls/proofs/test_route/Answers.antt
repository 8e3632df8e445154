-- `walls::test_route` meets its contract. Assumes nothing.
use mathlib.Core.Path.{refl}
use Rattle.model.specs.Ground.{seen}
use Rattle.model.specs.Areas.{room_lines}
use Rattle.model.specs.RouteTest.{test_rooms}
use Rattle.model.proofs.Enough.{test_enough}
use Rattle.marks.specs.Marks.{areas}
use Rattle.walls.proofs.Accepting.{all_valid, none_small}
use Rattle.walls.proofs.test_route.Goals as goal

pub tested-requires : goal.tested-requires
tested-requires c =
    let was = areas c.args.base.now c.args.planned.now c.args.marks.now in
    let g = seen c.args.ground in
    let q = c.args.query in
    let lines = room_lines (test_rooms q was) in
    let e = c.in_ok-validate_test.was in
    let h = c.validate_test.ensures was refl refl refl in
    (all_valid g q lines e h, test_enough q was (none_small g q lines e h))
