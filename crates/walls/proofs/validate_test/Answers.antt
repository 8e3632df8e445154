-- `walls::validate_test` meets its contract: 1 to 16, then 17. Assumes nothing.
use mathlib.Core.Path.{sym, ◌∙◌}
use Rattle.model.specs.Ground.{seen}
use Rattle.model.proofs.Lines.{stage_passed, stage_refused}
use Rattle.walls.proofs.Accepting.{small}
use Rattle.walls.proofs.validate_test.Goals as goal

pub returns-in_default : goal.returns-in_default
returns-in_default c = λ a base plan marks. sym (stage_refused _ _ c.in_default.is c.validate_query-told.ensures)

pub test_room-requires : goal.test_room-requires
test_room-requires c =
    let a = c.args in
    small (seen a.ground) a.query c.in-Ok.is c.validate_query-told.ensures

pub returns : goal.returns
returns c =
    λ a base plan marks. c.test_room.ensures a base plan marks ∙ sym (stage_passed _ _ c.in-Ok.is c.validate_query-told.ensures)
