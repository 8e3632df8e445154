-- `walls::validate_check` meets its contract: 1 to 16, then 17. Assumes nothing.
use mathlib.Core.Path.{sym, ◌∙◌}
use native.Mathlib.Omega.{arith}
use Rattle.model.specs.Ground.{seen}
use Rattle.model.proofs.Lines.{stage_passed, stage_refused}
use Rattle.walls.proofs.Accepting.{queried, small, obstacle_count}
use Rattle.walls.proofs.validate_check.Goals as goal

pub returns-in_default : goal.returns-in_default
returns-in_default c = λ a e. sym (stage_refused _ _ c.in_default.is c.validate_query-told.ensures)

pub check_room-requires : goal.check_room-requires
check_room-requires c =
    let g = (seen c.args.ground) in
    let q = c.args.query in
    let e = c.in-Ok.is in
    let h = c.validate_query-told.ensures in
    let v = queried g q e h in
    (small g q e h, (omega (arith, v.few, obstacle_count g q e h), v.plan.count))

pub returns : goal.returns
returns c =
    let g = (seen c.args.ground) in
    let e = c.in-Ok.is in
    let h = c.validate_query-told.ensures in
    λ a l. c.check_room.ensures g a (obstacle_count g c.args.query e h) l ∙ sym (stage_passed _ _ e h)
