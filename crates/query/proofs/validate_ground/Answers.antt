-- `query::validate_ground` meets its contract: three stages in order. Assumes nothing.
use mathlib.Core.Path.{sym, ◌∙◌}
use Rattle.model.proofs.Lines.{stage_passed, stage_refused}
use Rattle.query.proofs.validate_ground.Goals as goal

pub returns-in_default : goal.returns-in_default
returns-in_default c = sym (stage_refused _ _ c.in_default.is c.validate_size-told.ensures)

pub returns-in_default-told : goal.returns-in_default-told
returns-in_default-told c =
    sym (stage_passed _ _ c.in-Ok.is c.validate_size-told.ensures ∙ stage_refused _ _ c.in_default-told.is c.validate_cells-told.ensures)

pub returns : goal.returns
returns c =
    c.validate_obstacles.ensures
    ∙ sym (stage_passed _ _ c.in-Ok.is c.validate_size-told.ensures ∙ stage_passed _ _ c.in-Ok-told.is c.validate_cells-told.ensures)
