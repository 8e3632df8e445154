-- `query::validate_way` meets its contract: four stages in order. Assumes nothing.
use mathlib.Core.Path.{sym, ◌∙◌}
use Rattle.model.proofs.Lines.{stage_passed, stage_refused}
use Rattle.query.proofs.validate_way.Goals as goal

pub returns-in_default : goal.returns-in_default
returns-in_default c = sym (stage_refused _ _ c.in_default.is c.validate_mover-told.ensures)

pub returns-in_default-told : goal.returns-in_default-told
returns-in_default-told c =
    sym (stage_passed _ _ c.in-Ok.is c.validate_mover-told.ensures ∙ stage_refused _ _ c.in_default-told.is c.validate_count-told.ensures)

pub returns-in_default-told-2 : goal.returns-in_default-told-2
returns-in_default-told-2 c =
    sym
    (stage_passed _ _ c.in-Ok.is c.validate_mover-told.ensures
    ∙ (stage_passed _ _ c.in-Ok-told.is c.validate_count-told.ensures
    ∙ stage_refused _ _ c.in_default-told-2.is c.validate_window-told.ensures))

pub returns : goal.returns
returns c =
    c.validate_ends.ensures
    ∙ sym
    (stage_passed _ _ c.in-Ok.is c.validate_mover-told.ensures
    ∙ (stage_passed _ _ c.in-Ok-told.is c.validate_count-told.ensures
    ∙ stage_passed _ _ c.in-Ok-told-2.is c.validate_window-told.ensures))
