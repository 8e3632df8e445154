-- `packed::validate_read` meets its contract. Assumes nothing.
use mathlib.Core.Path.{sym, ◌∙◌}
use Rattle.model.proofs.Lines.{stage_passed, stage_refused}
use Rattle.packed.proofs.validate_read.Goals as goal

pub returns-in_default : goal.returns-in_default
returns-in_default c = λ a e f. sym (stage_refused _ _ c.in_default.is c.validate_length-told.ensures)

pub returns : goal.returns
returns c =
    λ a e f. c.read_room.ensures c.args.s.now a c.read_header-h.ensures e f
    ∙ sym (stage_passed _ _ c.in-Ok.is c.validate_length-told.ensures)
