-- `query_way::validate_mover` meets its contract. Assumes nothing.
use Rattle.model.specs.Refusal.{first, mover_lines}
use Rattle.query_way.proofs.validate_mover.Goals as goal

pub returns-then-is_wide : goal.returns-then-is_wide
unfolding first mover_lines
returns-then-is_wide c = rw (← c.is_wide.ensures, c.if-is_wide.true)

pub returns : goal.returns
unfolding first mover_lines
returns c = rw (← c.is_wide.ensures, c.if-is_wide.false)
