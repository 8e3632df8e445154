-- `query_ground::validate_obstacles` meets its contract. Assumes nothing.
use borrow.Author.Tests.{eq-eqb, ne_eqb, lt-ltb, le-ltb}
use Rattle.model.specs.Refusal.{first, obstacle_lines}
use Rattle.model.proofs.Lists.{rects_length}
use Rattle.query_ground.proofs.validate_obstacles.Goals as goal

pub returns-then-length-ne0 : goal.returns-then-length-ne0
unfolding first obstacle_lines
returns-then-length-ne0 c = simp (ne_eqb _ _ c.if-length-ne0.true)

pub returns-then-actual-gt-MAX_OBSTACLES : goal.returns-then-actual-gt-MAX_OBSTACLES
unfolding first obstacle_lines
returns-then-actual-gt-MAX_OBSTACLES c = simp (eq-eqb _ _ c.if-length-ne0.false, rects_length, lt-ltb _ _ c.if-actual-gt-MAX_OBSTACLES.true)

pub returns : goal.returns
unfolding first obstacle_lines
returns c = rw (eq-eqb _ _ c.if-length-ne0.false, rects_length, le-ltb _ _ c.if-actual-gt-MAX_OBSTACLES.false) c.validate_rects.ensures
