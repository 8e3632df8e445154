-- `query_way::validate_count` meets its contract. Assumes nothing.
use borrow.Author.Tests.{lt-ltb, le-ltb}
use Rattle.model.specs.Refusal.{first, count_lines}
use Rattle.query_way.proofs.validate_count.Goals as goal

pub returns-then-actual-gt-MAX_BUILDINGS : goal.returns-then-actual-gt-MAX_BUILDINGS
unfolding first count_lines
returns-then-actual-gt-MAX_BUILDINGS c = simp (lt-ltb _ _ c.if-actual-gt-MAX_BUILDINGS.true)

pub returns : goal.returns
unfolding first count_lines
returns c = simp (le-ltb _ _ c.if-actual-gt-MAX_BUILDINGS.false)
