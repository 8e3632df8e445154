-- `query_ground::validate_size` meets its contract. Assumes nothing.
use borrow.Author.Tests.{eq-eqb, ne_eqb}
use Rattle.model.specs.Refusal.{first, size_lines}
use Rattle.query_ground.proofs.validate_size.Goals as goal

pub returns-then-width-height : goal.returns-then-width-height
unfolding first size_lines
returns-then-width-height c = rw c.if-width-height.true

pub returns-then-actual-expected : goal.returns-then-actual-expected
unfolding first size_lines
returns-then-actual-expected c = simp (c.if-width-height.false, ne_eqb _ _ c.if-actual-expected.true)

pub returns : goal.returns
unfolding first size_lines
returns c = simp (c.if-width-height.false, eq-eqb _ _ c.if-actual-expected.false)
