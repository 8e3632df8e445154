-- `program::check_header` meets its contract. Assumes nothing.
use borrow.Author.Tests.{lt-ltb, le-ltb}
use Rattle.model.specs.Refusal.{first}
use Rattle.model.specs.Report.{header_lines}
use Rattle.program.proofs.check_header.Goals as goal

pub returns-then-input-lt5 : goal.returns-then-input-lt5
unfolding first header_lines
returns-then-input-lt5 c = rw (lt-ltb _ 5 c.if-input-lt5.true)

pub returns-then-h : goal.returns-then-h
unfolding first header_lines
returns-then-h c =
    let h = c.read_header-h.ensures in
    rw (le-ltb _ 5 c.if-input-lt5.false, ← h.width, ← h.height, ← h.obstacles, c.if-h.true)

pub returns : goal.returns
unfolding first header_lines
returns c =
    let h = c.read_header-h.ensures in
    rw (le-ltb _ 5 c.if-input-lt5.false, ← h.width, ← h.height, ← h.obstacles, c.if-h.false)
