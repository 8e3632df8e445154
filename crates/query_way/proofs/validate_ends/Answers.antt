-- `query_way::validate_ends` meets its contract. Assumes nothing.
use Rattle.model.specs.Refusal.{first, end_lines}
use Rattle.query_way.proofs.validate_ends.Goals as goal

pub returns-then-not-window_holds : goal.returns-then-not-window_holds
unfolding first end_lines
returns-then-not-window_holds c = rw (← c.window_holds.ensures, c.if-not-window_holds.true)

pub returns-then-not-window_holds-2 : goal.returns-then-not-window_holds-2
unfolding first end_lines
returns-then-not-window_holds-2 c =
    rw (← c.window_holds.ensures, c.if-not-window_holds.false, ← c.window_holds-2.ensures, c.if-not-window_holds-2.true)

pub returns : goal.returns
unfolding first end_lines
returns c =
    rw (← c.window_holds.ensures, c.if-not-window_holds.false, ← c.window_holds-2.ensures, c.if-not-window_holds-2.false)
