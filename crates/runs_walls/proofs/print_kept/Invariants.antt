-- `runs_walls::print_kept`: the count is at most the number of places looked at.
use Rattle.std.proofs.Common.{◌≤◌}
use Rattle.runs_walls.proofs.print_kept.Given as goal

abbrev pub invariant-loop-x : goal.invariant-loop-x
invariant-loop-x g l = l.count ≤ l.x-index
