-- `marks::blocked_centers` meets its contract. The invariant: the first y rows are marked. Assumes nothing.
use Rattle.marks.specs.Passes.{Part}
use Rattle.marks.proofs.blocked_centers.Given as goal

abbrev pub invariant-loop-y : goal.invariant-loop-y
invariant-loop-y l = Part l.width l.y l.ground l.plan l.initial.marks l.marks
