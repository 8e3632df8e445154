-- Of `records::copy_obstacles`: the words of the rectangles passed are laid. Assumes nothing.
use Rattle.records.proofs.Fill.{Inv}
use Rattle.records.proofs.copy_obstacles.Given as goal

abbrev pub invariant-loop-i : goal.invariant-loop-i
invariant-loop-i l = Inv l.rects l.initial.words l.words l.i
