-- `counts::stamp_obstacles` meets its contract. The invariant: the first i obstacles are stamped. Assumes nothing.
use Rattle.std.proofs.Common.{take}
use Rattle.model.specs.Ground.{rects}
use Rattle.stamps.specs.Stamps.{Adds, stops}
use Rattle.counts.proofs.stamp_obstacles.Given as goal

abbrev pub invariant-loop-i : goal.invariant-loop-i
invariant-loop-i l = Adds l.frame.width l.frame.height l.i (stops l.frame l.mover (take l.i (rects l.words))) l.initial.grid l.grid
