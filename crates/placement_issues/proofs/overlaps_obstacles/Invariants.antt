-- `placement_issues::overlaps_obstacles` meets its contract. The invariant: the words of the obstacles passed are written. Assumes nothing.
use Rattle.model.specs.Ground.{rects}
use Rattle.model.specs.Placement.{OverlapsObstacle}
use Rattle.placement_issues.specs.Words.{met_by}
use Rattle.placement_issues.proofs.Written.{Written}
use Rattle.placement_issues.proofs.overlaps_obstacles.Given as goal

abbrev pub invariant-loop-i : goal.invariant-loop-i
invariant-loop-i l = Written l.building OverlapsObstacle (met_by l.footprint) (rects l.words) l.i l.initial.issues l.issues l.count
