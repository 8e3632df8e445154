-- `placement_issues::overlaps_buildings` meets its contract. The invariant: the words of the buildings passed are written. Assumes nothing.
use Rattle.model.specs.Ground.{built}
use Rattle.model.specs.Placement.{OverlapsBuilding}
use Rattle.placement_issues.specs.Words.{other_met_by}
use Rattle.placement_issues.proofs.Written.{Written}
use Rattle.placement_issues.proofs.overlaps_buildings.Given as goal

abbrev pub invariant-loop-i : goal.invariant-loop-i
invariant-loop-i l = Written l.building OverlapsBuilding (other_met_by l.building l.footprint) (built l.plan) l.i l.initial.issues l.issues l.count
