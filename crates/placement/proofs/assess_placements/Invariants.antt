-- `placement::assess_placements` meets its contract. The invariant: the buildings passed are assessed. Assumes nothing.
use Rattle.model.specs.Ground.{seen}
use Rattle.placement.proofs.Assessed.{SoFar}
use Rattle.placement.proofs.assess_placements.Given as goal

abbrev pub invariant-loop-i : goal.invariant-loop-i
invariant-loop-i l = SoFar (seen l.ground) l.plan l.i l.initial.issues l.issues l.at l.placements
