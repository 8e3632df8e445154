-- `report::put_placements` meets its contract. At each turn the buildings from there on are left. Assumes nothing.
use Rattle.report.proofs.Buildings.{BuildingsLeft}
use Rattle.report.proofs.put_placements.Given as goal

abbrev pub invariant-loop-index : goal.invariant-loop-index
invariant-loop-index l = BuildingsLeft l.placements l.words l.index l.rest l.initial.out l.at l.out l.end
