-- `query_buildings::validate_buildings` meets its contract: the lines that are left are those from building i on. Assumes nothing.
use mathlib.Core.Path.{◌≡◌}
use lib.ListN.{drop}
use Rattle.model.specs.Ground.{built}
use Rattle.model.specs.Refusal.{first, building_lines}
use Rattle.query_buildings.proofs.validate_buildings.Given as goal

abbrev pub invariant-loop-index : goal.invariant-loop-index
invariant-loop-index l = first (building_lines 0 (built l.plan)) ≡ first (building_lines l.index (drop l.index (built l.plan)))
