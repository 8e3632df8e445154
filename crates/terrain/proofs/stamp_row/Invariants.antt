-- `terrain::stamp_row` meets its contract. The invariant: the unwalkable cells before the column are stamped. A turn passes a gap of walkable cells
-- and stamps the run behind it. Assumes nothing.
use Rattle.std.proofs.Common.{◌-◌, ◌≤◌, length}
use Rattle.stamps.specs.Stamps.{Adds}
use Rattle.terrain.specs.Terrain.{line_stops}
use Rattle.terrain.proofs.stamp_row.Given as goal

abbrev pub invariant-loop-column : goal.invariant-loop-column
invariant-loop-column l =
    (l.first ≤ l.column) × (l.column ≤ length l.cells)
    × Adds l.frame.width l.frame.height (l.column - l.first) (line_stops l.frame l.mover l.cells l.row l.first l.column) l.initial.grid l.grid

abbrev pub decreases-loop-column : goal.decreases-loop-column
decreases-loop-column l = length l.cells - l.column
