-- `terrain::stamp_terrain_blockers` meets its contract. The invariant: the rows passed are stamped, each with at most 1,024 rectangles. Assumes nothing.
use Rattle.std.proofs.Common.{◌*◌, ◌-◌}
use Rattle.stamps.specs.Stamps.{Adds, among}
use Rattle.terrain.specs.Terrain.{row_stops}
use Rattle.terrain.proofs.stamp_terrain_blockers.Given as goal

abbrev pub invariant-loop-row : goal.invariant-loop-row
invariant-loop-row l =
    Adds l.frame.width l.frame.height ((l.row - l.initial.row) * 1024) (λ x y. among l.initial.row l.row (λ r. row_stops l.frame l.mover l.cells l.width r l.columns.from l.columns.to x y)) l.initial.grid l.grid
