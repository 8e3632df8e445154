-- `placement_issues::on_bad_terrain` meets its contract: the terrain is looked at only where the footprint is in the map. Assumes nothing.
use mathlib.Core.Path.{sym, ◌∙◌}
use Rattle.footprints.proofs.Cells.{in_map_covers}
use Rattle.placement_issues.proofs.on_bad_terrain.Goals as goal

pub footprint_buildable-requires : goal.footprint_buildable-requires
footprint_buildable-requires c =
    in_map_covers _ _ _ _ (rw c.requires.footprint at (sym c.rect_in_map-inside.ensures ∙ c.if-inside.true)) c.requires.cells
