-- The issue words of one building by their kind, and where they stand. Assumes nothing.
use Rattle.std.specs.Prelude.{◌≡◌, Bool, not, ◌&&◌, List, ◌++◌, map, ℕ, eqb, length}
use Rattle.model.specs.declared.PixelRect.{PixelRect}
use Rattle.model.specs.declared.WallBuilding.{WallBuilding}
use Rattle.model.specs.Lists.{places}
use Rattle.model.specs.Boxes.{meets, in_map, footprint_box, collision_box}
use Rattle.model.specs.Placement.{OutOfMap, UnbuildableTerrain, OverlapsObstacle, OverlapsBuilding, issue_word}
use Rattle.model.specs.Areas.{begun}
use Rattle.footprints.specs.Cells.{bad_under, non_empty}
use Rattle.issue_words.specs.Issues.{noted}

-- The words stand first in the area now, and are so many. The rest is as it was.
pub record Put (words was now : List ℕ) (n : ℕ) : Type 0 where
  pub count : n ≡ length words
  pub area : now ≡ begun words was

-- the test of obstacle i, and of building i beside building k
abbrev pub met_by : PixelRect → ℕ → PixelRect → Bool
met_by footprint i o = meets footprint o

abbrev pub other_met_by : ℕ → PixelRect → ℕ → WallBuilding → Bool
other_met_by k footprint i b = not (eqb i k) && meets footprint (footprint_box b)

-- the words of building k for the obstacles that its footprint meets
abbrev pub obstacle_words : ℕ → PixelRect → List PixelRect → List ℕ
obstacle_words k footprint os = map (issue_word k) (map OverlapsObstacle (places (met_by footprint) os))

-- for the other buildings whose footprints meet it
abbrev pub building_words : ℕ → PixelRect → List WallBuilding → List ℕ
building_words k footprint bs = map (issue_word k) (map OverlapsBuilding (places (other_met_by k footprint) bs))

-- for the map's edge and the terrain
abbrev pub ground_words : ℕ → ℕ → List ℕ → ℕ → WallBuilding → List ℕ
ground_words width height cells k b =
    map (issue_word k) (noted (not (in_map width height (footprint_box b) && in_map width height (collision_box b))) OutOfMap)
    ++ map (issue_word k) (noted (in_map width height (footprint_box b) && non_empty (bad_under width cells b)) UnbuildableTerrain)
