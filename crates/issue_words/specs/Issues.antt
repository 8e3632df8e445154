-- The issues of document 01 that the program's values stand for. Assumes nothing.
use Rattle.std.specs.Prelude.{Bool, cond, List, [], ◌∷◌, ℕ}
use Rattle.model.specs.Placement.{Issue}
use Rattle.model.specs.Placement as placement
use Rattle.issue_words.specs.declared.PlacementIssue.{PlacementIssue}
use Rattle.issue_words.specs.declared.PlacementIssue.TheVariants.{OutOfMap, UnbuildableTerrain, OverlapsObstacle, OverlapsBuilding}

-- the issue of document 01 that a value of the program stands for
abbrev pub issue_of : PlacementIssue → Issue
issue_of OutOfMap = placement.OutOfMap
issue_of UnbuildableTerrain = placement.UnbuildableTerrain
issue_of (OverlapsObstacle i) = placement.OverlapsObstacle i
issue_of (OverlapsBuilding i) = placement.OverlapsBuilding i

-- an issue's index, and 0 where its kind has none
abbrev pub index : Issue → ℕ
index placement.OutOfMap = 0
index placement.UnbuildableTerrain = 0
index (placement.OverlapsObstacle i) = i
index (placement.OverlapsBuilding i) = i

-- an issue given once, if the test holds
abbrev pub noted : Bool → Issue → List Issue
noted test i = cond test (i ∷ []) []
