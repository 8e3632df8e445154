-- What is assessed. Assumes nothing.
use Rattle.std.specs.Prelude.{◌≡◌, List, map, ℕ, ◌*◌, ◌≤◌, length, get_or}
use Rattle.model.specs.declared.WallBuilding.{WallBuilding}
use Rattle.model.specs.declared.Plan.{Plan}
use Rattle.model.specs.declared.WallPlacement.{WallPlacement}
use Rattle.model.specs.Ground.{Ground, obstacles, built}
use Rattle.model.specs.Placement.{issue_word, issues_of, placement_of, placements, issue_words}
use Rattle.model.specs.Refusal.{caps}
use Rattle.model.specs.Areas.{begun}
use Rattle.model.specs.Check.{padded}
use Rattle.model.specs.Packed.{no_building}
use Rattle.placement_issues.specs.Words.{Put}
use Rattle.model.specs.Accepted.{Fitting}

-- What validation has shown of the ground and of the plan.
pub record Assessable (g : Ground) (plan : Plan) : Type 0 where
  pub cells : length g.cells ≡ g.width * g.height
  pub few : length (obstacles g) ≤ caps.obstacles
  pub fitting : Fitting plan

-- building k of a plan
abbrev pub building_at : Plan → ℕ → WallBuilding
building_at plan k = get_or (built plan) k no_building

-- Building k is assessed: both boxes and its issue count, and its issue words first in the area.
pub record OneAssessed (g : Ground) (plan : Plan) (k : ℕ) (was now : List ℕ) (r : WallPlacement) : Type 0 where
  pub placed : r ≡ placement_of g (built plan) k (building_at plan k)
  pub put : Put (map (issue_word k) (issues_of g (built plan) k (building_at plan k))) was now r.issues

-- All buildings are: their placements, and all issue words first in the area, whose rest is as it was.
pub record AllAssessed (g : Ground) (plan : Plan) (was now : List ℕ) (r : List WallPlacement) : Type 0 where
  pub placed : r ≡ padded (placements g (built plan))
  pub words : now ≡ begun (issue_words g (built plan)) was
