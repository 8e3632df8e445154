-- What counting the blockers of a window promises. Assumes nothing.
use Rattle.std.specs.Prelude.{◌≡◌, Bool, not, List, ℕ, ◌+◌, ◌*◌, ◌^◌, ◌≤◌, ◌<◌, length}
use Rattle.model.specs.declared.PixelRect.{PixelRect}
use Rattle.model.specs.declared.CollisionBounds.{CollisionBounds}
use Rattle.model.specs.Ground.{Ground, before, free}
use Rattle.model.specs.Refusal.{caps}
use Rattle.stamps.specs.declared.Frame.{Frame}
use Rattle.stamps.specs.declared.Raised.{Raised}
use Rattle.stamps.specs.Stamps.{Carried}

-- r is b carried up, and stays below 2 ^ 62
pub record Lifted (b : PixelRect) (r : Raised) : Type 0 where
  pub carried : Carried b r
  pub right : r.right < 2 ^ 62
  pub bottom : r.bottom < 2 ^ 62

-- a center of the window is blocked: not free of the boxes
abbrev pub blocked : Ground → Frame → CollisionBounds → List PixelRect → ℕ → ℕ → Bool
blocked g f m boxes x y = not (free g m boxes (f.left + x) (f.top + y))

-- it is blocked before the plan
abbrev pub blocked_before : Ground → Frame → CollisionBounds → ℕ → ℕ → Bool
blocked_before g f m = blocked g f m (before g)

-- the map and the obstacles are within the caps
pub record Surveyed (g : Ground) : Type 0 where
  pub wide : g.width ≤ caps.cells
  pub high : g.height ≤ caps.cells
  pub cells : length g.cells ≡ g.width * g.height
  pub words : length g.words ≤ 4 * caps.obstacles

-- how many rectangles the ground can need: four for the map's edge, one a cell and one an obstacle
abbrev pub ground_cap : ℕ
ground_cap = 4 + caps.cells * caps.cells + caps.obstacles
