-- Marks: what the byte of a center says, and what marking the centers of a window promises. How a mark is stored is known here, and in `mark_of` and `mark`.
-- Assumes nothing.
use Rattle.std.specs.Prelude.{◌≡◌, Bool, not, List, ℕ, ◌+◌, ◌*◌, ◌≤◌, ◌<◌, nat_abs, length, get_or, take, drop}
use Rattle.numbers.proofs.Places.{one_if}
use Rattle.model.specs.declared.PixelRect.{PixelRect}
use Rattle.model.specs.declared.CollisionBounds.{CollisionBounds}
use Rattle.model.specs.declared.Plan.{Plan}
use Rattle.model.specs.Boxes.{width_of, height_of}
use Rattle.model.specs.Ground.{Ground, before, after, built, passable}
use Rattle.model.specs.Refusal.{caps}
use Rattle.model.specs.Areas.{difference_room, mark_room, center_room, cleared}
use Rattle.model.specs.RouteTest.{TestAreas}
use Rattle.model.specs.Accepted.{Windowed}
use Rattle.stamps.specs.declared.Frame.{Frame}
use Rattle.counts.specs.Counts.{Surveyed}

-- the mark of a center: 1 where it is blocked, else 0
abbrev pub mark_of : Bool → ℕ
mark_of blocked = one_if blocked

-- a mark of 0 says that the window's center in column x and row y may be passed
abbrev pub Unmarked : List ℕ → ℕ → ℕ → ℕ → ℕ → Type 0
Unmarked marks w h x y = (x < w) × (y < h) × (get_or marks (y * w + x) 0 ≡ 0)

-- the marks of the window of w by h centers at (l, t) say what f says of the map's centers
pub record Marked (f : ℕ → ℕ → Bool) (l t w h : ℕ) (marks : List ℕ) : Type 0 where
  pub mark : (x y : ℕ) → x < w → y < h → get_or marks (y * w + x) 0 ≡ mark_of (not (f (l + x) (t + y)))

abbrev pub areas : List ℕ → List ℕ → List ℕ → TestAreas
areas base plan marks = record { base = base; plan = plan; marks = marks }

-- the window's corner and its size
abbrev pub frame_of : PixelRect → Frame
frame_of w = record { left = nat_abs w.left; top = nat_abs w.top; width = width_of w; height = height_of w }

-- the centers where a chain may pass are those with a mark of 0
abbrev pub Shows : Ground → PixelRect → CollisionBounds → List PixelRect → List ℕ → Type 0
Shows g window m boxes marks = Marked (passable g window m boxes) (nat_abs window.left) (nat_abs window.top) (width_of window) (height_of window) marks

-- The first part of the marks shows which centers are free before the plan, the next which are free after it, and everything beyond is as it was.
pub record Shown (g : Ground) (window : PixelRect) (m : CollisionBounds) (plan : Plan) (was now : List ℕ) : Type 0 where
  pub baseline : Shows g window m (before g) (take (center_room window) now)
  pub planned : Shows g window m (after g (built plan)) (take (center_room window) (drop (center_room window) now))
  pub rest : drop (mark_room window) now ≡ drop (mark_room window) was

-- What marking the centers of a window does to the areas 3 to 5: the marks are shown, and the counts are zero up to their number.
pub record Centers (g : Ground) (window : PixelRect) (m : CollisionBounds) (p : Plan) (was now : TestAreas) : Type 0 where
  pub marks : Shown g window m p was.marks now.marks
  pub base : now.base ≡ cleared (difference_room window) was.base
  pub plan : now.plan ≡ cleared (difference_room window) was.plan

-- What the checks before it have shown: the map, the obstacles and the plan are within the caps, and the window is one of the map.
pub record Ready (g : Ground) (w : PixelRect) (plan : Plan) : Type 0 where
  pub ground : Surveyed g
  pub count : plan.count ≤ caps.buildings
  pub window : Windowed g.width g.height w

-- The areas 3 to 5 have room.
pub record Roomy (window : PixelRect) (was : TestAreas) : Type 0 where
  pub base : difference_room window ≤ length was.base
  pub plan : difference_room window ≤ length was.plan
  pub marks : mark_room window ≤ length was.marks
