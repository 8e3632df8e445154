-- What the public functions ask and answer, in the map's coordinates. Assumes nothing.
use Rattle.std.specs.Prelude.{◌≡◌, Bool, true, false, List, map, ℕ, ◌+◌, ◌-◌, ◌<◌, ◌≤◌, length, Option, None, Some}
use Rattle.model.specs.declared.PixelPosition.{PixelPosition}
use Rattle.model.specs.Steps.{Joined, IsRoute, point_word}
use Rattle.model.specs.Areas.{begun}
use Rattle.marks.specs.Marks.{Unmarked}
use Rattle.stamps.specs.declared.Frame.{Frame}
use Rattle.way_back.specs.Ways.{size}

-- The map's center in column x and row y lies in the frame, and its mark is 0.
abbrev pub Clear : List ℕ → Frame → ℕ → ℕ → Type 0
Clear marks f x y = (f.left ≤ x) × (f.top ≤ y) × Unmarked marks f.width f.height (x - f.left) (y - f.top)

-- p lies in the frame.
pub record Inside (f : Frame) (p : PixelPosition) : Type 0 where
  pub west : f.left ≤ p.x
  pub east : p.x < f.left + f.width
  pub north : f.top ≤ p.y
  pub south : p.y < f.top + f.height

-- The lent areas are long enough for the frame's centers.
pub record Lent (f : Frame) (marks parents queue : List ℕ) : Type 0 where
  pub marks_long : size f ≤ length marks
  pub parents_long : size f ≤ length parents
  pub queue_long : size f ≤ length queue

-- The area begins with the words of the route's n points, and the rest is as before.
pub record Shown (free : ℕ → ℕ → Type 0) (s e : PixelPosition) (n : ℕ) (before after : List ℕ) : Type 0 where
  pub centers : List PixelPosition
  pub route : IsRoute free s e centers
  pub count : n ≡ length centers
  pub words : after ≡ begun (map point_word centers) before

-- No chain joins the ends, both free, and the area is as before.
pub record Shut (free : ℕ → ℕ → Type 0) (s e : PixelPosition) (before after : List ℕ) : Type 0 where
  pub none : Joined free s e → ⊥
  pub same : after ≡ before

abbrev pub Answers : (ℕ → ℕ → Type 0) → PixelPosition → PixelPosition → List ℕ → List ℕ → Option ℕ → Type 0
Answers free s e before after (Some n) = Shown free s e n before after
Answers free s e before after None = Shut free s e before after

-- What a search for the route answers, and that the working areas then hold `parents` and `queue`.
pub record Searched (free : ℕ → ℕ → Type 0) (s e : PixelPosition) (parents parents' queue queue' before after : List ℕ) (r : Option ℕ) : Type 0 where
  pub answer : Answers free s e before after r
  pub parents_left : parents' ≡ parents
  pub queue_left : queue' ≡ queue

-- a yes or no that says whether P holds
abbrev pub Says : Bool → Type 0 → Type 0
Says true P = P
Says false P = P → ⊥

-- r says whether a chain joins the ends, both free, and the working areas then hold `parents` and `queue`.
pub record Asked (free : ℕ → ℕ → Type 0) (s e : PixelPosition) (parents parents' queue queue' : List ℕ) (r : Bool) : Type 0 where
  pub says : Says r (Joined free s e)
  pub parents_left : parents' ≡ parents
  pub queue_left : queue' ≡ queue
