-- What stamping blockers into a difference grid promises. The grid of a window of w by h centers has a column and a row more.
-- Where P speaks of the window's columns and rows, a stamped grid covers exactly the places where P holds. Assumes nothing.
use Rattle.std.specs.Prelude.{◌≡◌, Bool, false, not, ◌||◌, List, ℕ, zero, suc, ◌+◌, ◌-◌, ◌*◌, ◌^◌, ◌≤◌, ◌<◌, min, leb, ltb, pos, length, get_or, drop}
use Rattle.numbers.specs.Integers.{up, dn}
use Rattle.model.specs.declared.PixelRect.{PixelRect}
use Rattle.model.specs.declared.CollisionBounds.{CollisionBounds}
use Rattle.model.specs.Lists.{any}
use Rattle.model.specs.Boxes.{meets, around, in_map}
use Rattle.grid.specs.Grid.{Differences}
use Rattle.stamps.specs.declared.Frame.{Frame}
use Rattle.stamps.specs.declared.Raised.{Raised}
use Rattle.stamps.specs.declared.Span.{Span}

-- At most n rectangles were stamped, and they cover the window's places where P holds.
pub record Stamped (w h n : ℕ) (P : ℕ → ℕ → Bool) (g : List ℕ) : Type 0 where
  pub count : ℕ → ℕ → ℕ
  pub differences : Differences (w + 1) (h + 1) count g
  pub few : (x y : ℕ) → count x y ≤ n
  pub covered : (x y : ℕ) → x < w → y < h → ltb 0 (count x y) ≡ P x y

-- At most k rectangles more, which cover the places where Q holds. What lies behind the grid stays.
pub record Adds (w h k : ℕ) (Q : ℕ → ℕ → Bool) (was now : List ℕ) : Type 0 where
  pub stamped : (n : ℕ) (P : ℕ → ℕ → Bool) → Stamped w h n P was → Stamped w h (n + k) (λ x y. P x y || Q x y) now
  pub rest : drop ((h + 1) * (w + 1)) now ≡ drop ((h + 1) * (w + 1)) was

-- The finished grid is above zero at the window's places where P holds, and what lies behind it is as it was.
pub record Counted (w h : ℕ) (P : ℕ → ℕ → Bool) (was now : List ℕ) : Type 0 where
  pub above : (x y : ℕ) → x < w → y < h → ltb 0 (get_or now (y * (w + 1) + x) 0) ≡ P x y
  pub rest : drop ((h + 1) * (w + 1)) now ≡ drop ((h + 1) * (w + 1)) was

-- The window lies below 2 ^ 62, and the grid has room for a column and a row more than the window.
pub record Framed (f : Frame) (grid : List ℕ) : Type 0 where
  pub left : f.left < 2 ^ 62
  pub top : f.top < 2 ^ 62
  pub width : f.width < 2 ^ 31
  pub height : f.height < 2 ^ 31
  pub room : (f.height + 1) * (f.width + 1) ≤ length grid

-- a blocker stops the mover at the window's center in column x and row y
abbrev pub stop : Frame → CollisionBounds → PixelRect → ℕ → ℕ → Bool
stop f m b x y = meets (around m (f.left + x) (f.top + y)) b

-- some box of a list stops the mover
abbrev pub stops : Frame → CollisionBounds → List PixelRect → ℕ → ℕ → Bool
stops f m boxes x y = any (meets (around m (f.left + x) (f.top + y))) boxes

-- r is b carried up by 2 ^ 32
pub record Carried (b : PixelRect) (r : Raised) : Type 0 where
  pub left : r.left + dn b.left ≡ 4294967296 + up b.left
  pub top : r.top + dn b.top ≡ 4294967296 + up b.top
  pub right : r.right + dn b.right ≡ 4294967296 + up b.right
  pub bottom : r.bottom + dn b.bottom ≡ 4294967296 + up b.bottom

-- the centers of an axis from which a mover reaches a blocker that lies from lo up to hi, both carried up by 2 ^ 32, as offsets into size centers from start on
abbrev pub clipped : ℕ → ℕ → ℕ → ℕ → ℕ → ℕ → Span
clipped lo hi before after start size = record { from = lo - (4294967296 + after + start); to = min (hi + before - (4294967296 + start)) size }

-- the centers of an axis, of size from start on, at which a mover lies within so many cells
abbrev pub inner_of : ℕ → ℕ → ℕ → ℕ → ℕ → Span
inner_of start size before after cells = record { from = min (before - start) size; to = 8 * cells - (after + start) }

-- a place lies outside the columns or the rows
abbrev pub outside : Span → Span → ℕ → ℕ → Bool
outside columns rows x y = ltb x columns.from || leb columns.to x || ltb y rows.from || leb rows.to y

-- the mover's box leaves the map
abbrev pub leaves : Frame → CollisionBounds → ℕ → ℕ → ℕ → ℕ → Bool
leaves f m width height x y = not (in_map width height (around m (f.left + x) (f.top + y)))

-- some number from a up to, not including, b passes the test
unfoldable pub some : ℕ → ℕ → (ℕ → Bool) → Bool
some a zero test = false
some a (suc n) test = some a n test || test (a + n)

abbrev pub among : ℕ → ℕ → (ℕ → Bool) → Bool
among a b test = some a (b - a) test

-- the rectangle with these sides
abbrev pub flat : ℕ → ℕ → ℕ → ℕ → PixelRect
flat l t r b = record { left = pos l; top = pos t; right = pos r; bottom = pos b }
