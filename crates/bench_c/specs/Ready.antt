-- What the tests before a search, and before marking, show. Assumes nothing.
use Rattle.std.specs.Prelude.{◌≡◌, ℕ, ◌+◌, ◌*◌, ◌≤◌, pos}
use Rattle.model.specs.declared.PixelRect.{PixelRect}

-- A window of at most 1,024 a side, and areas with room for its centers.
pub record Ready (w h marks parents queue out : ℕ) : Type 0 where
  pub wide : w ≤ 1024
  pub high : h ≤ 1024
  pub marks_long : w * h ≤ marks
  pub parents_long : w * h ≤ parents
  pub queue_long : w * h ≤ queue
  pub out_long : w * h ≤ out

-- So many centers from start on lie along a side of so many cells, within the caps.
pub record Along (start size cells : ℕ) : Type 0 where
  pub some : 1 ≤ size
  pub small : size ≤ 1024
  pub few : cells ≤ 1024
  pub inside : start + size ≤ 8 * cells

-- Areas with room for counts and marks.
pub record Long (w h base planned marks : ℕ) : Type 0 where
  pub base_long : (w + 1) * (h + 1) ≤ base
  pub planned_long : (w + 1) * (h + 1) ≤ planned
  pub marks_long : 2 * (w * h) ≤ marks

-- the window of w by h centers at (l, t)
abbrev pub window_at : ℕ → ℕ → ℕ → ℕ → PixelRect
window_at l t w h = record { left = pos l; top = pos t; right = pos (l + w); bottom = pos (t + h) }

-- A map, a window of it and areas as marking requires them.
pub record Markable (width height cells words left top w h base planned marks : ℕ) : Type 0 where
  pub across : Along left w width
  pub down : Along top h height
  pub cells_all : cells ≡ width * height
  pub words_few : words ≤ 32768
  pub long : Long w h base planned marks
