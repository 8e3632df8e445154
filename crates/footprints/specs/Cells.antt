-- The first cell on which no building can stand. Assumes nothing.
use Rattle.std.specs.Prelude.{◌≡◌, Bool, true, false, not, ◌&&◌, List, [], ◌∷◌, ℕ, ◌+◌, ◌*◌, ◌≤◌, ◌<◌, ltb, length, get_or, Option, Some, None}
use Rattle.model.specs.declared.WallBuilding.{WallBuilding}
use Rattle.model.specs.Boxes.{footprint_box}
use Rattle.model.specs.Ground.{walkable, buildable}
use Rattle.model.specs.Placement.{bad_cells}

-- the cell is unwalkable or unbuildable
abbrev pub unfit : List ℕ → ℕ → Bool
unfit cells i = not (walkable (get_or cells i 0) && buildable (get_or cells i 0))

-- no cell from one place to another is unfit
abbrev pub Fit : List ℕ → ℕ → ℕ → Type 0
Fit cells from to = (j : ℕ) → from ≤ j → j < to → unfit cells j ≡ false

-- cell i is the first unfit one from there on
pub record UnfitAt (cells : List ℕ) (from to i : ℕ) : Type 0 where
  pub low : from ≤ i
  pub high : i < to
  pub here : unfit cells i ≡ true
  pub before : Fit cells from i

abbrev pub FirstUnfit : List ℕ → ℕ → ℕ → Option ℕ → Type 0
FirstUnfit cells from to (Some i) = UnfitAt cells from to i
FirstUnfit cells from to None = Fit cells from to

-- the first of a list
abbrev pub head : List ℕ → Option ℕ
head [] = None
head (i ∷ is) = Some i

-- there is one
abbrev pub non_empty : List ℕ → Bool
non_empty l = ltb 0 (length l)

-- the bad cells under a building of a map this wide: its height and its obstacles play no part in them
abbrev pub bad_under : ℕ → List ℕ → WallBuilding → List ℕ
bad_under width cells b = bad_cells (record { width = width; height = 0; cells = cells; words = [] }) (footprint_box b)

-- the columns and rows of cells under a building: a tile is four cells wide and high
abbrev pub left_cell : WallBuilding → ℕ
left_cell b = 4 * b.tile.x

abbrev pub right_cell : WallBuilding → ℕ
right_cell b = 4 * b.tile.x + 4 * b.footprint.width_tiles

abbrev pub top_cell : WallBuilding → ℕ
top_cell b = 4 * b.tile.y

abbrev pub bottom_cell : WallBuilding → ℕ
bottom_cell b = 4 * b.tile.y + 4 * b.footprint.height_tiles

-- the cells under a building are cells of the map
pub record Covers (width : ℕ) (cells : List ℕ) (b : WallBuilding) : Type 0 where
  pub across : right_cell b ≤ width
  pub down : bottom_cell b * width ≤ length cells
