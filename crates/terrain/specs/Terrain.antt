-- What stamping the unwalkable cells promises. Assumes nothing.
use Rattle.std.specs.Prelude.{◌≡◌, Bool, not, ◌&&◌, List, map, ℕ, ◌+◌, ◌-◌, ◌*◌, ◌/◌, ◌%◌, ◌≤◌, ◌<◌, min, get_or}
use Rattle.model.specs.declared.PixelRect.{PixelRect}
use Rattle.model.specs.declared.CollisionBounds.{CollisionBounds}
use Rattle.model.specs.Lists.{places}
use Rattle.model.specs.Boxes.{cell_box}
use Rattle.model.specs.Ground.{walkable}
use Rattle.stamps.specs.declared.Frame.{Frame}
use Rattle.stamps.specs.declared.Span.{Span}
use Rattle.stamps.specs.Stamps.{stop, among, flat}

-- the walk cell in column c and row r
abbrev pub cell_at : ℕ → ℕ → PixelRect
cell_at c r = flat (8 * c) (8 * r) (8 * c + 8) (8 * r + 8)

-- of the cells from column a up to b of row r, some one stops the mover, or some unwalkable one
abbrev pub run_stops : Frame → CollisionBounds → ℕ → ℕ → ℕ → ℕ → ℕ → Bool
run_stops f m r a b x y = among a b (λ c. stop f m (cell_at c r) x y)

abbrev pub row_stops : Frame → CollisionBounds → List ℕ → ℕ → ℕ → ℕ → ℕ → ℕ → ℕ → Bool
row_stops f m cells width r a b x y = among a b (λ c. not (walkable (get_or cells (r * width + c) 0)) && stop f m (cell_at c r) x y)

-- the same, of the cells of one row
abbrev pub line_stops : Frame → CollisionBounds → List ℕ → ℕ → ℕ → ℕ → ℕ → ℕ → Bool
line_stops f m line r a b x y = among a b (λ c. not (walkable (get_or line c 0)) && stop f m (cell_at c r) x y)

-- r is the first place from at on whose cell's walkable bit is as wanted, or end
pub record NextCell (cells : List ℕ) (at end wanted r : ℕ) : Type 0 where
  pub from : at ≤ r
  pub within : r ≤ end
  pub before : (k : ℕ) → at ≤ k → k < r → get_or cells k 0 / 16 % 2 ≡ wanted → ⊥
  pub found : r < end → get_or cells r 0 / 16 % 2 ≡ wanted

-- the columns or rows of cells, of so many, that a mover reaches from size centers from start on
abbrev pub reach_of : ℕ → ℕ → ℕ → ℕ → ℕ → Span
reach_of start size before after cells =
    record { from = min ((start - before) / 8) (min ((start + size + after + 7) / 8) cells); to = min ((start + size + after + 7) / 8) cells }

-- the boxes of the unwalkable cells
abbrev pub unwalkable : ℕ → List ℕ → List PixelRect
unwalkable width cells = map (cell_box width) (places (λ i c. not (walkable c)) cells)
