-- What a reading leaves in its areas, as the check of what was read needs it. Assumes nothing.
use Rattle.std.specs.Prelude.{List, ℕ, ◌*◌, ◌≤◌, ◌<◌, ℤ, length}
use Rattle.model.specs.declared.PackedQuery.{PackedQuery}

-- The counts are as small as their bits, and the areas hold at least what they count.
pub record Held (p : PackedQuery) (cells : List ℕ) (words : List ℤ) : Type 0 where
  pub wide : p.width ≤ 1024
  pub high : p.height ≤ 1024
  pub many : p.obstacles < 16384
  pub cells_there : p.width * p.height ≤ length cells
  pub words_there : 4 * p.obstacles ≤ length words
