-- What one turn of the copying stores. Assumes nothing.
use Rattle.std.specs.Prelude.{List, ℕ, ◌+◌, ℤ, set}
use Rattle.model.specs.declared.PixelRect.{PixelRect}

-- the words with those of r at place k
abbrev pub stored : List ℤ → ℕ → PixelRect → List ℤ
stored words k r = set (set (set (set words k r.left) (k + 1) r.top) (k + 2) r.right) (k + 3) r.bottom
