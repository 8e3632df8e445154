-- The way back along the parents, and what is written of it. Assumes nothing.
use Rattle.std.specs.Prelude.{◌≡◌, List, ◌++◌, map, reverse, ℕ, ◌+◌, ◌*◌, ◌/◌, ◌%◌, ◌^◌, ◌<◌, ◌≤◌, length, drop}
use Rattle.model.specs.declared.PixelPosition.{PixelPosition}
use Rattle.model.specs.Steps.{point_word}
use Rattle.stamps.specs.declared.Frame.{Frame}
use Rattle.search.specs.Search.{Trail}
use Rattle.way_back.specs.declared.Hop.{Hop}

-- how many centers a frame has
abbrev pub size : Frame → ℕ
size f = f.width * f.height

-- the map's center at place p of a frame
abbrev pub spot : Frame → ℕ → PixelPosition
spot f p = record { x = f.left + p % f.width; y = f.top + p / f.width }

-- A frame whose centers are few enough, and fit route words.
pub record Window (f : Frame) : Type 0 where
  pub limit : size f ≤ 1048576
  pub wide : f.left + f.width ≤ 65536
  pub high : f.top + f.height ≤ 65536

-- A hop of fewer than 2 ^ 62 places.
pub record Short (h : Hop) : Type 0 where
  pub up : h.up < 2 ^ 62
  pub down : h.down < 2 ^ 62

-- The n places that the parents pass from s to e are written as words from e on, and the rest stays.
pub record Laid (parents : List ℕ) (s e : ℕ) (f : Frame) (n : ℕ) (before after : List ℕ) : Type 0 where
  pub laid : List ℕ
  pub trail : Trail parents s e (reverse laid)
  pub count : length laid ≡ n
  pub words : after ≡ map (λ p. point_word (spot f p)) laid ++ drop n before

-- The n places that the parents pass from s to e are written as words, and the rest stays.
pub record Written (parents : List ℕ) (s e : ℕ) (f : Frame) (n : ℕ) (before after : List ℕ) : Type 0 where
  pub places : List ℕ
  pub trail : Trail parents s e places
  pub count : length places ≡ n
  pub words : after ≡ map (λ p. point_word (spot f p)) places ++ drop n before
