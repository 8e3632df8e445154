-- A window of the map, by the naturals of its corner and its size. Assumes nothing.
use Rattle.std.proofs.Common.{◌≡◌, true, ℕ, ◌+◌, ◌≤◌, ◌<◌, pos, T, arith}
use Rattle.std.proofs.lemmas.Bool.Decides.{nat_tests}
use lib.IntN.{nat_abs}
use Rattle.model.specs.declared.PixelRect.{PixelRect}
use Rattle.model.specs.Boxes.{holds, width_of, height_of}
use Rattle.model.specs.Accepted.{Windowed}

-- the window's corner, and what lies past its last column and row
module _ (w : PixelRect) where
  abbrev pub left : ℕ
  left = nat_abs w.left

  abbrev pub top : ℕ
  top = nat_abs w.top

module _ {width height : ℕ} {w : PixelRect} (s : Windowed width height w) where
  -- it holds its centers, and nothing else
  pub holds_center : (x y : ℕ) → x < width_of w → y < height_of w → holds w (pos (left w + x)) (pos (top w + y)) ≡ true
  unfolding holds
  holds_center x y hx hy = grind (arith, nat_tests)

  pub center_held : (x y : ℕ) → T (holds w (pos x) (pos y)) → (left w ≤ x) × (x < left w + width_of w) × (top w ≤ y) × (y < top w + height_of w)
  unfolding holds
  center_held x y h = grind (arith, nat_tests)
