-- The map's edge: a mover's box leaves the map exactly outside the inner columns and rows, and four rectangles cover what lies outside them. Assumes nothing.
use Rattle.std.proofs.Common.{◌≡◌, ℕ, ◌<◌, leb, ltb, arith}
use Rattle.std.proofs.lemmas.Bool.Decides.{nat_tests}
use Rattle.model.specs.declared.CollisionBounds.{CollisionBounds}
use Rattle.model.specs.Boxes.{in_map}
use Rattle.grid.specs.Grid.{within, box}
use Rattle.stamps.specs.declared.Frame.{Frame}
use Rattle.stamps.specs.Stamps.{inner_of, outside, leaves}

module _ (f : Frame) (m : CollisionBounds) (width height : ℕ) where
  pub edge_leaves : (x y : ℕ) → x < f.width → y < f.height → outside (inner_of f.left f.width m.left m.right width) (inner_of f.top f.height m.top m.bottom height) x y ≡ leaves f m width height x y
  unfolding in_map
  edge_leaves x y hx hy = grind (arith, nat_tests)

-- rectangles as wide, or as high, as the window of w by h centers
module _ (w h : ℕ) where
  pub left_of_all : (to x y : ℕ) → x < w → y < h → ltb 0 (box 0 0 to h x y) ≡ ltb x to
  unfolding within
  left_of_all to x y hx hy = grind (arith, nat_tests)

  pub right_of_all : (from x y : ℕ) → x < w → y < h → ltb 0 (box from 0 w h x y) ≡ leb from x
  unfolding within
  right_of_all from x y hx hy = grind (arith, nat_tests)

  pub above_all : (to x y : ℕ) → x < w → y < h → ltb 0 (box 0 0 w to x y) ≡ ltb y to
  unfolding within
  above_all to x y hx hy = grind (arith, nat_tests)

  pub below_all : (from x y : ℕ) → x < w → y < h → ltb 0 (box 0 from w h x y) ≡ leb from y
  unfolding within
  below_all from x y hx hy = grind (arith, nat_tests)
