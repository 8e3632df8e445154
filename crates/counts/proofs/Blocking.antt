-- What the counts say: a center is blocked before the plan where the map's edge, an unwalkable cell or an obstacle stops the mover, and after it where
-- a collision box does too. Assumes nothing.
use Rattle.std.proofs.Common.{◌≡◌, ◌||◌, List, map, ℕ, ◌+◌, arith}
use Rattle.model.specs.declared.CollisionBounds.{CollisionBounds}
use Rattle.model.specs.declared.WallBuilding.{WallBuilding}
use Rattle.model.specs.Boxes.{meets, around, collision_box}
use Rattle.model.specs.Ground.{Ground, obstacles, before, after, free}
use Rattle.model.proofs.Reading.{any_append, free_append}
use Rattle.stamps.specs.declared.Frame.{Frame}
use Rattle.stamps.specs.Stamps.{leaves, stops}
use Rattle.terrain.specs.Terrain.{unwalkable}
use Rattle.counts.specs.Counts.{blocked}

module _ (g : Ground) (f : Frame) (m : CollisionBounds) (x y : ℕ) where
  pub blocked_before_in_parts : (leaves f m g.width g.height x y || stops f m (unwalkable g.width g.cells) x y) || stops f m (obstacles g) x y ≡ blocked g f m (before g) x y
  unfolding before free
  blocked_before_in_parts = grind (arith, any_append (meets (around m (f.left + x) (f.top + y))) (unwalkable g.width g.cells) (obstacles g))

  pub blocked_after : (bs : List WallBuilding) → blocked g f m (before g) x y || stops f m (map collision_box bs) x y ≡ blocked g f m (after g bs) x y
  unfolding after
  blocked_after bs = grind (arith, free_append g m (before g) (map collision_box bs) (f.left + x) (f.top + y))
