-- `counts::stamp_ground` meets its contract: the map's edge, the unwalkable cells and the obstacles block a center. Assumes nothing.
use Rattle.std.proofs.Common.{arith}
use Rattle.stamps.proofs.Adding.{adds_then, adds_same}
use Rattle.model.specs.Ground.{seen}
use Rattle.counts.proofs.Blocking.{blocked_before_in_parts}
use Rattle.counts.proofs.stamp_ground.Goals as goal

pub returns : goal.returns
returns c =
    let a = c.args in
    adds_same (omega arith) (λ x y hx hy. blocked_before_in_parts (seen a.ground) a.frame a.mover x y)
    (adds_then (adds_then c.stamp_map_edge.ensures c.stamp_terrain_blockers.ensures) c.stamp_obstacles.ensures)
