-- `stamps::stamp_map_edge` meets its contract. Assumes nothing.
use Rattle.std.proofs.Common.{arith}
use Rattle.stamps.proofs.Adding.{adds_same}
use Rattle.stamps.proofs.Edges.{edge_leaves}
use Rattle.stamps.proofs.stamp_map_edge.Goals as goal

pub returns : goal.returns
returns c =
    let a = c.args in
    adds_same (omega arith) (edge_leaves a.frame a.mover a.width a.height) (rw (c.inner-columns.ensures, c.inner-rows.ensures) at c.stamp_outside.ensures)
