-- `stamps::stamp_outside` meets its contract: a rectangle on each side. Assumes nothing.
use Rattle.std.proofs.Common.{arith}
use Rattle.stamps.proofs.Adding.{adds_box, adds_then}
use Rattle.stamps.proofs.Edges.{left_of_all, right_of_all, above_all, below_all}
use Rattle.stamps.proofs.stamp_outside.Goals as goal

pub returns : goal.returns
returns c =
    let f = c.args.frame in
    adds_then (adds_then (adds_then (adds_box (omega arith) (omega arith) (left_of_all f.width f.height _) c.add_rect.ensures)
    (adds_box (omega arith) (omega arith) (right_of_all f.width f.height _) c.add_rect-2.ensures))
    (adds_box (omega arith) (omega arith) (above_all f.width f.height _) c.add_rect-3.ensures))
    (adds_box (omega arith) (omega arith) (below_all f.width f.height _) c.add_rect-4.ensures)
