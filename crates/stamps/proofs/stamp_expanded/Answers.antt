-- `stamps::stamp_expanded` meets its contract: the clipped rectangle covers the centers at which the mover meets the blocker. Assumes nothing.
use Rattle.std.proofs.Common.{arith}
use Rattle.stamps.proofs.Adding.{adds_box}
use Rattle.stamps.proofs.Clipping.{stops_clipped}
use Rattle.stamps.proofs.stamp_expanded.Goals as goal

pub returns : goal.returns
returns c =
    let a = c.args in
    λ b k.
    adds_box (omega arith) (omega arith) (stops_clipped a.frame a.mover b a.blocker k) (rw (c.clip-rows.ensures, c.clip-columns.ensures) at c.add_rect.ensures)
