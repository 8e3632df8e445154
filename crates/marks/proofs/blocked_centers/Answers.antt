-- `marks::blocked_centers` meets its contract. The invariant: the first y rows are marked. Assumes nothing.
use Rattle.std.proofs.Common.{refl, arith}
use Rattle.std.proofs.lemmas.Grind.{common_steps}
use Rattle.marks.proofs.Filling.{part_more}
use Rattle.marks.proofs.blocked_centers.Goals as goal

pub loop-y-preserved : goal.loop-y-preserved
loop-y-preserved c =
    let a = c.args in
    let l = c.loop-y in
    part_more a.ground.now a.plan.now a.frame.width l.y _ _ _ _ refl refl (grind arith) (grind arith) (grind arith) (grind arith) (grind arith) (grind (arith, common_steps)) l.invariant c.mark_row.ensures
