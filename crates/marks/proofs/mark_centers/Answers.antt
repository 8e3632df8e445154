-- `marks::mark_centers` meets its contract: counts of the ground and of the plan, and marks from both. Assumes nothing.
use Rattle.model.specs.Ground.{seen}
use Rattle.marks.proofs.Showing.{shown}
use Rattle.marks.proofs.mark_centers.Goals as goal

pub returns : goal.returns
returns c =
    let a = c.args in
    let e = c.frame_of-frame.ensures in
    shown (seen a.ground) a.window a.plan c.requires.ready a.mover (rw e at c.count_ground.ensures) (rw e at c.count_plan.ensures) (rw e at c.settle.ensures)
