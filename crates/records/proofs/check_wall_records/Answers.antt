-- `records::check_wall_records` meets its contract: the copying, and then what follows from it. Assumes nothing.
use mathlib.Core.Path.{sym}
use lib.Seq.{length-take-le}
use Rattle.records.proofs.Onward.{enough, joined}
use Rattle.records.proofs.check_wall_records.Goals as goal

pub slice_bounds-ground-end : goal.slice_bounds-ground-end
slice_bounds-ground-end c =
    rw c.words_needed.ensures
    (enough c.args.rects.now c.args.words.now c.copy_obstacles.new.words c.copy_obstacles.result c.copy_obstacles.ensures c.in_ok-copy_obstacles.was)

pub slice_bounds-ground-end-2 : goal.slice_bounds-ground-end-2
slice_bounds-ground-end-2 c =
    rw c.words_needed.ensures
    (sym (length-take-le _ _ (enough c.args.rects.now c.args.words.now c.copy_obstacles.new.words c.copy_obstacles.result c.copy_obstacles.ensures c.in_ok-copy_obstacles.was)))

pub returns : goal.returns
returns c =
    let a = c.args in
    let n = c.check_wall.new in
    joined a.rects.now a.words.now c.copy_obstacles.new.words a.width a.height a.cells.now a.query
    (record { issues = a.issues.now; base = a.base.now; plan = a.planned.now; marks = a.marks.now; parents = a.parents.now; queue = a.queue.now; route = a.route.now })
    (record { issues = n.issues; base = n.base; plan = n.planned; marks = n.marks; parents = n.parents; queue = n.queue; route = n.route })
    c.check_wall.result (rw c.in_ok-copy_obstacles.was at c.copy_obstacles.ensures) (rw c.words_needed.ensures at c.check_wall.ensures)
