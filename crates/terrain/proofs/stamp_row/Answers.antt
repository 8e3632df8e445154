-- `terrain::stamp_row` meets its contract: before the first turn nothing is stamped, and a turn adds a gap and the run behind it. Assumes nothing.
use Rattle.std.proofs.Common.{sym, arith}
use Rattle.stamps.proofs.Some.{among_none}
use Rattle.stamps.proofs.Adding.{adds_none, adds_then, adds_same}
use Rattle.terrain.proofs.Cells.{next_run}
use Rattle.terrain.proofs.stamp_row.Goals as goal

pub loop-column-init : goal.loop-column-init
loop-column-init c =
    (omega arith, omega arith, adds_same (omega arith) (λ x y hx hy. sym (among_none _ _ _ (omega arith))) (adds_none _))

pub loop-column-preserved : goal.loop-column-preserved
loop-column-preserved c =
    let a = c.args in
    let l = c.loop-column in
    let gap = c.next_cell-from.ensures in
    let run = c.next_cell-to.ensures in (
      grind arith,
      grind arith,
      adds_same (grind arith) (next_run a.frame a.mover a.cells.now a.row a.first l.column _ _ _ gap run l.invariant.0) (adds_then l.invariant.2 c.stamp_run.ensures),
    )
