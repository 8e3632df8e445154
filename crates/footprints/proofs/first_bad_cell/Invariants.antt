-- `footprints::first_bad_cell` meets its contract. The invariant: of the cells in the rows above, none under the building is unfit. Assumes nothing.
use Rattle.footprints.proofs.Cells.{Clear}
use Rattle.footprints.proofs.first_bad_cell.Given as goal

abbrev pub invariant-loop-y : goal.invariant-loop-y
invariant-loop-y l = Clear l.w l.left l.right l.top l.bottom l.cells l.y
