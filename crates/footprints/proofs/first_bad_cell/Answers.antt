-- `footprints::first_bad_cell` meets its contract: a row's cells are in the map, and the first unfit one of the first row that has one is the answer. Assumes nothing.
use native.Mathlib.Omega.{arith}
use lib.ListN.{length}
use Rattle.numbers.proofs.Places.{rows_fit}
use Rattle.footprints.specs.Cells.{bottom_cell}
use Rattle.footprints.proofs.Cells.{row_stopped, rows_done}
use Rattle.footprints.proofs.first_bad_cell.Goals as goal

pub first_unfit-requires : goal.first_unfit-requires
first_unfit-requires c =
    omega (arith, rows_fit c.args.width c.loop-y.y (bottom_cell c.args.b) (length c.args.cells.now) (omega arith) c.requires.down)

pub returns-in-Some : goal.returns-in-Some
returns-in-Some c =
    row_stopped _ _ _ _ c.loop-y.invariant _ c.requires (omega arith) (omega arith) (rw c.in-Some.is at c.first_unfit.ensures)

pub returns : goal.returns
returns c = rows_done _ _ c.args.b _ c.loop-y.invariant (omega arith)
