-- `query_ground::validate_cells` meets its contract. Assumes nothing.
use mathlib.Core.Path.{sym}
use Rattle.query_ground.proofs.Found.{no_fault, bad_cell, bad_elevation}
use Rattle.query_ground.proofs.validate_cells.Goals as goal

pub returns-in_default : goal.returns-in_default
returns-in_default c = sym (no_fault c.args.cells.now c.in_default.ensures)

pub returns-then-cell-ge32 : goal.returns-then-cell-ge32
returns-then-cell-ge32 c = sym (bad_cell c.args.cells.now c.in-Some.index c.in-Some.ensures c.if-cell-ge32.true)

pub returns : goal.returns
returns c = sym (bad_elevation c.args.cells.now c.in-Some.index c.in-Some.ensures c.if-cell-ge32.false)
