-- `program::print_input` meets its contract. Assumes nothing.
use native.Mathlib.Omega.{arith}
use Rattle.model.specs.Report.{header_lines}
use Rattle.program.proofs.Stages.{refused_here, passed_here}
use Rattle.program.proofs.Whole.{printed}
use Rattle.program.proofs.print_input.Goals as goal

pub returns-in-Err : goal.returns-in-Err
returns-in-Err c =
    let s = c.args.input.now in
    printed (omega arith) (refused_here (header_lines s) _ c.check_header.ensures c.in-Err.is c.print_refusal.ensures)

pub returns : goal.returns
returns c =
    let s = c.args.input.now in
    printed (omega arith) (passed_here (header_lines s) _ c.check_header.ensures c.in_default.is c.print_packed.ensures)
