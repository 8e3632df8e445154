-- `program::print_packed` meets its contract. Assumes nothing.
use mathlib.Core.Path.{sym}
use native.Mathlib.Omega.{arith}
use lib.Seq.{length-take-le}
use Rattle.model.specs.Packed.{ground_in, query_in}
use Rattle.model.specs.Report.{reading_lines, check_lines}
use Rattle.model.proofs.Packed.{query_said, cells_kept, words_kept, cells_there, words_there, ground_said}
use Rattle.program.proofs.Stages.{refused_here, passed_here, as_said}
use Rattle.program.proofs.print_packed.Goals as goal

pub returns-in-Err : goal.returns-in-Err
returns-in-Err c =
    let s = c.args.input.now in
    refused_here (reading_lines s) _ c.read_packed.ensures.refuses c.in-Err.is c.print_refusal.ensures

pub overflow_mul-k : goal.overflow_mul-k
overflow_mul-k c = let read = c.read_packed.ensures in let ok = c.in-Ok.is in omega (arith, words_there read ok, words_kept read ok)

pub slice_bounds-cells-end : goal.slice_bounds-cells-end
slice_bounds-cells-end c = let read = c.read_packed.ensures in let ok = c.in-Ok.is in omega (arith, cells_there read ok, cells_kept read ok)

pub slice_bounds-ground-end : goal.slice_bounds-ground-end
slice_bounds-ground-end c = let read = c.read_packed.ensures in let ok = c.in-Ok.is in sym (length-take-le _ _ (omega (arith, cells_there read ok, cells_kept read ok)))

pub slice_bounds-words-end : goal.slice_bounds-words-end
slice_bounds-words-end c = let read = c.read_packed.ensures in let ok = c.in-Ok.is in omega (arith, words_there read ok, words_kept read ok)

pub slice_bounds-ground-end-2 : goal.slice_bounds-ground-end-2
slice_bounds-ground-end-2 c = let read = c.read_packed.ensures in let ok = c.in-Ok.is in sym (length-take-le _ _ (omega (arith, words_there read ok, words_kept read ok)))

pub returns : goal.returns
returns c =
    let read = c.read_packed.ensures in
    let s = c.args.input.now in
    passed_here (reading_lines s) (check_lines (ground_in s) (query_in s)) read.refuses c.in-Ok.is
    (as_said (ground_said read c.in-Ok.is) (query_said read c.in-Ok.is) c.print_check.ensures)
