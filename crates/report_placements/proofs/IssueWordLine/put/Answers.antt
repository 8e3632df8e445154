-- The line of an issue meets its contract. Assumes nothing.
use mathlib.Core.List.{append_assoc}
use native.Mathlib.Omega.{arith}
use Rattle.model.specs.Report.{issue_line}
use Rattle.report_placements.proofs.IssueWordLine.put.Goals as goal

pub put_ending-requires : goal.put_ending-requires
unfolding issue_line
put_ending-requires c = grind (arith, append_assoc)

pub returns : goal.returns
unfolding issue_line
returns c = grind (arith, append_assoc)
