-- `report::report` meets its contract. Assumes nothing.
use native.Mathlib.Omega.{arith}
use Rattle.text.proofs.Chain.{then, said}
use Rattle.report.proofs.Lines.{report_text_in_parts}
use Rattle.report.proofs.Sizes.{pieces_fit}
use Rattle.report.proofs.report.Goals as goal

pub put_placements-passage-requires-clause-room : goal.put_placements-passage-requires-clause-room
put_placements-passage-requires-clause-room c = omega (arith, pieces_fit c.requires)

pub put_passage-end-requires : goal.put_passage-end-requires
put_passage-end-requires c = omega (arith, pieces_fit c.requires)

pub put_lines-requires : goal.put_lines-requires
put_lines-requires c = omega (arith, pieces_fit c.requires)

pub returns : goal.returns
returns c =
    said (report_text_in_parts _ c.args.issues.now c.args.check.passed _)
    (then c.put-first.ensures
    (then c.put_placements-passage.ensures
    (then c.put_passage-end.ensures c.put_lines.ensures)))
