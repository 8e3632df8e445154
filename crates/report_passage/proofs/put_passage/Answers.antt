-- `report_passage::put_passage` meets its contract, by the baseline. Assumes nothing.
use mathlib.Core.Path.{◌≡◌}
use mathlib.Core.List.{◌++◌}
use Rattle.model.specs.Report.{bytes, decimal}
use Rattle.report_passage.specs.Passage.{passage_text}
use Rattle.text.proofs.Chain.{then, said}
use Rattle.report_passage.proofs.put_passage.Goals.{then-passed, else-passed}
use Rattle.report_passage.proofs.put_passage.Goals as goal

pub returns : goal.returns
returns c =
    let passed = c.args.passed in
    let lines : c.verdict.result.now ++ (c.if-passed.label.now ++ (decimal passed.points ++ bytes "\n")) ≡ passage_text passed =
    elim c.if-passed.branch [ then-passed w ↦ rw (c.verdict.ensures, w.label-is, w.if-passed.true) | else-passed w ↦ rw (c.verdict.ensures, w.label-is, w.if-passed.false) ] in
    said lines (then c.put-next.ensures c.put_ending.ensures)
