-- The line of a point meets its contract. Assumes nothing.
use Rattle.model.specs.Report.{point_line}
use Rattle.text.proofs.Chain.{then}
use Rattle.report_passage.proofs.PointWordLine.put.Goals as goal

pub returns : goal.returns
unfolding point_line
returns c = then c.put_number-next.ensures c.put_ending.ensures
