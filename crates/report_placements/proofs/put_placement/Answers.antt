-- `report_placements::put_placement` meets its contract. Assumes nothing.
use Rattle.text.proofs.Chain.{then, said}
use Rattle.report_placements.proofs.Lines.{placement_line_in_parts}
use Rattle.report_placements.proofs.put_placement.Goals as goal

pub returns : goal.returns
returns c =
    said (placement_line_in_parts c.args.index c.args.placement)
    (then c.put_labelled-footprint.ensures
    (then c.put_labelled_box-collision.ensures
    (then c.put_labelled_box-issues.ensures c.put_ending.ensures)))
