-- `counts::stamp_building` meets its contract. Assumes nothing.
use Rattle.model.specs.Boxes.{collision_box}
use Rattle.counts.proofs.stamp_building.Goals as goal

pub returns : goal.returns
returns c = c.stamp_expanded.ensures (collision_box c.args.building) c.raised_collision-body.ensures.carried
