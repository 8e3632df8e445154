-- `counts::stamp_plan` meets its contract. The invariant: the buildings passed are stamped. Assumes nothing.
use Rattle.std.proofs.Common.{map, arith}
use Rattle.std.proofs.lemmas.Grind.{common_steps}
use Rattle.model.specs.Boxes.{collision_box}
use Rattle.model.specs.Ground.{built}
use Rattle.model.specs.Check.{no_rect}
use Rattle.stamps.proofs.Adding.{stops_none, stops_more, stops_all, adds_same}
use Rattle.counts.proofs.stamp_plan.Goals as goal

pub loop-building-init : goal.loop-building-init
loop-building-init c = stops_none c.args.frame c.args.mover (map collision_box (built c.args.plan)) c.args.grid.now

pub loop-building-preserved : goal.loop-building-preserved
loop-building-preserved c =
    let a = c.args in
    stops_more a.frame a.mover (map collision_box (built a.plan)) no_rect c.loop-building.building-index (grind (arith, common_steps)) c.loop-building.invariant
    (adds_same (omega arith) (λ x y hx hy. grind (arith, common_steps)) c.stamp_building.ensures)

pub returns : goal.returns
returns c =
    let a = c.args in
    stops_all a.frame a.mover (map collision_box (built a.plan)) c.loop-building.building-index (grind (arith, common_steps)) (grind (arith, common_steps)) c.loop-building.invariant
