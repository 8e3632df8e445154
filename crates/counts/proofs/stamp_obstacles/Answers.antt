-- `counts::stamp_obstacles` meets its contract. The invariant: the first i obstacles are stamped. Assumes nothing.
use Rattle.std.proofs.Common.{arith}
use Rattle.model.specs.Check.{no_rect}
use Rattle.model.specs.Ground.{rects}
use Rattle.model.proofs.Lists.{rects_length}
use Rattle.stamps.proofs.Adding.{stops_none, stops_more, stops_all}
use Rattle.counts.proofs.stamp_obstacles.Goals as goal

pub loop-i-init : goal.loop-i-init
loop-i-init c = stops_none c.args.frame c.args.mover (rects c.args.words.now) c.args.grid.now

pub loop-i-preserved : goal.loop-i-preserved
loop-i-preserved c =
    let a = c.args in
    stops_more a.frame a.mover (rects a.words.now) no_rect c.loop-i.i (omega (arith, rects_length a.words.now)) c.loop-i.invariant
    (c.stamp_expanded.ensures _ (rw c.obstacle_at-obstacle.ensures at c.raised.ensures.carried))

pub returns : goal.returns
returns c =
    let a = c.args in
    stops_all a.frame a.mover (rects a.words.now) c.loop-i.i (omega (arith, rects_length a.words.now)) (omega arith) c.loop-i.invariant
