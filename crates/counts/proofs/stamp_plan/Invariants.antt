-- `counts::stamp_plan` meets its contract. The invariant: the buildings passed are stamped. Assumes nothing.
use Rattle.std.proofs.Common.{map, take}
use Rattle.model.specs.Boxes.{collision_box}
use Rattle.stamps.specs.Stamps.{Adds, stops}
use Rattle.counts.proofs.stamp_plan.Given as goal

abbrev pub invariant-loop-building : goal.invariant-loop-building
invariant-loop-building l =
    Adds l.frame.width l.frame.height l.building-index (stops l.frame l.mover (take l.building-index (map collision_box l.building-items))) l.initial.grid l.grid
