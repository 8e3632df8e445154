-- `placement::assess_building` meets its contract: after each call one part more of the words is written, and there is room for the next. Assumes nothing.
use Prim.Native.Nat.{ℕ}
use native.Mathlib.Omega.{arith}
use lib.ListN.{length-take, length-drop, length-append}
use Rattle.placement_issues.proofs.Puts.{then}
use Rattle.placement.proofs.Parts.{counted, assessed}
use Rattle.placement.proofs.assess_building.Goals as goal

pub ground_issues-count-requires-clause-room : goal.ground_issues-count-requires-clause-room
ground_issues-count-requires-clause-room c =
    omega (arith, counted c.requires.assessable (omega arith) c.args.building c.requires.building)

pub overlaps_obstacles-count-requires-clause-room : goal.overlaps_obstacles-count-requires-clause-room
overlaps_obstacles-count-requires-clause-room c =
    rw c.boxes_of-boxes.ensures
    (omega (arith, length-take {A = ℕ}, length-drop {A = ℕ}, counted c.requires.assessable (omega arith) c.args.building c.requires.building))

pub overlaps_buildings-count-requires-clause-room : goal.overlaps_buildings-count-requires-clause-room
overlaps_buildings-count-requires-clause-room c =
    let e = c.boxes_of-boxes.ensures in
    let before = rw e at c.overlaps_obstacles-count.ensures in
    rw e
    (omega (arith, length-take {A = ℕ}, length-drop {A = ℕ}, length-append {A = ℕ}, before.count, counted c.requires.assessable (omega arith) c.args.building c.requires.building))

pub returns : goal.returns
returns c =
    let e = c.boxes_of-boxes.ensures in
    assessed c.requires.assessable (omega arith) c.args.building c.requires.building e
    (then (then c.ground_issues-count.ensures (rw e at c.overlaps_obstacles-count.ensures)) (rw e at c.overlaps_buildings-count.ensures))
