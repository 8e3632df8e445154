-- `placement::assess_placements` meets its contract. The invariant: the buildings passed are assessed. Assumes nothing.
use Prim.Native.Nat.{ℕ}
use native.Mathlib.Omega.{arith}
use lib.ListN.{length-take, length-drop}
use Rattle.placement_issues.proofs.Plans.{built_length}
use Rattle.placement.proofs.Assessed.{room_here, after_turn, at_last}
use Rattle.placement.proofs.assess_placements.Goals as goal

pub assess_building-placement-requires-clause-room : goal.assess_building-placement-requires-clause-room
assess_building-placement-requires-clause-room c =
    let n = built_length c.requires.assessable.fitting (omega arith) in
    omega (arith, length-take {A = ℕ}, length-drop {A = ℕ}, room_here c.loop-i.invariant (omega (arith, n)) (rw n c.requires.room))

pub loop-i-preserved : goal.loop-i-preserved
loop-i-preserved c =
    let n = built_length c.requires.assessable.fitting (omega arith) in
    after_turn c.loop-i.invariant (omega (arith, n)) (omega (arith, c.requires.assessable.fitting.count)) c.assess_building-placement.ensures

pub returns : goal.returns
returns c = at_last c.loop-i.invariant (omega (arith, built_length c.requires.assessable.fitting (omega arith)))
