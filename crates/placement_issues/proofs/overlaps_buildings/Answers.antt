-- `placement_issues::overlaps_buildings` meets its contract. The invariant: the words of the buildings passed are written. Assumes nothing.
use mathlib.Core.Path.{◌≡◌}
use mathlib.Core.Bool.{true, false}
use Prim.Native.Nat.{◌<◌}
use native.Mathlib.Omega.{arith}
use lib.ListN.{length, get_or}
use Rattle.std.proofs.lemmas.Bool.Decides.{nat_tests}
use Rattle.model.specs.Ground.{built}
use Rattle.model.specs.Packed.{no_building}
use Rattle.placement_issues.specs.Words.{other_met_by}
use Rattle.placement_issues.proofs.Plans.{built_length, built_at, fits_at}
use Rattle.placement_issues.proofs.Written.{passed, room_here, found, at_last}
use Rattle.placement_issues.proofs.overlaps_buildings.Goals.{then-i-building+then-intersects, else-i-building}
use Rattle.placement_issues.proofs.overlaps_buildings.Goals as goal

pub boxes_of-other-requires : goal.boxes_of-other-requires
boxes_of-other-requires c = fits_at c.requires.fitting (omega arith) c.loop-i.i (omega arith)

pub bounds-issues-count : goal.bounds-issues-count
bounds-issues-count c =
    let h : c.loop-i.i < length (built c.args.plan) = omega (arith, built_length c.requires.fitting (omega arith)) in
    let x = get_or (built c.args.plan) c.loop-i.i no_building in
    let at = built_at c.requires.fitting (omega arith) c.loop-i.i (omega arith) in
    let e : other_met_by c.args.building c.args.footprint c.loop-i.i x ≡ true = grind (arith, nat_tests, at) in
    omega (arith, room_here c.loop-i.invariant no_building h c.requires.room e)

pub loop-i-preserved : goal.loop-i-preserved
loop-i-preserved c =
    let h : c.loop-i.i < length (built c.args.plan) = omega (arith, built_length c.requires.fitting (omega arith)) in
    let x = get_or (built c.args.plan) c.loop-i.i no_building in
    let at = built_at c.requires.fitting (omega arith) c.loop-i.i (omega arith) in
    elim c.if-i-building.branch [
      | then-i-building+then-intersects w ↦
          let e : other_met_by c.args.building c.args.footprint c.loop-i.i x ≡ true = grind (arith, nat_tests, at) in
          rw (w.issues-is, w.count-is, w.word.ensures) (found c.loop-i.invariant no_building h c.requires.room e)
      | else-i-building w ↦
          let e : other_met_by c.args.building c.args.footprint c.loop-i.i x ≡ false = grind (arith, nat_tests, at) in
          rw (w.issues-is, w.count-is) (passed c.loop-i.invariant no_building h e)
    ]

pub returns : goal.returns
returns c = at_last c.loop-i.invariant (omega (arith, built_length c.requires.fitting (omega arith)))
