-- `report::put_placements` meets its contract. At each turn the buildings from there on are left. Assumes nothing.
use native.Mathlib.Omega.{arith}
use Rattle.report.proofs.Buildings.{all_left, own_words_there, placement_fits, issues_fit, building_put, no_building_left}
use Rattle.report.proofs.put_placements.Goals as goal

pub loop-index-init : goal.loop-index-init
loop-index-init c = all_left c.args.placements.now c.args.words.now c.args.out.now c.args.at c.requires.issues_there

pub split_at-requires : goal.split_at-requires
split_at-requires c = own_words_there c.loop-index.invariant c.loop-index-test.true

pub put_placement-next-requires : goal.put_placement-next-requires
put_placement-next-requires c = omega (arith, placement_fits c.loop-index.invariant c.loop-index-test.true c.requires.room)

pub put_lines-end-requires : goal.put_lines-end-requires
put_lines-end-requires c =
    omega (arith, issues_fit c.loop-index.invariant c.loop-index-test.true c.split_at.ensures.front c.put_placement-next.ensures c.requires.room)

pub loop-index-preserved : goal.loop-index-preserved
loop-index-preserved c =
    building_put c.loop-index.invariant c.loop-index-test.true c.split_at.ensures.front c.split_at.ensures.back c.put_placement-next.ensures c.put_lines-end.ensures

pub returns : goal.returns
returns c = no_building_left c.loop-index.invariant c.loop-index-test.false
