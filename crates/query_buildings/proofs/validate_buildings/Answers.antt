-- `query_buildings::validate_buildings` meets its contract: the lines that are left are those from the index on. Assumes nothing.
use mathlib.Core.Path.{◌≡◌, sym, ◌∙◌}
use native.Mathlib.Omega.{arith}
use borrow.Author.Rules.{rules}
use lib.ListN.{length}
use Rattle.query_buildings.proofs.One.{building_passed, building_refused, buildings_done}
use Rattle.query_buildings.proofs.validate_buildings.Goals as goal

pub returns-in_default : goal.returns-in_default
returns-in_default c =
    let plan = c.args.plan in
    let many : length plan.buildings ≡ 32 = search rules in
    sym (c.loop-index.invariant ∙ building_refused plan.buildings plan.count c.loop-index.index _ (omega arith) (omega arith) c.in_default.is c.validate_building-told.ensures)

pub loop-index-preserved : goal.loop-index-preserved
loop-index-preserved c =
    let plan = c.args.plan in
    let many : length plan.buildings ≡ 32 = search rules in
    c.loop-index.invariant ∙ building_passed plan.buildings plan.count c.loop-index.index _ (omega arith) (omega arith) c.in-Ok.is c.validate_building-told.ensures

pub returns : goal.returns
returns c =
    let plan = c.args.plan in
    sym (c.loop-index.invariant ∙ buildings_done plan.buildings plan.count c.loop-index.index (omega arith))
