-- `query::validate_query` meets its contract: the ground, then the query, then its buildings. Assumes nothing.
use mathlib.Core.Path.{sym, ◌∙◌}
use Rattle.model.specs.Ground.{seen}
use Rattle.model.proofs.Lines.{stage_passed, stage_refused}
use Rattle.query.proofs.Runs.{query_runs, way_counted}
use Rattle.query.proofs.validate_query.Goals as goal

pub returns-in_default : goal.returns-in_default
returns-in_default c =
    sym (query_runs (seen c.args.ground) c.args.query ∙ stage_refused _ _ c.in_default.is c.validate_ground-told.ensures)

pub returns-in_default-told : goal.returns-in_default-told
returns-in_default-told c =
    sym
    (query_runs (seen c.args.ground) c.args.query
    ∙ (stage_passed _ _ c.in-Ok.is c.validate_ground-told.ensures
    ∙ stage_refused _ _ c.in_default-told.is c.validate_way-told.ensures))

pub validate_buildings-requires : goal.validate_buildings-requires
validate_buildings-requires c =
    way_counted c.args.ground.width c.args.ground.height c.args.query c.in-Ok-told.is c.validate_way-told.ensures

pub returns : goal.returns
returns c =
    c.validate_buildings.ensures
    ∙ sym
    (query_runs (seen c.args.ground) c.args.query
    ∙ (stage_passed _ _ c.in-Ok.is c.validate_ground-told.ensures
    ∙ stage_passed _ _ c.in-Ok-told.is c.validate_way-told.ensures))
