-- `query_buildings::validate_building` meets its contract. Assumes nothing.
use Rattle.model.specs.Refusal.{first, building_lines}
use Rattle.query_buildings.proofs.One.{overflows, fits}
use Rattle.query_buildings.proofs.validate_building.Goals as goal

pub returns-then-width_tiles-height_tiles : goal.returns-then-width_tiles-height_tiles
unfolding first building_lines
returns-then-width_tiles-height_tiles c = rw c.if-width_tiles-height_tiles.true

pub returns-then-is_wide : goal.returns-then-is_wide
unfolding first building_lines
returns-then-is_wide c = rw (c.if-width_tiles-height_tiles.false, ← c.is_wide.ensures, c.if-is_wide.true)

pub returns-in_default : goal.returns-in_default
unfolding first building_lines
returns-in_default c =
    rw (
      c.if-width_tiles-height_tiles.false,
      ← c.is_wide.ensures,
      c.if-is_wide.false,
      overflows c.args.b c.building_geometry.ensures c.in_default.is,
    )

pub returns : goal.returns
unfolding first building_lines
returns c =
    rw (
      c.if-width_tiles-height_tiles.false,
      ← c.is_wide.ensures,
      c.if-is_wide.false,
      fits c.args.b c.building_geometry.ensures c.in-Some.is,
    )
