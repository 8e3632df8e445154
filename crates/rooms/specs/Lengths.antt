-- The lent areas of a check by their lengths, and windows of a size that may be. Assumes nothing.
use Rattle.std.specs.Prelude.{◌≤◌, length}
use Rattle.model.specs.declared.PixelRect.{PixelRect}
use Rattle.model.specs.Boxes.{width_of, height_of}
use Rattle.model.specs.Refusal.{caps}
use Rattle.model.specs.Check.{CheckAreas}
use Rattle.rooms.specs.declared.Lent.{Lent}

abbrev pub lengths : CheckAreas → Lent
lengths a = record {
  issues = length a.issues;
  base = length a.base;
  plan = length a.plan;
  marks = length a.marks;
  parents = length a.parents;
  queue = length a.queue;
  route = length a.route;
}

-- no axis is above its cap
pub record Small (w : PixelRect) : Type 0 where
  pub width : width_of w ≤ caps.axis
  pub height : height_of w ≤ caps.axis
