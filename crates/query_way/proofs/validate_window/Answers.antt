-- `query_way::validate_window` meets its contract. Assumes nothing.
use mathlib.Core.Path.{◌≡◌}
use mathlib.Core.Bool.{false, not, ◌||◌}
use borrow.Author.Tests.{le-ltb}
use Rattle.model.specs.Boxes.{in_map}
use Rattle.model.specs.Refusal.{first, hollow, window_lines}
use Rattle.query_way.proofs.validate_window.Goals.{Else-hollow-inside}
use Rattle.query_way.proofs.validate_window.Goals as goal

pub returns-then-hollow-inside : goal.returns-then-hollow-inside
unfolding first window_lines
returns-then-hollow-inside c = rw (← c.is_hollow-hollow.ensures, ← c.rect_in_map-inside.ensures, c.if-hollow-inside.true)

pub returns-then-width-height : goal.returns-then-width-height
unfolding first window_lines
returns-then-width-height c =
    let passed : let a = c.args in hollow a.window || not (in_map a.map_width a.map_height a.window) ≡ false = rw (← c.is_hollow-hollow.ensures, ← c.rect_in_map-inside.ensures) c.if-hollow-inside.false in
    rw (passed, ← c.width-width.ensures, ← c.height-height.ensures, c.if-width-height.true)

pub returns : goal.returns
unfolding first window_lines
returns c =
    let passed : let a = c.args in hollow a.window || not (in_map a.map_width a.map_height a.window) ≡ false = rw (← c.is_hollow-hollow.ensures, ← c.rect_in_map-inside.ensures) c.if-hollow-inside.false in
    rw (passed, ← c.width-width.ensures, ← c.height-height.ensures, c.if-width-height.false, le-ltb _ _ c.if-centers-gt-MAX_WINDOW_CENTERS.false)
