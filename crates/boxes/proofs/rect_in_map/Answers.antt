-- `boxes::rect_in_map` meets its contract. The sides come back from their bits, and 8 × a u32 fits an i64. Assumes nothing.
use mathlib.Core.Path.{◌≡◌}
use Prim.Native.Nat.{◌*◌}
use lib.IntN.{pos}
use native.Mathlib.Omega.{arith}
use mir.Facts.{to_z-of_z, to_z_pos}
use mir.Syntax.{w32, w64}
use mir.Val.{SFits, to_z}
use borrow.Author.Rules.{rules}
use Rattle.numbers.proofs.Integers.{widened}
use Rattle.model.specs.Boxes.{in_map}
use Rattle.boxes.proofs.rect_in_map.Goals.{Start}
use Rattle.boxes.proofs.rect_in_map.Goals as goal

-- i32 holds the sides
module _ (c : Start) where
  left : SFits w32 c.args.rect.left
  left = search rules

  top : SFits w32 c.args.rect.top
  top = search rules

  right : SFits w32 c.args.rect.right
  right = search rules

  bottom : SFits w32 c.args.rect.bottom
  bottom = search rules

  -- and an i64 reads the map's size as it is
  wide : to_z w64 (8 * c.args.width) ≡ pos (8 * c.args.width)
  wide = to_z_pos w64 (omega arith)

  high : to_z w64 (8 * c.args.height) ≡ pos (8 * c.args.height)
  high = to_z_pos w64 (omega arith)

pub returns : goal.returns
unfolding in_map
returns c =
    let s = c.before.before.before.before.before.before.before.before in
    rw (to_z-of_z (left s), to_z-of_z (top s), widened (right s), widened (bottom s), wide s, high s)
