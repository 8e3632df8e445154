-- `query_way::window_holds` meets its contract: the sides come back from their bits, and a u32 fits an i64. Assumes nothing.
use mathlib.Core.Path.{◌≡◌}
use lib.IntN.{pos}
use mir.Syntax.{w32, w64}
use mir.Val.{SFits, to_z}
use borrow.Author.Rules.{rules}
use Rattle.numbers.proofs.Integers.{read_u32, widened}
use Rattle.model.specs.Boxes.{holds}
use Rattle.query_way.proofs.window_holds.Goals.{Start}
use Rattle.query_way.proofs.window_holds.Goals as goal

pub returns : goal.returns
unfolding holds
returns c =
    let left : SFits w32 c.args.window.left = search rules in
    let top : SFits w32 c.args.window.top = search rules in
    let right : SFits w32 c.args.window.right = search rules in
    let bottom : SFits w32 c.args.window.bottom = search rules in
    let x : to_z w64 c.args.p.x ≡ pos c.args.p.x = read_u32 (search rules) in
    let y : to_z w64 c.args.p.y ≡ pos c.args.p.y = read_u32 (search rules) in
    rw (widened (left), widened (right), widened (top), widened (bottom), x, y)
