-- `boxes::building_geometry` meets its contract: both boxes are held where each axis is. Assumes nothing.
use mathlib.Core.Path.{sym, ◌∙◌}
use mir.Facts.{to_z-of_z}
use mir.Syntax.{w32}
use mir.Val.{SFits}
use borrow.Author.Rules.{rules}
use Rattle.axes.specs.declared.Sides.{Sides}
use Rattle.boxes.proofs.Sides.{overflow_x, overflow_y, both_fit}
use Rattle.boxes.proofs.building_geometry.Goals as goal

-- four sides that an i32 holds
abbrev Held : Sides → Type 0
Held s = SFits w32 s.left × SFits w32 s.right × SFits w32 s.low × SFits w32 s.high

pub returns-in_err-x : goal.returns-in_err-x
returns-in_err-x c = c.from_residual.ensures ∙ sym (overflow_x c.args.b c.building_axis.ensures c.in_err-x.was)

pub returns-in_err-y : goal.returns-in_err-y
returns-in_err-y c = c.from_residual-in_err-y.ensures ∙ sym (overflow_y c.args.b c.building_axis-2.ensures c.in_err-y.was)

pub returns : goal.returns
returns c =
    let x : Held c.in_ok-x.x = search rules in
    let y : Held c.in_ok-y.y = search rules in
    rw (to_z-of_z x.0, to_z-of_z x.1, to_z-of_z x.2, to_z-of_z x.3, to_z-of_z y.0, to_z-of_z y.1, to_z-of_z y.2, to_z-of_z y.3)
    (sym (both_fit c.args.b c.building_axis.ensures c.in_ok-x.was c.building_axis-2.ensures c.in_ok-y.was))
