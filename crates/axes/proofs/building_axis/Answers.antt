-- `axes::building_axis` meets its contract. Assumes nothing.
use mathlib.Core.Path.{sym}
use Prim.Native.Nat.{◌+◌, ◌*◌}
use native.Mathlib.Omega.{arith}
use mir.Facts.{to_z_pos}
use mir.Syntax.{w32}
use Rattle.axes.proofs.Held.{axis_right, axis_high, axis_low, axis_fits, less}
use Rattle.axes.proofs.building_axis.Goals as goal

pub returns-then-right-gt2147483647 : goal.returns-then-right-gt2147483647
returns-then-right-gt2147483647 c = let a = c.args in sym (axis_right a.tile a.size a.back a.ahead c.if-right-gt2147483647.true)

pub returns-then-high-gt2147483647 : goal.returns-then-high-gt2147483647
returns-then-high-gt2147483647 c = let a = c.args in sym (axis_high a.tile a.size a.back a.ahead c.if-high-gt2147483647.true)

pub returns-then-back-center : goal.returns-then-back-center
returns-then-back-center c = let a = c.args in sym (axis_low a.tile a.size a.back a.ahead c.if-back-center.true)

pub returns : goal.returns
returns c =
    let a = c.args in
    let center = 32 * a.tile + 16 * a.size in
    rw (
      to_z_pos w32 {n = 32 * a.tile} (omega arith),
      to_z_pos w32 {n = 32 * a.tile + 32 * a.size} (omega arith),
      less center a.back (omega arith) c.ranges.back.fits (omega arith),
      to_z_pos w32 {n = center + a.ahead + 1} (omega arith),
    )
    (sym (axis_fits a.tile a.size a.back a.ahead (omega arith) (omega arith) (omega arith)))
