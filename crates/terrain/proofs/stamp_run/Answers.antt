-- `terrain::stamp_run` meets its contract: an empty run stops nothing, and another is one blocker. Assumes nothing.
use Rattle.std.proofs.Common.{◌+◌, ◌*◌, sym, rules, arith}
use Rattle.stamps.specs.Stamps.{stop, flat}
use Rattle.stamps.proofs.Some.{among_none}
use Rattle.stamps.proofs.Adding.{adds_none, adds_same}
use Rattle.terrain.specs.Terrain.{cell_at}
use Rattle.terrain.proofs.Cells.{run_stops_as_flat}
use Rattle.terrain.proofs.stamp_run.Goals as goal

pub returns-then-from-to : goal.returns-then-from-to
returns-then-from-to c =
    let a = c.args in
    adds_same (omega arith) (λ x y hx hy. sym (among_none (λ k. stop a.frame a.mover (cell_at k a.row) x y) a.from a.to c.if-from-to.true)) (adds_none a.grid.now)

pub returns : goal.returns
returns c =
    let a = c.args in
    adds_same (omega arith) (λ x y hx hy. run_stops_as_flat a.frame a.mover a.row a.from a.to x y (omega arith))
    (c.stamp_expanded.ensures (flat (8 * a.from) (8 * a.row) (8 * a.to) (8 * a.row + 8)) (search rules))
