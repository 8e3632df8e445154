-- `terrain::stamp_terrain_blockers` meets its contract. The invariant: the rows passed are stamped, each with at most 1,024 rectangles. Assumes nothing.
use Rattle.std.proofs.Common.{refl, arith}
use Rattle.stamps.proofs.Adding.{adds_start, adds_next, adds_same}
use Rattle.terrain.specs.Terrain.{row_stops}
use Rattle.terrain.proofs.Cells.{line_in_row}
use Rattle.terrain.proofs.Terrain.{reached_rows}
use Rattle.terrain.proofs.stamp_terrain_blockers.Goals as goal

pub loop-row-init : goal.loop-row-init
loop-row-init c =
    let a = c.args in
    let columns = c.reach-columns.result in
    adds_same (omega arith) (λ x y hx hy. refl) (adds_start (λ r x y. row_stops a.frame a.mover a.cells.now a.width r columns.from columns.to x y) _ a.grid.now)

pub loop-row-preserved : goal.loop-row-preserved
loop-row-preserved c =
    let a = c.args in
    let l = c.loop-row in
    let columns = c.reach-columns.result in
    adds_same (omega arith) (λ x y hx hy. refl)
    (adds_next {w = a.frame.width} {h = a.frame.height} (λ r x y. row_stops a.frame a.mover a.cells.now a.width r columns.from columns.to x y) _ l.row {k = 1024} (omega arith) l.invariant
    (adds_same (grind arith) (line_in_row a.frame a.mover a.cells.now a.width l.row columns.from columns.to _ (omega arith) (grind arith)) c.stamp_row.ensures))

pub returns : goal.returns
returns c =
    let a = c.args in
    let l = c.loop-row in
    adds_same (grind arith)
    (reached_rows a.frame a.mover a.cells.now a.width a.height c.requires.width_le_cells.2 c.reach-columns.ensures c.reach-rows.ensures (grind arith)) l.invariant
