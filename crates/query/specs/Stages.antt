-- Runs of stages. Assumes nothing.
use Rattle.std.specs.Prelude.{List, ◌++◌, ℕ}
use Rattle.model.specs.declared.WallQuery.{WallQuery}
use Rattle.model.specs.Ground.{Ground}
use Rattle.model.specs.Refusal.{Line, size_lines, faulty, cell_lines, obstacle_lines, mover_lines, count_lines, window_lines, end_lines}

-- 1 to 7: the ground
abbrev pub ground_lines : Ground → List Line
ground_lines g = size_lines g.width g.height g.cells ++ (cell_lines g.cells (faulty g.cells) ++ obstacle_lines g.words)

-- 8 to 13: the query but for its buildings
abbrev pub way_lines : ℕ → ℕ → WallQuery → List Line
way_lines width height q =
    mover_lines q.mover ++ (count_lines q.plan.count ++ (window_lines width height q.window ++ end_lines q.window q.start q.end))
