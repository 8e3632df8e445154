-- The table's lines as runs of stages, one after the other, and what a run that was passed shows. Assumes nothing.
use mathlib.Core.Path.{◌≡◌, sym, ap, ◌∙◌}
use mathlib.Core.List.{◌++◌, append_assoc}
use Prim.Native.Nat.{ℕ, ◌≤◌}
use Rattle.model.specs.declared.WallQuery.{WallQuery}
use Rattle.std.specs.Prelude.{Result, Ok}
use Rattle.model.specs.declared.WallError.{WallError}
use Rattle.model.specs.Ground.{Ground, built}
use Rattle.model.specs.Refusal.{given, first, mover_lines, count_lines, window_lines, end_lines, building_lines, query_lines, caps}
use Rattle.model.proofs.Lines.{none_both}
use Rattle.model.proofs.Valid.{counted}
use Rattle.query.specs.Stages.{ground_lines, way_lines}

pub query_runs : (g : Ground) (q : WallQuery) → first (query_lines g q) ≡ first (ground_lines g ++ (way_lines g.width g.height q ++ building_lines 0 (built q.plan)))
query_runs g q = simp append_assoc

-- the buildings are looked at only where there are few enough
pub way_counted : (width height : ℕ) (q : WallQuery) {A : Type 0} {o : Result A WallError} {x : A} → o ≡ Ok x → given o ≡ first (way_lines width height q) → q.plan.count ≤ caps.buildings
way_counted width height q e h =
    let way = none_both (mover_lines q.mover) _ (sym h ∙ ap given e) in
    counted q.plan.count (none_both (count_lines q.plan.count) (window_lines width height q.window ++ end_lines q.window q.start q.end) way.1).0
