-- `query_ground::validate_rects` meets its contract: no obstacle that was passed is hollow. Assumes nothing.
use mathlib.Core.Path.{◌≡◌}
use mathlib.Core.Bool.{false}
use Prim.Native.Nat.{ℕ, ◌<◌}
use lib.ListN.{get_or}
use Rattle.model.specs.Check.{no_rect}
use Rattle.model.specs.Ground.{rects}
use Rattle.model.specs.Refusal.{hollow}
use Rattle.query_ground.proofs.validate_rects.Given as goal

abbrev pub invariant-loop-index : goal.invariant-loop-index
invariant-loop-index l = (k : ℕ) → k < l.index → hollow (get_or (rects l.words) k no_rect) ≡ false
