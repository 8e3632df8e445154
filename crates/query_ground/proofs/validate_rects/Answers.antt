-- `query_ground::validate_rects` meets its contract: no obstacle that was passed is hollow. Assumes nothing.
use mathlib.Core.Path.{◌≡◌, sym, ◌∙◌}
use mathlib.Core.List.{List}
use native.Mathlib.Omega.{arith}
use lib.IntN.{ℤ}
use lib.ListN.{get_or}
use borrow.Author.Count.{below_more}
use Rattle.model.specs.Check.{no_rect}
use Rattle.model.specs.Ground.{rects}
use Rattle.model.specs.Refusal.{hollow}
use Rattle.model.proofs.Lists.{rects_length}
use Rattle.query_ground.proofs.Found.{none_hollow, first_hollow}
use Rattle.query_ground.proofs.validate_rects.Goals.{After-is_hollow}
use Rattle.query_ground.proofs.validate_rects.Goals as goal

-- what is tested is the obstacle at the index
tested : (c : After-is_hollow) → hollow (get_or (rects c.args.words.now) c.loop-index.index no_rect) ≡ c.is_hollow.result
tested c = rw (← c.obstacle_at-obstacle.ensures) (sym c.is_hollow.ensures)

pub returns-then-is_hollow : goal.returns-then-is_hollow
returns-then-is_hollow c =
    let ws : List ℤ = c.args.words.now in
    sym (first_hollow ws c.loop-index.index (omega (arith, rects_length ws)) c.loop-index.invariant (tested c.before ∙ c.if-is_hollow.true))

pub loop-index-preserved : goal.loop-index-preserved
loop-index-preserved c = below_more _ _ c.loop-index.invariant (tested c.before ∙ c.if-is_hollow.false)

pub returns : goal.returns
returns c =
    let ws : List ℤ = c.args.words.now in
    sym (none_hollow ws (λ k m. c.loop-index.invariant k (omega (arith, rects_length ws))))
