-- `placement_issues::overlaps_obstacles` meets its contract. The invariant: the words of the obstacles passed are written. Assumes nothing.
use mathlib.Core.Path.{◌≡◌, sym, ◌∙◌}
use Prim.Native.Nat.{◌<◌}
use native.Mathlib.Omega.{arith}
use lib.ListN.{length, get_or}
use Rattle.model.specs.Boxes.{meets}
use Rattle.model.specs.Ground.{rects}
use Rattle.model.specs.Check.{no_rect}
use Rattle.model.proofs.Lists.{rects_length}
use Rattle.placement_issues.proofs.Written.{passed, room_here, found, at_last}
use Rattle.placement_issues.proofs.overlaps_obstacles.Goals.{then-intersects, else-intersects}
use Rattle.placement_issues.proofs.overlaps_obstacles.Goals as goal

pub word-requires-clause-index_small : goal.word-requires-clause-index_small
word-requires-clause-index_small c = omega (arith, rects_length c.args.words.now)

pub bounds-issues-count : goal.bounds-issues-count
bounds-issues-count c =
    let h : c.loop-i.i < length (rects c.args.words.now) = omega (arith, rects_length c.args.words.now) in
    omega (arith, room_here c.loop-i.invariant no_rect h c.requires.room (rw c.obstacle_at.ensures at (sym c.intersects.ensures ∙ c.if-intersects.true)))

pub loop-i-preserved : goal.loop-i-preserved
loop-i-preserved c =
    let h : c.loop-i.i < length (rects c.args.words.now) = omega (arith, rects_length c.args.words.now) in
    let e : meets c.args.footprint (get_or (rects c.args.words.now) c.loop-i.i no_rect) ≡ c.intersects.result = rw c.obstacle_at.ensures at (sym c.intersects.ensures) in
    elim c.if-intersects.branch [
      | then-intersects w ↦ rw (w.issues-is, w.count-is, w.word.ensures) (found c.loop-i.invariant no_rect h c.requires.room (e ∙ w.if-intersects.true))
      | else-intersects w ↦ rw (w.issues-is, w.count-is) (passed c.loop-i.invariant no_rect h (e ∙ w.if-intersects.false))
    ]

pub returns : goal.returns
returns c = at_last c.loop-i.invariant (omega (arith, rects_length c.args.words.now))
