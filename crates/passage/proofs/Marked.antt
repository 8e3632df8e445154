-- From the marks of a window that the checks accept to one mover's passage. Assumes nothing.
use mathlib.Core.Path.{◌≡◌, ◌∙◌}
use mathlib.Core.List.{List}
use Prim.Native.Nat.{ℕ}
use native.Mathlib.Omega.{arith}
use lib.ListN.{take, drop}
use native.Mathlib.Nat.{mul-le-mul}
use Rattle.model.specs.declared.PixelRect.{PixelRect}
use Rattle.model.specs.declared.PixelPosition.{PixelPosition}
use Rattle.model.specs.declared.CollisionBounds.{CollisionBounds}
use Rattle.model.specs.declared.Plan.{Plan}
use Rattle.model.specs.declared.Passed.{Passed}
use Rattle.model.specs.Ground.{Ground, before, after, built, passable}
use Rattle.model.specs.Areas.{mark_room, center_room, cleared}
use Rattle.model.specs.RouteTest.{TestAreas}
use Rattle.model.proofs.Lists.{cleared_alike}
use Rattle.model.proofs.Reading.{after_before}
use Rattle.marks.specs.Marks.{Ready, Centers, areas, frame_of}
use Rattle.marks.proofs.Showing.{marks_agree}
use Rattle.way_back.specs.Ways.{Window}
use Rattle.passage.specs.Passing.{PassAreas, PassAnswers, Judges, pass_areas}

-- ---- the window, by its numbers
pub ready_window : {g : Ground} {w : PixelRect} {plan : Plan} → Ready g w plan → Window (frame_of w)
ready_window {g} {w} r = record {
  limit = omega (arith, mul-le-mul r.window.width_small r.window.height_small);
  wide = omega (arith, r.window.right_in, r.ground.wide);
  high = omega (arith, r.window.bottom_in, r.ground.high);
}

-- ---- the passage that the marks tell of
pub passage_told : (g : Ground) (w : PixelRect) (m : CollisionBounds) (plan : Plan) (s e : PixelPosition) (was : PassAreas) {mid : TestAreas} {marks parents queue route : List ℕ} {r : Passed}
    → Ready g w plan → Centers g w m plan (areas was.base was.plan was.marks) mid
    → Judges (frame_of w) (take (center_room w) mid.marks) (take (center_room w) (drop (center_room w) mid.marks)) s e (cleared (center_room w) was.parents) parents (cleared (center_room w) was.queue) queue was.route route r
    → marks ≡ cleared (mark_room w) mid.marks
    → PassAnswers g w m plan s e was (pass_areas mid.base mid.plan marks parents queue route) r
passage_told g w m plan s e was ready c j z =
    let t = j.passage (passable g w m (before g)) (passable g w m (after g (built plan)))
    (marks_agree g w m (before g) _ ready.window c.marks.baseline) (marks_agree g w m (after g (built plan)) _ ready.window c.marks.planned) (after_before g w m (built plan)) in
    let zero = z ∙ cleared_alike (mark_room w) was.marks _ c.marks.rest in
    record {
      centers = t.0;
      passing = t.1;
      areas = λ i. record { base = c.base i; plan = c.plan i; marks = zero i; parents = j.parents_left i; queue = j.queue_left i; route = t.2 i };
    }
