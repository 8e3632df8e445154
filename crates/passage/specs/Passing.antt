-- One mover's passage between one pair of ends: what is answered, and what the areas 3 to 8 then hold. Assumes nothing.
use Rattle.std.specs.Prelude.{◌≡◌, Bool, true, false, List, map, ℕ, ◌≤◌, T, length, Option, None, Some, Result, Ok, Err}
use Rattle.model.specs.declared.PixelRect.{PixelRect}
use Rattle.model.specs.declared.PixelPosition.{PixelPosition}
use Rattle.model.specs.declared.CollisionBounds.{CollisionBounds}
use Rattle.model.specs.declared.Plan.{Plan}
use Rattle.model.specs.declared.Passed.{Passed}
use Rattle.model.specs.declared.WallEndpoint.{WallEndpoint}
use Rattle.model.specs.declared.WallEndpoint.TheVariants.{Start, End}
use Rattle.model.specs.declared.WallPassage.{WallPassage}
use Rattle.model.specs.declared.WallPassage.TheVariants.{StartBlocked, EndBlocked, Open, AlreadyDisconnected, BlockedWithinWindow}
use Rattle.model.specs.Ground.{Ground, built}
use Rattle.model.specs.Steps.{point_word}
use Rattle.model.specs.Passage.{Passage, Passing}
use Rattle.model.specs.Areas.{difference_room, mark_room, center_room, begun, cleared}
use Rattle.model.proofs.Shifted.{Agree}
use Rattle.stamps.specs.declared.Frame.{Frame}
use Rattle.marks.specs.Marks.{Unmarked}
use Rattle.route.specs.Answer.{Answers}

-- The areas 3 to 8.
pub record PassAreas : Type 0 where
  pub base : List ℕ
  pub plan : List ℕ
  pub marks : List ℕ
  pub parents : List ℕ
  pub queue : List ℕ
  pub route : List ℕ

abbrev pub pass_areas : List ℕ → List ℕ → List ℕ → List ℕ → List ℕ → List ℕ → PassAreas
pass_areas base plan marks parents queue route = record { base = base; plan = plan; marks = marks; parents = parents; queue = queue; route = route }

-- They have room.
pub record PassEnough (window : PixelRect) (a : PassAreas) : Type 0 where
  pub base : difference_room window ≤ length a.base
  pub plan : difference_room window ≤ length a.plan
  pub marks : mark_room window ≤ length a.marks
  pub parents : center_room window ≤ length a.parents
  pub queue : center_room window ≤ length a.queue
  pub route : center_room window ≤ length a.route

-- What they hold afterwards, with the route's centers cs.
abbrev pub pass_left : PixelRect → List PixelPosition → PassAreas → PassAreas
pass_left window cs a = record {
  base = cleared (difference_room window) a.base;
  plan = cleared (difference_room window) a.plan;
  marks = cleared (mark_room window) a.marks;
  parents = cleared (center_room window) a.parents;
  queue = cleared (center_room window) a.queue;
  route = begun (map point_word cs) a.route;
}

-- One mover's passage is answered.
pub record PassAnswers (g : Ground) (window : PixelRect) (m : CollisionBounds) (plan : Plan) (s e : PixelPosition) (was now : PassAreas) (r : Passed) : Type 0 where
  pub centers : List PixelPosition
  pub passing : Passing g window (built plan) m s e r centers
  pub areas : now ≡ pass_left window centers was

-- What a look at the centers after the plan finds: the start or the end blocked, or what the search between them answers.
abbrev pub Finds : (ℕ → ℕ → Type 0) → PixelPosition → PixelPosition → List ℕ → List ℕ → Result (Option ℕ) WallEndpoint → Type 0
Finds free s e was now (Err Start) = (free s.x s.y → ⊥) × (now ≡ was)
Finds free s e was now (Err End) = free s.x s.y × (free e.x e.y → ⊥) × (now ≡ was)
Finds free s e was now (Ok r) = free s.x s.y × free e.x e.y × Answers free s e was now r

-- a look, with the working areas left as they came
pub record Looks (free : ℕ → ℕ → Type 0) (s e : PixelPosition) (parents parents' queue queue' was now : List ℕ) (r : Result (Option ℕ) WallEndpoint) : Type 0 where
  pub finds : Finds free s e was now r
  pub parents_left : parents' ≡ parents
  pub queue_left : queue' ≡ queue

-- the verdict of a look that found no route, with the baseline b
abbrev pub verdict_of : Result (Option ℕ) WallEndpoint → Bool → WallPassage
verdict_of (Err Start) b = StartBlocked
verdict_of (Err End) b = EndBlocked
verdict_of (Ok (Some n)) b = Open
verdict_of (Ok None) true = BlockedWithinWindow
verdict_of (Ok None) false = AlreadyDisconnected

-- The marks before the plan and after it decide: whatever they say of the map's centers, if what is free after the plan was free before it.
pub record Judges (f : Frame) (before after : List ℕ) (s e : PixelPosition) (parents parents' queue queue' was now : List ℕ) (r : Passed) : Type 0 where
  pub parents_left : parents' ≡ parents
  pub queue_left : queue' ≡ queue
  pub passage : (B A : ℕ → ℕ → Bool) → Agree f.left f.top (Unmarked before f.width f.height) (λ x y. T (B x y)) → Agree f.left f.top (Unmarked after f.width f.height) (λ x y. T (A x y)) → ((x y : ℕ) → T (A x y) → T (B x y))
      → (cs : List PixelPosition) × Passage (λ x y. T (B x y)) (λ x y. T (A x y)) s e r cs × (now ≡ begun (map point_word cs) was)
