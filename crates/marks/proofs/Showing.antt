-- The marks and the definitions. `shown`: counts that are above zero where a blocker stops the mover leave marks that say which centers are free.
-- `marks_agree`: the marks have the routes of the definitions. `center_marks`, at the end: what the marks say of each center. Assumes nothing.
use mathlib.Core.Path.{◌≡◌}
use mathlib.Core.Bool.{not}
use mathlib.Core.List.{List, map}
use mathlib.Core.Logic.{◌↔◌}
use Prim.Native.Nat.{ℕ, ◌+◌, ◌-◌, ◌*◌, ◌≤◌, ◌<◌}
use native.Mathlib.Omega.{arith}
use lib.Dec.{T}
use lib.IntN.{pos}
use lib.ListN.{get_or, take, drop}
use lib.Seq.{get_or-take, get_or-drop}
use Rattle.std.proofs.lemmas.Grind.{common_steps}
use Rattle.numbers.proofs.Tests.{left_of}
use Rattle.model.specs.declared.PixelRect.{PixelRect}
use Rattle.model.specs.declared.CollisionBounds.{CollisionBounds}
use Rattle.model.specs.declared.Plan.{Plan}
use Rattle.model.specs.Boxes.{holds, collision_box, width_of, height_of}
use Rattle.model.specs.Ground.{Ground, before, after, built, free, passable}
use Rattle.model.specs.Areas.{cleared}
use Rattle.model.specs.RouteTest.{TestAreas}
use Rattle.model.proofs.Shifted.{Agree}
use Rattle.model.specs.Accepted.{Windowed, Valid}
use Rattle.model.specs.declared.WallQuery.{WallQuery}
use Rattle.stamps.specs.Stamps.{Counted, stops}
use Rattle.counts.specs.Counts.{blocked}
use Rattle.counts.proofs.Blocking.{blocked_after}
use Rattle.marks.specs.Marks.{mark_of, Unmarked, Shows, Shown, Centers, Ready, areas, frame_of}
use Rattle.marks.specs.Passes.{Settled}
use Rattle.marks.proofs.Windows.{left, top, holds_center, center_held}

-- ---- what a mark of 0 says
module _ (g : Ground) (window : PixelRect) (m : CollisionBounds) (boxes : List PixelRect) (marks : List ℕ) (s : Windowed g.width g.height window) (k : Shows g window m boxes marks) where
  -- within the window a center that is free may be passed
  inside : (x y : ℕ) → x < width_of window → y < height_of window → passable g window m boxes (left window + x) (top window + y) ≡ free g m boxes (left window + x) (top window + y)
  unfolding passable
  inside x y hx hy = rw (holds_center s x y hx hy)

  -- the mark of each center of the window is 0 exactly when the center is free
  pub free_exactly : (x y : ℕ) → x < width_of window → y < height_of window → (get_or marks (y * width_of window + x) 0 ≡ 0) ↔ T (free g m boxes (left window + x) (top window + y))
  free_exactly x y hx hy =
      let mark = k.mark x y hx hy in
      let free = inside x y hx hy in
      (λ z. grind (arith, mark, free), λ t. grind (arith, mark, free))

  pub marks_agree : Agree (left window) (top window) (Unmarked marks (width_of window) (height_of window)) (λ x y. T (passable g window m boxes x y))
  unfolding passable
  marks_agree = record {
    out = λ x y u. grind (arith, k.mark x y u.0 u.1, u.2);
    back = λ x y f. at x y f (center_held s x y (left_of (holds window (pos x) (pos y)) (free g m boxes x y) f));
  }
    where
      at : (x y : ℕ) → T (passable g window m boxes x y) → (left window ≤ x) × (x < left window + width_of window) × (top window ≤ y) × (y < top window + height_of window)
          → (left window ≤ x) × (top window ≤ y) × Unmarked marks (width_of window) (height_of window) (x - left window) (y - top window)
      at x y f i = grind (arith, k.mark (x - left window) (y - top window))

-- ---- a query that the checks accept is ready
pub valid_ready : (g : Ground) (q : WallQuery) → Valid g q → Ready g q.window q.plan
valid_ready g q v = record {
  ground = record { wide = v.width_small; high = v.height_small; cells = v.cells; words = omega (arith, v.words, v.few) };
  count = v.plan.count;
  window = v.window;
}

-- ---- from counts to marks
module _ (g : Ground) (window : PixelRect) (p : Plan) (ready : Ready g window p) where
  module _ (m : CollisionBounds) {base plan : List ℕ} {was now : TestAreas} (ground-count : Counted (width_of window) (height_of window) (blocked g (frame_of window) m (before g)) base was.base) (plan-count : Counted (width_of window) (height_of window) (stops (frame_of window) m (map collision_box (built p))) plan was.plan) (settled : Settled (width_of window) (height_of window) was now) where
    passed : (boxes : List PixelRect) (x y : ℕ) → x < width_of window → y < height_of window
        → mark_of (blocked g (frame_of window) m boxes x y) ≡ mark_of (not (passable g window m boxes (left window + x) (top window + y)))
    unfolding passable
    passed boxes x y hx hy = rw (holds_center ready.window x y hx hy)

    pub marks_shown : Shown g window m p was.marks now.marks
    marks_shown = record {
      baseline = record { mark = λ x y hx hy. grind (arith, common_steps, low x y hx hy, settled.baseline x y hx hy, ground-count.above x y hx hy, passed (before g) x y hx hy) };
      planned = record {
        mark = λ x y hx hy.
            grind (
              arith,
              common_steps,
              low x y hx hy,
              settled.planned x y hx hy,
              ground-count.above x y hx hy,
              plan-count.above x y hx hy,
              blocked_after g (frame_of window) m x y (built p),
              passed (after g (built p)) x y hx hy,
            );
      };
      rest = rw twice settled.rest;
    }
      where
        low : (x y : ℕ) → x < width_of window → y < height_of window → y * width_of window + x < width_of window * height_of window
        low x y hx hy = grind arith

        twice : 2 * (width_of window * height_of window) ≡ height_of window * width_of window + height_of window * width_of window
        twice = grind arith

    left_zero : (a b c : List ℕ) → c ≡ cleared ((height_of window + 1) * (width_of window + 1)) b → drop ((height_of window + 1) * (width_of window + 1)) b ≡ drop ((height_of window + 1) * (width_of window + 1)) a
        → c ≡ cleared ((width_of window + 1) * (height_of window + 1)) a
    left_zero a b c e r = grind (arith, common_steps)

    pub shown : Centers g window m p (areas base plan was.marks) now
    shown = record { marks = marks_shown; base = left_zero base was.base now.base settled.base ground-count.rest; plan = left_zero plan was.plan now.plan settled.plan plan-count.rest }

-- The theorem of this crate. At every center of the window the first mark is 0 exactly when the center is free before the plan, and the second exactly
-- when it is free after it.
pub center_marks : (g : Ground) (window : PixelRect) (m : CollisionBounds) (p : Plan) (was now : TestAreas) → Ready g window p → Centers g window m p was now
    → (x y : ℕ) → x < width_of window → y < height_of window
    → ((get_or now.marks (y * width_of window + x) 0 ≡ 0) ↔ T (free g m (before g) (left window + x) (top window + y)))
    × ((get_or now.marks (width_of window * height_of window + (y * width_of window + x)) 0 ≡ 0) ↔ T (free g m (after g (built p)) (left window + x) (top window + y)))
center_marks g window m p was now ready c x y hx hy =
    let w = width_of window in
    let h = height_of window in
    let first = free_exactly g window m (before g) (take (w * h) now.marks) ready.window c.marks.baseline x y hx hy in
    let second = free_exactly g window m (after g (built p)) (take (w * h) (drop (w * h) now.marks)) ready.window c.marks.planned x y hx hy in
    let low : y * w + x < w * h = grind arith in (rw (get_or-take (w * h) now.marks (y * w + x) 0 low) at first, rw (get_or-take (w * h) (drop (w * h) now.marks) (y * w + x) 0 low, get_or-drop (w * h) now.marks (y * w + x) 0) at second)
