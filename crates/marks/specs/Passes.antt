-- What the passes over the marks promise one another. Assumes nothing.
use Rattle.std.specs.Prelude.{◌≡◌, Bool, ◌||◌, List, ℕ, ◌+◌, ◌*◌, ◌≤◌, ◌<◌, ltb, length, get_or, drop}
use Rattle.model.specs.Areas.{cleared}
use Rattle.model.specs.RouteTest.{TestAreas}
use Rattle.marks.specs.Marks.{mark_of}

-- something covers the place i of the counts
abbrev pub covered : List ℕ → List ℕ → ℕ → Bool
covered base plan i = ltb 0 (get_or base i 0) || ltb 0 (get_or plan i 0)

-- the marks of a row, by the counts of its centers
pub record Row (base plan was now : List ℕ) : Type 0 where
  pub mark : (i : ℕ) → i < length was → get_or now i 0 ≡ mark_of (covered base plan i)

-- the marks of the first rows of a window w centers wide; those beyond are as they were
pub record Part (w rows : ℕ) (base plan was now : List ℕ) : Type 0 where
  pub mark : (x y : ℕ) → x < w → y < rows → get_or now (y * w + x) 0 ≡ mark_of (covered base plan (y * (w + 1) + x))
  pub rest : (k : ℕ) → rows * w ≤ k → get_or now k 0 ≡ get_or was k 0

-- Both parts of the marks of a window of w by h centers, by the ground's counts alone and by both. The counts are zero afterwards.
pub record Settled (w h : ℕ) (was now : TestAreas) : Type 0 where
  pub baseline : (x y : ℕ) → x < w → y < h → get_or now.marks (y * w + x) 0 ≡ mark_of (covered was.base was.base (y * (w + 1) + x))
  pub planned : (x y : ℕ) → x < w → y < h → get_or now.marks (h * w + (y * w + x)) 0 ≡ mark_of (covered was.base was.plan (y * (w + 1) + x))
  pub rest : drop (h * w + h * w) now.marks ≡ drop (h * w + h * w) was.marks
  pub base : now.base ≡ cleared ((h + 1) * (w + 1)) was.base
  pub plan : now.plan ≡ cleared ((h + 1) * (w + 1)) was.plan
