-- What the route's parts say: whether both ends are free, and what is written of the way back. Assumes nothing.
use Rattle.std.specs.Prelude.{◌≡◌, Bool, true, false, List, ℕ, Option, None, Some}
use Rattle.model.specs.declared.PixelPosition.{PixelPosition}
use Rattle.model.specs.Steps.{Joined}
use Rattle.stamps.specs.declared.Frame.{Frame}
use Rattle.way_back.specs.Ways.{Written}

-- r says whether both ends are free.
pub record Opens (free : ℕ → ℕ → Type 0) (s e : PixelPosition) (r : Bool) : Type 0 where
  pub start : r ≡ true → free s.x s.y
  pub end : r ≡ true → free e.x e.y
  pub shut : r ≡ false → Joined free s e → ⊥

-- What was written of a search's end: the way back if it found one, and else nothing.
abbrev pub Told : List ℕ → ℕ → ℕ → Frame → Bool → List ℕ → List ℕ → Option ℕ → Type 0
Told parents s e f found before after (Some n) = (found ≡ true) × Written parents s e f n before after
Told parents s e f found before after None = (found ≡ false) × (after ≡ before)
