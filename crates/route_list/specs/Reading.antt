-- What the marks of a window say of a list of route words. Assumes nothing.
use Rattle.std.specs.Prelude.{◌≡◌, Bool, List, ℕ, ◌≤◌, T, length}
use Rattle.model.proofs.Shifted.{Agree}
use Rattle.stamps.specs.declared.Frame.{Frame}
use Rattle.marks.specs.Marks.{Unmarked}
use Rattle.way_back.specs.Ways.{Window, size}

-- r is what f says of the map's centers, by any reading of them that agrees with the marks
abbrev pub ByMarks : List ℕ → Frame → ((ℕ → ℕ → Bool) → Bool) → Bool → Type 0
ByMarks marks f said r = (free : ℕ → ℕ → Bool) → Agree f.left f.top (Unmarked marks f.width f.height) (λ x y. T (free x y)) → r ≡ said free

-- the marks are those of the frame's centers
pub record Framed (marks : List ℕ) (f : Frame) : Type 0 where
  pub window : Window f
  pub room : size f ≤ length marks
