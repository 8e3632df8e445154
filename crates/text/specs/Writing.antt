-- Text put into a lent buffer: when it has room, and what a call leaves there. Assumes nothing.
use Rattle.std.specs.Prelude.{◌≡◌, List, ◌++◌, ℕ, ◌+◌, ◌≤◌, length, take, drop}

-- behind the first `at` bytes there is room for the text
abbrev pub Fits : List ℕ → ℕ → List ℕ → Type 0
Fits out at text = at + length text ≤ length out

-- The text was put behind the first `at` bytes, which stay, and ends at r; the bytes from r on stay too.
pub record Wrote (before : List ℕ) (at : ℕ) (text after : List ℕ) (r : ℕ) : Type 0 where
  pub next : r ≡ at + length text
  pub front : take r after ≡ take at before ++ text
  pub rest : drop r after ≡ drop r before
