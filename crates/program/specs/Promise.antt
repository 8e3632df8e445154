-- What the program's parts promise. Assumes nothing.
use Rattle.std.specs.Prelude.{◌≡◌, List, Option, ℕ, ◌≤◌, length, take, drop}
use Rattle.std.specs.Io.KnownBytes.{Appends}
use Rattle.model.specs.declared.WallQuery.{WallQuery}
use Rattle.model.specs.Ground.{Ground}
use Rattle.model.specs.Refusal.{Line, first}
use Rattle.model.specs.Report.{PrintsAs, Prints}
use Rattle.text.specs.Writing.{Wrote}

-- The text of a query on this ground, refused by these lines or by none, stands first in the buffer and ends at r; the rest stays.
pub record Told (lines : List Line) (g : Ground) (q : WallQuery) (was now : List ℕ) (r : ℕ) : Type 0 where
  pub text : List ℕ
  pub prints : PrintsAs g q text (first lines)
  pub wrote : Wrote was 0 text now r

-- What the program prints for the bytes s stands first in the buffer, and ends at r; the rest stays.
pub record Printed (s was now : List ℕ) (r : ℕ) : Type 0 where
  pub within : r ≤ length now
  pub prints : Prints s (take r now)
  pub rest : drop r now ≡ drop r was

-- The same for an input of which the first n bytes of a buffer were read: all of it, or as much as the buffer holds.
pub record Ran (buffer : List ℕ) (n : ℕ) (was now : List ℕ) (r : ℕ) : Type 0 where
  pub within : r ≤ length now
  pub prints : (s : List ℕ) → take (length buffer) s ≡ take n buffer → Prints s (take r now)
  pub rest : drop r now ≡ drop r was

-- The longest input that is not refused: 64 by 64 cells, 32 obstacles, 63 buildings.
abbrev pub longest : ℕ
longest = 5141

-- A writer's known bytes, before and after, grow by what the program prints for the bytes s.
abbrev pub Reported : Option (List ℕ) → Option (List ℕ) → List ℕ → Type 0
Reported was now s = (text : List ℕ) × Prints s text × Appends was now text
