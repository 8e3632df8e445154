-- What a report counts, and how much room it needs. Assumes nothing.
use Rattle.std.specs.Prelude.{List, [], ◌∷◌, ℕ, ◌+◌, ◌≤◌, length, take}
use Rattle.model.specs.declared.WallCheck.{WallCheck}
use Rattle.model.specs.declared.WallPlacement.{WallPlacement}

-- how many issue words the placements count
abbrev pub issue_sum : List WallPlacement → ℕ
issue_sum [] = 0
issue_sum (p ∷ ps) = p.issues + issue_sum ps

-- Room for the longest report of the program: 9 bytes say that it is accepted, 32 placement lines have at most 255 each, 2,080 issue lines 46 each,
-- the passage 66, and 1,600 points 42 each, every number counted at 20 digits.
abbrev pub report_room : ℕ
report_room = 171115

-- Room for a refusal: 9 bytes beside a number of at most 20 digits.
abbrev pub refused_room : ℕ
refused_room = 29

-- What a report of the program holds: each list has what is counted in it, no more than the program has room for.
pub record Printable (check : WallCheck) (count : ℕ) (issues route out : List ℕ) : Type 0 where
  pub buildings : count ≤ 32
  pub issues_there : issue_sum (take count check.placements) ≤ length issues
  pub issues_few : issue_sum (take count check.placements) ≤ 2080
  pub points_there : check.passed.points ≤ length route
  pub points_few : check.passed.points ≤ 1600
  pub room : report_room ≤ length out
