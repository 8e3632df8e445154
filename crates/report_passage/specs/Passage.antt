-- The lines of a report between the placements and the points. Assumes nothing.
use Rattle.std.specs.Prelude.{cond, List, ◌++◌, ℕ, get_or}
use Rattle.model.specs.declared.Passed.{Passed}
use Rattle.model.specs.declared.WallPassage.{WallPassage}
use Rattle.model.specs.Passage.{rank}
use Rattle.model.specs.Report.{bytes, decimal, verdict_names}

-- the verdict's line, but for its end
abbrev pub verdict_text : WallPassage → List ℕ
verdict_text p = bytes "passage " ++ bytes (get_or verdict_names (rank p) "")

-- the verdict; 1 or 0; the number of points
abbrev pub passage_text : Passed → List ℕ
passage_text p =
    verdict_text p.passage ++ (bytes "\nbaseline " ++ (cond p.baseline_passable (bytes "1") (bytes "0") ++ (bytes "\nroute " ++ (decimal p.points ++ bytes "\n"))))
