-- What a check leaves in its areas is printed as the definitions say: words behind those that the placements count are not printed, and the placements
-- count as many words as there are. For whoever prints a check's answer. Assumes nothing.
use mathlib.Core.Path.{◌≡◌, refl}
use mathlib.Core.List.{List, [], ◌∷◌, ◌++◌, map}
use Prim.Native.Nat.{ℕ, suc, ◌≤◌}
use native.Mathlib.Omega.{arith}
use lib.ListN.{length, drop, length-append, length-drop, length-map}
use lib.Seq.{take-append-le, drop-append-le}
use Rattle.model.specs.declared.Passed.{Passed}
use Rattle.model.specs.declared.WallBuilding.{WallBuilding}
use Rattle.model.specs.declared.WallPlacement.{WallPlacement}
use Rattle.model.specs.Ground.{Ground}
use Rattle.model.specs.Placement.{issue_word, issues_of, placements_from, words_from}
use Rattle.model.specs.Report.{placement_lines, report_text}
use Rattle.report.specs.Printing.{issue_sum}

lines_counted : (k : ℕ) (ps : List WallPlacement) (words rest : List ℕ) → issue_sum ps ≤ length words → placement_lines k ps (words ++ rest) ≡ placement_lines k ps words
unfolding placement_lines
lines_counted k [] words rest h = refl
lines_counted k (p ∷ ps) words rest h =
    let n : p.issues ≤ length words = omega arith in
    let m : issue_sum ps ≤ length (drop p.issues words) = omega (arith, length-drop p.issues words) in
    rw (take-append-le p.issues words rest n, drop-append-le p.issues words rest n, lines_counted (suc k) ps (drop p.issues words) rest m)

pub report_counted : (ps : List WallPlacement) (words rest : List ℕ) (p : Passed) (points : List ℕ) → issue_sum ps ≤ length words
    → report_text ps (words ++ rest) p points ≡ report_text ps words p points
unfolding report_text
report_counted ps words rest p points h = rw (lines_counted 0 ps words rest h)

pub words_counted : (g : Ground) (bs : List WallBuilding) (k : ℕ) (cs : List WallBuilding) → issue_sum (placements_from g bs k cs) ≡ length (words_from g bs k cs)
unfolding placements_from words_from
words_counted g bs k [] = refl
words_counted g bs k (c ∷ cs) =
    omega (
      arith,
      words_counted g bs (suc k) cs,
      length-append (map (issue_word k) (issues_of g bs k c)) (words_from g bs (suc k) cs),
      length-map (issues_of g bs k c) (issue_word k),
    )
