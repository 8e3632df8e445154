-- The text of a report as its four pieces. Assumes nothing.
use mathlib.Core.Path.{◌≡◌, sym, ap, ◌∙◌}
use mathlib.Core.Bool.{cond}
use mathlib.Core.List.{List, ◌++◌, flat_map, append_assoc}
use Prim.Native.Nat.{ℕ, ◌+◌}
use lib.ListN.{length, get_or, length-append}
use native.Mathlib.Omega.{arith}
use Rattle.model.specs.declared.Passed.{Passed}
use Rattle.model.specs.declared.WallPlacement.{WallPlacement}
use Rattle.model.specs.Passage.{rank}
use Rattle.model.specs.Report.{bytes, decimal, placement_lines, verdict_names, point_line, report_text}
use Rattle.report_passage.specs.Passage.{passage_text}

seven_and_one : (a b c d e f g h : List ℕ) → ((a ++ b) ++ (c ++ (d ++ (e ++ (f ++ g))))) ++ h ≡ a ++ (b ++ (c ++ (d ++ (e ++ (f ++ (g ++ h))))))
seven_and_one a b c d e f g h = simp append_assoc

pub report_text_in_parts : (ps : List WallPlacement) (issues : List ℕ) (p : Passed) (points : List ℕ)
    → bytes "check ok\n" ++ (placement_lines 0 ps issues ++ (passage_text p ++ flat_map point_line points)) ≡ report_text ps issues p points
unfolding report_text
report_text_in_parts ps issues p points =
    ap (λ (t : List ℕ). bytes "check ok\n" ++ (placement_lines 0 ps issues ++ t))
    (seven_and_one (bytes "passage ") (bytes (get_or verdict_names (rank p.passage) "")) (bytes "\nbaseline ") (cond p.baseline_passable (bytes "1") (bytes "0")) (bytes "\nroute ") (decimal p.points) (bytes "\n") (flat_map point_line points))

pub report_length : (ps : List WallPlacement) (issues : List ℕ) (p : Passed) (points : List ℕ)
    → length (report_text ps issues p points) ≡ length (bytes "check ok\n") + (length (placement_lines 0 ps issues) + (length (passage_text p) + length (flat_map point_line points)))
report_length ps issues p points =
    let lines = flat_map point_line points in
    ap length (sym (report_text_in_parts ps issues p points))
    ∙ omega (
      arith,
      length-append (bytes "check ok\n") (placement_lines 0 ps issues ++ (passage_text p ++ lines)),
      length-append (placement_lines 0 ps issues) (passage_text p ++ lines),
      length-append (passage_text p) lines,
    )
