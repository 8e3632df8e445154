-- The lines of a placement and of an issue, in larger pieces than the definitions. Assumes nothing.
use mathlib.Core.Path.{◌≡◌, ap}
use mathlib.Core.List.{List, ◌++◌, append_assoc}
use Prim.Native.Nat.{ℕ, ◌/◌, ◌%◌, ◌^◌}
use lib.ListN.{get_or}
use Rattle.model.specs.declared.WallPlacement.{WallPlacement}
use Rattle.model.specs.Report.{bytes, decimal, box_text, placement_line, kind_names, issue_line}

six_and_one : (a b c d e f g : List ℕ) → (a ++ b) ++ ((c ++ d) ++ ((e ++ f) ++ g)) ≡ a ++ (b ++ (c ++ (d ++ (e ++ (f ++ g)))))
six_and_one a b c d e f g = simp append_assoc

pub placement_line_in_parts : (k : ℕ) (p : WallPlacement)
    → (bytes "placement " ++ decimal k) ++ ((bytes " footprint" ++ box_text p.footprint) ++ ((bytes " collision" ++ box_text p.collision)
    ++ (bytes " issues " ++ (decimal p.issues ++ bytes "\n")))) ≡ placement_line k p
unfolding placement_line
placement_line_in_parts k p =
    six_and_one (bytes "placement ") (decimal k) (bytes " footprint") (box_text p.footprint) (bytes " collision") (box_text p.collision)
    (bytes " issues " ++ (decimal p.issues ++ bytes "\n"))

-- the line of an issue of kind k
pub issue_line_in_parts : (w k : ℕ) → w / 2 ^ 25 % 4 ≡ k → issue_line w ≡ bytes "issue " ++ (bytes (get_or kind_names k "") ++ (bytes " " ++ (decimal (w % 2 ^ 13) ++ bytes "\n")))
unfolding issue_line
issue_line_in_parts w k e = ap (λ (n : ℕ). bytes "issue " ++ (bytes (get_or kind_names n "") ++ (bytes " " ++ (decimal (w % 2 ^ 13) ++ bytes "\n")))) e
