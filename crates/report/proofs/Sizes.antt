-- How long the pieces of a report can be, every number counted at 20 digits, and that `report_room` holds the longest. Assumes nothing.
use mathlib.Core.Bool.{Bool, true, false, cond}
use mathlib.Core.List.{List, [], ◌∷◌, ◌++◌, flat_map}
use Prim.Native.Nat.{ℕ, zero, suc, ◌+◌, ◌*◌, ◌/◌, ◌%◌, ◌^◌, ◌≤◌}
use Prim.Native.String.{String}
use native.Mathlib.Nat.{suc-mul}
use native.Mathlib.Omega.{arith}
use lib.Dec.{ltb, leb, leb→le}
use lib.IntN.{ℤ, pos, negsuc}
use lib.ListN.{length, take, drop, get_or, length-append, length-take}
use Rattle.numbers.proofs.Tests.{all_at}
use Rattle.model.specs.declared.Passed.{Passed}
use Rattle.model.specs.declared.PixelRect.{PixelRect}
use Rattle.model.specs.declared.WallCheck.{WallCheck}
use Rattle.model.specs.declared.WallPassage.{WallPassage}
use Rattle.model.specs.declared.WallPassage.TheVariants.{StartBlocked, EndBlocked, Open, AlreadyDisconnected, BlockedWithinWindow}
use Rattle.model.specs.declared.WallPlacement.{WallPlacement}
use Rattle.model.specs.Report.{bytes, digits, decimal, spaced, box_text, placement_line, kind_names, issue_line, placement_lines, point_line, report_text, refused_text}
use Rattle.report_passage.specs.Passage.{verdict_text, passage_text}
use Rattle.report.specs.Printing.{issue_sum, report_room, refused_room, Printable}
use Rattle.report.proofs.Lines.{report_length}

digits_few : (k n : ℕ) → length (digits k n) ≤ k
unfolding digits
digits_few zero n = omega arith
digits_few (suc k) n = pick (digits_few k (n / 10)) (ltb n 10)
  where
    pick : length (digits k (n / 10)) ≤ k → (t : Bool) → length (cond t ((48 + n) ∷ []) (digits k (n / 10) ++ ((48 + n % 10) ∷ []))) ≤ suc k
    pick h true = omega arith
    pick h false = omega (arith, length-append (digits k (n / 10)) ((48 + n % 10) ∷ []))

decimal_short : (n : ℕ) → length (decimal n) ≤ 20
decimal_short n = digits_few 20 n

spaced_short : (z : ℤ) → length (spaced z) ≤ 22
spaced_short (pos n) = omega (arith, decimal_short n)
spaced_short (negsuc n) = omega (arith, decimal_short (suc n))

box_short : (r : PixelRect) → length (box_text r) ≤ 88
box_short r = simp length-append (omega (arith, spaced_short r.left, spaced_short r.top, spaced_short r.right, spaced_short r.bottom))

placement_short : (k : ℕ) (p : WallPlacement) → length (placement_line k p) ≤ 255
unfolding placement_line
placement_short k p =
    omega (arith, length-append {A = ℕ}, decimal_short k, box_short p.footprint, box_short p.collision, decimal_short p.issues)

kind_short : (k : ℕ) → length (bytes (get_or kind_names k "")) ≤ 18
kind_short k = leb→le _ 18 (all_at (λ (s : String). leb (length (bytes s)) 18) "" tt kind_names k tt)

issue_short : (w : ℕ) → length (issue_line w) ≤ 46
unfolding issue_line
issue_short w =
    simp length-append (omega (arith, kind_short (w / 2 ^ 25 % 4), decimal_short (w % 2 ^ 13)))

point_short : (w : ℕ) → length (point_line w) ≤ 42
unfolding point_line
point_short w = simp length-append (omega (arith, decimal_short (w / 65536), decimal_short (w % 65536)))

verdict_short : (p : WallPassage) → length (verdict_text p) ≤ 27
verdict_short StartBlocked = omega arith
verdict_short EndBlocked = omega arith
verdict_short Open = omega arith
verdict_short AlreadyDisconnected = omega arith
verdict_short BlockedWithinWindow = omega arith

passage_short : (p : Passed) → length (passage_text p) ≤ 66
passage_short p = pick p.baseline_passable
  where
    pick : (b : Bool) → length (verdict_text p.passage ++ (bytes "\nbaseline " ++ (cond b (bytes "1") (bytes "0") ++ (bytes "\nroute " ++ (decimal p.points ++ bytes "\n"))))) ≤ 66
    pick true = simp length-append (omega (arith, verdict_short p.passage, decimal_short p.points))
    pick false = simp length-append (omega (arith, verdict_short p.passage, decimal_short p.points))

-- lines of at most m bytes each
lines_short : (f : ℕ → List ℕ) (m : ℕ) → ((w : ℕ) → length (f w) ≤ m) → (l : List ℕ) → length (flat_map f l) ≤ length l * m
unfolding flat_map
lines_short f m h [] = omega arith
lines_short f m h (w ∷ l) = omega (arith, h w, lines_short f m h l, length-append (f w) (flat_map f l), suc-mul (length l) m)

placements_short : (k : ℕ) (ps : List WallPlacement) (words : List ℕ) → length (placement_lines k ps words) ≤ 255 * length ps + 46 * issue_sum ps
unfolding placement_lines
placements_short k [] words = omega arith
placements_short k (p ∷ ps) words =
    simp length-append
    (omega (
      arith,
      placement_short k p,
      lines_short issue_line 46 issue_short (take p.issues words),
      length-take p.issues words,
      placements_short (suc k) ps (drop p.issues words),
    ))

-- the longest report of the program fits its room
pub report_short : (ps : List WallPlacement) (issues : List ℕ) (p : Passed) (points : List ℕ) → length ps ≤ 32 → issue_sum ps ≤ 2080 → length points ≤ 1600
    → length (report_text ps issues p points) ≤ report_room
report_short ps issues p points buildings words many =
    omega (
      arith,
      report_length ps issues p points,
      placements_short 0 ps issues,
      passage_short p,
      lines_short point_line 42 point_short points,
    )

-- so do its pieces, one behind the other
pub pieces_fit : {check : WallCheck} {count : ℕ} {issues route out : List ℕ} → Printable check count issues route out
    → length (bytes "check ok\n") + (length (placement_lines 0 (take count check.placements) issues) + (length (passage_text check.passed)
    + length (flat_map point_line (take check.passed.points route)))) ≤ length out
pieces_fit {check} {count} {issues} {route} {out} p =
    let placed = take count check.placements in
    let points = take check.passed.points route in
    omega (
      arith,
      p,
      report_length placed issues check.passed points,
      report_short placed issues check.passed points (omega (arith, p, length-take count check.placements)) p.issues_few (omega (arith, p, length-take check.passed.points route)),
    )

-- a refusal fits its room
pub refused_short : (n : ℕ) → length (refused_text n) ≤ refused_room
unfolding refused_text
refused_short n = simp length-append (omega (arith, decimal_short n))
