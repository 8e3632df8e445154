-- A loop that puts the placements' lines: building i is next, and its issues' words are the first of those that are left, or no building is left. Assumes nothing.
use mathlib.Core.Path.{◌≡◌, ap, subst, ◌∙◌}
use mathlib.Core.List.{List, ◌∷◌, ◌++◌, flat_map}
use Prim.Native.Nat.{ℕ, ◌+◌, ◌≤◌, ◌<◌}
use native.Mathlib.Numerals.{add-one}
use native.Mathlib.Omega.{arith}
use lib.ListN.{length, take, drop, get_or, length-drop, drop_of_length-le}
use lib.Seq.{drop-cons}
use Rattle.model.specs.declared.WallPlacement.{WallPlacement}
use Rattle.model.specs.Check.{no_placement}
use Rattle.model.specs.Report.{placement_line, issue_line, placement_lines}
use Rattle.report.specs.Printing.{issue_sum}
use Rattle.text.specs.Writing.{Wrote}
use Rattle.text.proofs.Chain.{Going, started, went, ended, said, next_fits}

abbrev nth : List WallPlacement → ℕ → WallPlacement
nth ps i = get_or ps i no_placement

next_building : (ps : List WallPlacement) (i : ℕ) → i < length ps → drop i ps ≡ nth ps i ∷ drop (i + 1) ps
next_building ps i h = rw (add-one i, drop-cons ps i no_placement h)

-- the lines of the buildings from i on are left, and so are the words of their issues
pub record BuildingsLeft (ps : List WallPlacement) (words : List ℕ) (i : ℕ) (left a : List ℕ) (at : ℕ) (b : List ℕ) (j : ℕ) : Type 0 where
  pub words_there : issue_sum (drop i ps) ≤ length left
  pub lines_left : Going a at (placement_lines 0 ps words) (placement_lines i (drop i ps) left) b j

pub all_left : (ps : List WallPlacement) (words a : List ℕ) (at : ℕ) → issue_sum ps ≤ length words → BuildingsLeft ps words 0 words a at a at
all_left ps words a at h = record { words_there = h; lines_left = started a at (placement_lines 0 ps words) }

module _ {ps : List WallPlacement} {words left a b : List ℕ} {i at j : ℕ} (g : BuildingsLeft ps words i left a at b j) where
  sum_next : i < length ps → issue_sum (drop i ps) ≡ (nth ps i).issues + issue_sum (drop (i + 1) ps)
  sum_next h = ap issue_sum (next_building ps i h)

  pub own_words_there : i < length ps → (nth ps i).issues ≤ length left
  own_words_there h = omega (arith, g.words_there, sum_next h)

  one_building : i < length ps
      → Going a at (placement_lines 0 ps words) (placement_line i (nth ps i) ++ (flat_map issue_line (take (nth ps i).issues left)
      ++ placement_lines (i + 1) (drop (i + 1) ps) (drop (nth ps i).issues left))) b j
  unfolding placement_lines
  one_building h =
      subst (λ (t : List ℕ). Going a at (placement_lines 0 ps words) t b j)
      (ap (λ (qs : List WallPlacement). placement_lines i qs left) (next_building ps i h) ∙ rw (add-one i)) g.lines_left

  pub placement_fits : {n : ℕ} → i < length ps → at + length (placement_lines 0 ps words) ≤ n → j + length (placement_line i (nth ps i)) ≤ n
  placement_fits h room = next_fits (placement_line i (nth ps i)) _ (one_building h) room

  pub issues_fit : {own c : List ℕ} {k n : ℕ} → i < length ps → own ≡ take (nth ps i).issues left → Wrote b j (placement_line i (nth ps i)) c k
      → at + length (placement_lines 0 ps words) ≤ n → k + length (flat_map issue_line own) ≤ n
  issues_fit h e put room = rw e (next_fits (flat_map issue_line (take (nth ps i).issues left)) _ (went (one_building h) put) room)

  pub building_put : {own others c d : List ℕ} {k m : ℕ} → i < length ps → own ≡ take (nth ps i).issues left → others ≡ drop (nth ps i).issues left
      → Wrote b j (placement_line i (nth ps i)) c k → Wrote c k (flat_map issue_line own) d m → BuildingsLeft ps words (i + 1) others a at d m
  building_put h e f put issues = record {
    words_there = rw f (omega (arith, g.words_there, sum_next h, length-drop (nth ps i).issues left));
    lines_left = rw f (went (went (one_building h) put) (said (ap (flat_map issue_line) e) issues));
  }

  pub no_building_left : length ps ≤ i → Wrote a at (placement_lines 0 ps words) b j
  unfolding placement_lines
  no_building_left h =
      ended
      (subst (λ (t : List ℕ). Going a at (placement_lines 0 ps words) t b j)
      (ap (λ (qs : List WallPlacement). placement_lines i qs left) (drop_of_length-le ps h)) g.lines_left)
