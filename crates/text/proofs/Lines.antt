-- A loop that puts a line for each word. Assumes nothing.
use mathlib.Core.Path.{ap, subst, ◌∙◌}
use mathlib.Core.List.{List, ◌++◌, flat_map}
use Prim.Native.Nat.{ℕ, ◌+◌, ◌≤◌, ◌<◌}
use native.Mathlib.Numerals.{add-one}
use lib.ListN.{length, drop, get_or, drop_of_length-le}
use lib.Seq.{drop-cons}
use Rattle.text.specs.Writing.{Wrote}
use Rattle.text.proofs.Chain.{Going, started, went, next_fits, ended}

-- the lines from word i on are left
pub record LinesLeft (f : ℕ → List ℕ) (words : List ℕ) (i : ℕ) (a : List ℕ) (at : ℕ) (b : List ℕ) (j : ℕ) : Type 0 where
  pub lines_left : Going a at (flat_map f words) (flat_map f (drop i words)) b j

pub all_left : (f : ℕ → List ℕ) (words a : List ℕ) (at : ℕ) → LinesLeft f words 0 a at a at
all_left f words a at = record { lines_left = started a at (flat_map f words) }

module _ {f : ℕ → List ℕ} {words a b : List ℕ} {i at j : ℕ} (g : LinesLeft f words i a at b j) where
  one_line : i < length words → Going a at (flat_map f words) (f (get_or words i 0) ++ flat_map f (drop (i + 1) words)) b j
  unfolding flat_map
  one_line h =
      subst (λ (t : List ℕ). Going a at (flat_map f words) t b j) (ap (flat_map f) (drop-cons words i 0 h) ∙ rw (add-one i)) g.lines_left

  pub line_fits : {n : ℕ} → i < length words → at + length (flat_map f words) ≤ n → j + length (f (get_or words i 0)) ≤ n
  line_fits h room = next_fits (f (get_or words i 0)) (flat_map f (drop (i + 1) words)) (one_line h) room

  pub line_put : {c : List ℕ} {k : ℕ} → i < length words → Wrote b j (f (get_or words i 0)) c k → LinesLeft f words (i + 1) a at c k
  line_put h w = record { lines_left = went (one_line h) w }

  pub no_line_left : length words ≤ i → Wrote a at (flat_map f words) b j
  unfolding flat_map
  no_line_left h = ended (subst (λ (t : List ℕ). Going a at (flat_map f words) t b j) (ap (flat_map f) (drop_of_length-le words h)) g.lines_left)
