-- The issue words and the placements of all buildings, gathered one part for each. Assumes nothing.
use mathlib.Core.Path.{◌≡◌, refl, ap}
use mathlib.Core.List.{List, [], ◌∷◌, ◌++◌, map}
use Prim.Native.Nat.{ℕ, suc}
use Rattle.model.specs.declared.WallBuilding.{WallBuilding}
use Rattle.model.specs.declared.WallPlacement.{WallPlacement}
use Rattle.model.specs.Ground.{Ground}
use Rattle.model.specs.Placement.{issue_word, issues_of, placement_of, placements_from, words_from}
use Rattle.placement_issues.proofs.Each.{each_from}

module _ (g : Ground) (bs : List WallBuilding) where
  -- the issue words of a building
  abbrev pub building_part : ℕ → WallBuilding → List ℕ
  building_part k b = map (issue_word k) (issues_of g bs k b)

  pub words_each : (k : ℕ) (cs : List WallBuilding) → words_from g bs k cs ≡ each_from building_part k cs
  unfolding words_from
  words_each k [] = refl
  words_each k (c ∷ cs) = ap (λ (ws : List ℕ). building_part k c ++ ws) (words_each (suc k) cs)

  abbrev pub placement_part : ℕ → WallBuilding → List WallPlacement
  placement_part k b = placement_of g bs k b ∷ []

  pub placements_each : (k : ℕ) (cs : List WallBuilding) → placements_from g bs k cs ≡ each_from placement_part k cs
  unfolding placements_from
  placements_each k [] = refl
  placements_each k (c ∷ cs) = ap (λ (ps : List WallPlacement). placement_of g bs k c ∷ ps) (placements_each (suc k) cs)
