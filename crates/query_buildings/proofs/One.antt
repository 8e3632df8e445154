-- What one building shows of the lines from it on. Assumes nothing.
use mathlib.Core.Path.{◌≡◌, refl, sym, ◌∙◌}
use mathlib.Core.Bool.{Bool, true, false, cond, ◌||◌}
use mathlib.Core.List.{List, [], ◌∷◌, ◌++◌}
use Rattle.std.specs.Prelude.{Option, Some, None, Result, Ok, Err}
use Prim.Native.Nat.{ℕ, ◌+◌, ◌<◌, ◌≤◌}
use native.Mathlib.Numerals.{add-one}
use lib.ListN.{length, get_or, take, drop}
use Rattle.numbers.proofs.Front.{front_next, front_done}
use Rattle.model.specs.declared.WallBuilding.{WallBuilding}
use Rattle.model.specs.declared.BuildingGeometry.{BuildingGeometry}
use Rattle.model.specs.declared.WallError.{WallError}
use Rattle.model.specs.Boxes.{footprint_box, collision_box}
use Rattle.model.specs.Refusal.{given, first, outside, geometry_of, building_lines}
use Rattle.model.proofs.Lines.{stage_passed, stage_refused}

-- ---- buildings: the lines from i on are those of building i, and then those from i + 1 on
module _ (bs : List WallBuilding) (n i : ℕ) (d : WallBuilding) (m : i < n) (has : n ≤ length bs) where
  opened : first (building_lines i (drop i (take n bs))) ≡ first (building_lines i (get_or bs i d ∷ []) ++ building_lines (i + 1) (drop (i + 1) (take n bs)))
  unfolding building_lines
  opened = rw (front_next bs n i d m has, ← add-one i)

  pub building_passed : {A : Type 0} {o : Result A WallError} {x : A} → o ≡ Ok x → given o ≡ first (building_lines i (get_or bs i d ∷ []))
      → first (building_lines i (drop i (take n bs))) ≡ first (building_lines (i + 1) (drop (i + 1) (take n bs)))
  building_passed e h = opened ∙ stage_passed (building_lines i (get_or bs i d ∷ [])) _ e h

  pub building_refused : {A : Type 0} {o : Result A WallError} {e : WallError} → o ≡ Err e → given o ≡ first (building_lines i (get_or bs i d ∷ []))
      → first (building_lines i (drop i (take n bs))) ≡ given o
  building_refused e h = opened ∙ stage_refused (building_lines i (get_or bs i d ∷ [])) (building_lines (i + 1) (drop (i + 1) (take n bs))) e h

pub buildings_done : (bs : List WallBuilding) (n i : ℕ) → n ≤ i → first (building_lines i (drop i (take n bs))) ≡ None
unfolding first building_lines
buildings_done bs n i h = rw (front_done bs n i h)

-- ---- what a building's geometry shows of line 16
module _ (b : WallBuilding) {r : Option BuildingGeometry} (e : r ≡ geometry_of b) where
  pub overflows : r ≡ None → outside (footprint_box b) || outside (collision_box b) ≡ true
  overflows o = by (outside (footprint_box b) || outside (collision_box b)) (sym e ∙ o)
    where
      by : (t : Bool) → cond {A = Option BuildingGeometry} t None (Some (record { footprint = footprint_box b; collision = collision_box b })) ≡ None → t ≡ true
      by true h = refl
      by false h = cc

  pub fits : {x : BuildingGeometry} → r ≡ Some x → outside (footprint_box b) || outside (collision_box b) ≡ false
  fits {x} f = by (outside (footprint_box b) || outside (collision_box b)) (sym e ∙ f)
    where
      by : (t : Bool) → cond {A = Option BuildingGeometry} t None (Some (record { footprint = footprint_box b; collision = collision_box b })) ≡ Some x → t ≡ false
      by true h = cc
      by false h = refl
