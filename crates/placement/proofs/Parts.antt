-- The issue words of a building are those of the ground, of the obstacles and of the other buildings, one part behind the other. Assumes nothing.
use mathlib.Core.Path.{◌≡◌, ap, sym, ◌∙◌}
use mathlib.Core.List.{List, ◌++◌, map, append_assoc, map-append}
use Prim.Native.Nat.{ℕ, ◌+◌, ◌<◌}
use native.Mathlib.Omega.{arith}
use lib.ListN.{length, get_or, length-append, length-map}
use Rattle.model.specs.declared.BuildingGeometry.{BuildingGeometry}
use Rattle.model.specs.declared.Plan.{Plan}
use Rattle.model.specs.declared.WallBuilding.{WallBuilding}
use Rattle.model.specs.Accepted.{boxes_of}
use Rattle.model.specs.Boxes.{footprint_box}
use Rattle.model.specs.Ground.{Ground, obstacles, built}
use Rattle.model.specs.Packed.{no_building}
use Rattle.model.specs.Placement.{bad_cells, issues_of, issue_word}
use Rattle.placement_issues.specs.Words.{Put, ground_words, obstacle_words, building_words}
use Rattle.placement_issues.proofs.Plans.{built_at}
use Rattle.placement.specs.Assessed.{Assessable, OneAssessed, building_at}

-- building k, as the program has it from its place
module _ {g : Ground} {plan : Plan} (s : Assessable g plan) (room : length plan.buildings ≡ 32) (k : ℕ) (h : k < plan.count) where
  abbrev b : WallBuilding
  b = get_or plan.buildings k no_building

  is_building : building_at plan k ≡ b
  is_building = built_at s.fitting room k h

  abbrev on_ground : List ℕ
  on_ground = ground_words g.width g.height g.cells k b

  abbrev on_obstacles : List ℕ
  on_obstacles = obstacle_words k (footprint_box b) (obstacles g)

  abbrev on_buildings : List ℕ
  on_buildings = building_words k (footprint_box b) (built plan)

  parts : map (issue_word k) (issues_of g (built plan) k b) ≡ (on_ground ++ on_obstacles) ++ on_buildings
  unfolding issues_of bad_cells
  parts = simp (map-append, append_assoc)

  -- the parts are as long as all words
  pub counted : length (issues_of g (built plan) k (building_at plan k)) ≡ length on_ground + length on_obstacles + length on_buildings
  counted =
      rw is_building
      (omega (
        arith,
        length-map (issues_of g (built plan) k b) (issue_word k),
        ap length parts,
        length-append (on_ground ++ on_obstacles) on_buildings,
        length-append on_ground on_obstacles,
      ))

  -- the boxes, and one part behind the other
  pub assessed : {f : BuildingGeometry} {was now : List ℕ} {n : ℕ} → f ≡ boxes_of b → Put ((on_ground ++ on_obstacles) ++ on_buildings) was now n
      → OneAssessed g plan k was now (record { footprint = f.footprint; collision = f.collision; issues = n })
  assessed {n = n} e p =
      let count : n ≡ length (issues_of g (built plan) k b) = p.count ∙ (sym (ap length parts) ∙ length-map (issues_of g (built plan) k b) (issue_word k)) in
      record {
        placed = rw is_building (λ i. record { footprint = (e i).footprint; collision = (e i).collision; issues = count i });
        put = rw (is_building, parts) p;
      }
