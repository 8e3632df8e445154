-- The buildings of a plan whose boxes i32 holds. Assumes nothing.
use mathlib.Core.Path.{◌≡◌, subst}
use Prim.Native.Nat.{ℕ, ◌<◌}
use native.Mathlib.Omega.{arith}
use lib.ListN.{length, get_or}
use lib.Seq.{get_or-take, length-take-le}
use Rattle.model.specs.declared.WallBuilding.{WallBuilding}
use Rattle.std.specs.Prelude.{Some}
use Rattle.model.specs.declared.Plan.{Plan}
use Rattle.model.specs.Ground.{built}
use Rattle.model.specs.Refusal.{geometry_of}
use Rattle.model.specs.Packed.{no_building}
use Rattle.model.specs.Accepted.{Fitting, boxes_of}

module _ {p : Plan} (fitting : Fitting p) (room : length p.buildings ≡ 32) where
  -- it has as many as it counts
  pub built_length : length (built p) ≡ p.count
  built_length = length-take-le p.count p.buildings (omega (arith, fitting.count))

  module _ (i : ℕ) (h : i < p.count) where
    pub built_at : get_or (built p) i no_building ≡ get_or p.buildings i no_building
    built_at = get_or-take p.count p.buildings i no_building h

    -- the boxes of each are held by i32
    pub fits_at : geometry_of (get_or p.buildings i no_building) ≡ Some (boxes_of (get_or p.buildings i no_building))
    fits_at = subst (λ (b : WallBuilding). geometry_of b ≡ Some (boxes_of b)) built_at (fitting.each_building i no_building (omega (arith, built_length)))
