-- The points of a list, one by one. Assumes nothing.
use mathlib.Core.Path.{◌≡◌, refl}
use mathlib.Core.Bool.{Bool, ◌&&◌}
use mathlib.Core.List.{List, map}
use Prim.Native.Nat.{ℕ, ◌+◌, ◌<◌}
use native.Mathlib.Numerals.{add-one}
use lib.ListN.{length, get_or, drop}
use lib.Seq.{drop-cons}
use Rattle.model.specs.declared.PixelPosition.{PixelPosition}
use Rattle.model.specs.Steps.{point_of}
use Rattle.model.specs.RouteTest.{follows, leads_to}

-- the points of a list from i on
module _ (free : ℕ → ℕ → Bool) (e : PixelPosition) (list : List ℕ) where
  abbrev pub From : ℕ → Bool
  From i = leads_to free e (point_of (get_or list i 0)) (map point_of (drop (i + 1) list))

  from_next : (i : ℕ) → i + 1 < length list → From i ≡ (free (point_of (get_or list i 0)).x (point_of (get_or list i 0)).y && follows free (point_of (get_or list i 0)) (point_of (get_or list (i + 1) 0))) && From (i + 1)
  unfolding leads_to
  from_next i h = rw (drop-cons list (i + 1) 0 h, add-one (i + 1)) refl

  -- what is told of points i and i + 1 decides where it is no, and else what follows does
  pub from_told : (i : ℕ) (p q : PixelPosition) (r : Bool) → i + 1 < length list → p ≡ point_of (get_or list i 0) → q ≡ point_of (get_or list (i + 1) 0) → r ≡ free p.x p.y && follows free p q → From i ≡ r && From (i + 1)
  from_told i p q r h ep eq e = rw (e, ep, eq) (from_next i h)
