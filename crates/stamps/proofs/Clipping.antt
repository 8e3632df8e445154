-- A blocker, widened by the mover and then clipped to the window, covers exactly the window's centers at which the mover meets it: one axis at a time.
-- Assumes nothing.
use Rattle.std.proofs.Common.{◌≡◌, ◌&&◌, Bool, ℕ, ◌+◌, ◌-◌, ◌*◌, ◌<◌, min, leb, ltb, ℤ, pos, ◌-ℤ◌, arith}
use Rattle.std.proofs.lemmas.Bool.Decides.{nat_tests}
use lib.Signed.{lt_z}
use Rattle.numbers.specs.Integers.{up, dn}
use Rattle.numbers.proofs.Places.{one_if}
use Rattle.model.specs.declared.PixelRect.{PixelRect}
use Rattle.model.specs.declared.CollisionBounds.{CollisionBounds}
use Rattle.model.specs.Boxes.{meets}
use Rattle.grid.specs.Grid.{within, box}
use Rattle.stamps.specs.declared.Frame.{Frame}
use Rattle.stamps.specs.declared.Raised.{Raised}
use Rattle.stamps.specs.declared.Span.{Span}
use Rattle.stamps.specs.Stamps.{stop, Carried, clipped}

-- the first place from which the mover reaches the near side
near : (z : ℤ) (n after start x : ℕ) → n + dn z ≡ 4294967296 + up z → leb (n - (4294967296 + after + start)) x ≡ lt_z z (pos (start + x + after + 1))
near z n after start x e = grind (arith, nat_tests)

-- the last place from which it reaches the far side
far : (z : ℤ) (n before start size x : ℕ) → n + dn z ≡ 4294967296 + up z → x < size
    → ltb x (min (n + before - (4294967296 + start)) size) ≡ lt_z (pos (start + x) -ℤ pos before) z
far z n before start size x e h = grind (arith, nat_tests)

-- a place is covered where both axes hold it, with the sides in the order of `meets`
four_sides : (a b c d : Bool) → ltb 0 (one_if (a && b) * one_if (c && d)) ≡ b && a && d && c
four_sides a b c d = grind (arith, nat_tests)

module _ (f : Frame) (m : CollisionBounds) (b : PixelRect) (r : Raised) (k : Carried b r) where
  abbrev columns : Span
  columns = clipped r.left r.right m.left m.right f.left f.width

  abbrev rows : Span
  rows = clipped r.top r.bottom m.top m.bottom f.top f.height

  pub stops_clipped : (x y : ℕ) → x < f.width → y < f.height → ltb 0 (box columns.from rows.from columns.to rows.to x y) ≡ stop f m b x y
  unfolding within meets
  stops_clipped x y hx hy =
      rw (
        near b.left r.left m.right f.left x k.left,
        far b.right r.right m.left f.left f.width x k.right hx,
        near b.top r.top m.bottom f.top y k.top,
        far b.bottom r.bottom m.top f.top f.height y k.bottom hy,
      )
      (search four_sides)
