-- i32 holds a building's sides on both axes where it does so on each. Assumes nothing.
use mathlib.Core.Path.{◌≡◌, refl, sym, ◌∙◌}
use mathlib.Core.Bool.{Bool, true, false, not, cond, ◌&&◌, ◌||◌}
use lib.IntN.{ℤ}
use Rattle.model.specs.declared.WallBuilding.{WallBuilding}
use Rattle.std.specs.Prelude.{Option, Some, None}
use Rattle.std.proofs.lemmas.Option.{cond_some}
use Rattle.model.specs.Boxes.{in_i32, footprint_box, collision_box}
use Rattle.model.specs.Refusal.{outside, geometry_of}
use Rattle.axes.specs.declared.Sides.{Sides}
use Rattle.axes.specs.Axes.{held, sides_if, axis_of}

regroup : (a b c d : Bool) → a && b && c && d ≡ (a && c) && (b && d)
regroup true true c d = refl
regroup true false true d = refl
regroup true false false d = refl
regroup false b c d = refl

exchange : (a b c d : Bool) → not (a && b) || not (c && d) ≡ not (a && c) || not (b && d)
exchange true true true d = refl
exchange true true false d = refl
exchange true false true d = refl
exchange true false false d = refl
exchange false b c d = refl

or_true : (t : Bool) → t || true ≡ true
or_true true = refl
or_true false = refl

-- what an axis says of its test
module _ (left right low high : ℤ) where
  unheld : sides_if left right low high ≡ None → held left right low high ≡ false
  unfolding sides_if
  unheld e = by (held left right low high) e
    where
      by : (t : Bool) → cond {A = Option Sides} t (Some (record { left = left; right = right; low = low; high = high })) None ≡ None → t ≡ false
      by true h = cc
      by false h = refl

  held_sides : {s : Sides} → sides_if left right low high ≡ Some s → (held left right low high ≡ true) × (record { left = left; right = right; low = low; high = high } ≡ s)
  unfolding sides_if
  held_sides {s} e = cond_some (held left right low high) _ s e

-- i32 holds both boxes of a building where it holds the sides on each axis.
module _ (b : WallBuilding) where
  abbrev pub axis_x : Option Sides
  axis_x = axis_of b.tile.x b.footprint.width_tiles b.collision.left b.collision.right

  abbrev pub axis_y : Option Sides
  axis_y = axis_of b.tile.y b.footprint.height_tiles b.collision.top b.collision.bottom

  by_axes : outside (footprint_box b) || outside (collision_box b)
      ≡ not (held (footprint_box b).left (footprint_box b).right (collision_box b).left (collision_box b).right)
      || not (held (footprint_box b).top (footprint_box b).bottom (collision_box b).top (collision_box b).bottom)
  by_axes =
      let f = footprint_box b in
      let k = collision_box b in
      rw (
        regroup (in_i32 f.left) (in_i32 f.top) (in_i32 f.right) (in_i32 f.bottom),
        regroup (in_i32 k.left) (in_i32 k.top) (in_i32 k.right) (in_i32 k.bottom),
      ) (exchange (in_i32 f.left && in_i32 f.right) (in_i32 f.top && in_i32 f.bottom) (in_i32 k.left && in_i32 k.right) (in_i32 k.top && in_i32 k.bottom))

  pub overflow_x : {x : Option Sides} → x ≡ axis_x → x ≡ None → geometry_of b ≡ None
  overflow_x e o = rw (by_axes, unheld (footprint_box b).left (footprint_box b).right (collision_box b).left (collision_box b).right (sym e ∙ o))

  pub overflow_y : {y : Option Sides} → y ≡ axis_y → y ≡ None → geometry_of b ≡ None
  overflow_y e o = rw (by_axes, unheld (footprint_box b).top (footprint_box b).bottom (collision_box b).top (collision_box b).bottom (sym e ∙ o), or_true)

  pub both_fit : {x y : Option Sides} {s t : Sides} → x ≡ axis_x → x ≡ Some s → y ≡ axis_y → y ≡ Some t
      → geometry_of b ≡ Some (record { footprint = record { left = s.left; top = t.left; right = s.right; bottom = t.right }; collision = record { left = s.low; top = t.low; right = s.high; bottom = t.high } })
  both_fit e s f p =
      let i = held_sides (footprint_box b).left (footprint_box b).right (collision_box b).left (collision_box b).right (sym e ∙ s) in
      let j = held_sides (footprint_box b).top (footprint_box b).bottom (collision_box b).top (collision_box b).bottom (sym f ∙ p) in
      rw (by_axes, i.0, j.0, ← i.1, ← j.1)
