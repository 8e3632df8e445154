-- Places and the centers that they are of. Assumes nothing.
use mathlib.Core.Path.{◌≡◌, ap}
use Prim.Native.Nat.{ℕ, zero, ◌+◌, ◌*◌, ◌/◌, ◌%◌, ◌<◌}
use native.Mathlib.Nat.{div-add-mod', mul_comm, mul-add-div_right, add-mul-mod_self_right, mod-eq_of_lt, div-eq_of_lt, add_comm}
use native.Mathlib.Omega.{arith}
use Rattle.numbers.proofs.Places.{row_below}
use Rattle.model.specs.declared.PixelPosition.{PixelPosition}
use Rattle.model.proofs.Chains.{position_path}
use Rattle.search.specs.Places.{center}

-- a center of the window has its place among the window's places
pub place_in : (w h x y : ℕ) → x < w → y < h → y * w + x < w * h
place_in w h x y l m = omega (arith, row_below w x y h l m, mul_comm h w)

-- a center's place gives it back
place_mod : (w x y : ℕ) → x < w → (y * w + x) % w ≡ x
place_mod w x y l = rw (add_comm (y * w) x, add-mul-mod_self_right x y w) (mod-eq_of_lt l)

place_div : (w x y : ℕ) → x < w → (y * w + x) / w ≡ y
place_div w x y l = let positive : zero < w = omega arith in omega (arith, mul-add-div_right positive y x, div-eq_of_lt l)

pub center_place : (w x y : ℕ) → x < w → center w (y * w + x) ≡ record { x = x; y = y }
center_place w x y l = position_path (place_mod w x y l) (place_div w x y l)

-- a center's place is its own
pub place_one : (w p q : ℕ) → center w p ≡ center w q → p ≡ q
place_one w p q e = cc (div-add-mod' p w, div-add-mod' q w, ap (λ (c : PixelPosition). c.x) e, ap (λ (c : PixelPosition). c.y) e)
