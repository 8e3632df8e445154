-- Whether i32 holds a building's sides on one axis, by naturals. Assumes nothing.
use mathlib.Core.Path.{◌≡◌, refl}
use mathlib.Core.Bool.{Bool, true, false, ◌&&◌}
use Prim.Native.Nat.{ℕ, ◌+◌, ◌*◌, ◌^◌, ◌≤◌, ◌<◌}
use native.Mathlib.Omega.{arith}
use lib.IntN.{ℤ, pos, negsuc, ◌-ℤ◌}
use mir.Facts.{to_z-of_z, to_z_pos}
use mir.Syntax.{w32, w64}
use mir.Val.{SFits, to_z, of_z}
use Rattle.numbers.specs.Integers.{up, dn}
use Rattle.numbers.proofs.Integers.{apart, sub_nat, le_le_z, lt_le_z, nat_fits}
use Rattle.model.specs.Boxes.{in_i32}
use Rattle.std.specs.Prelude.{Some, None}
use Rattle.axes.specs.Axes.{sides_if, axis_of}

fits_in_i32 : (z : ℤ) → up z ≤ 2147483647 → dn z ≤ 2147483648 → in_i32 z ≡ true
fits_in_i32 z h k = rw (le_le_z (negsuc 2147483647) z (omega arith), le_le_z z (pos 2147483647) (omega arith))

over_i32 : (n : ℕ) → 2147483647 < n → in_i32 (pos n) ≡ false
over_i32 n h = rw (lt_le_z (pos n) (pos 2147483647) (omega arith))

under_i32 : (z : ℤ) → 2147483648 + up z < dn z → in_i32 z ≡ false
under_i32 z h = rw (lt_le_z (negsuc 2147483647) z (omega arith))

and_false : (t : Bool) → t && false ≡ false
and_false true = refl
and_false false = refl

module _ (tile size back ahead : ℕ) where
  pub axis_right : 2147483647 < 32 * tile + 32 * size → axis_of tile size back ahead ≡ None
  unfolding sides_if
  axis_right h = rw (over_i32 (32 * tile + 32 * size) h, and_false)

  pub axis_high : 2147483647 < 32 * tile + 16 * size + ahead + 1 → axis_of tile size back ahead ≡ None
  unfolding sides_if
  axis_high h = rw (over_i32 (32 * tile + 16 * size + ahead + 1) h, and_false, and_false)

  pub axis_low : 32 * tile + 16 * size + 2147483648 < back → axis_of tile size back ahead ≡ None
  unfolding sides_if
  axis_low h =
      let low = pos (32 * tile + 16 * size) -ℤ pos back in
      let e = sub_nat (pos (32 * tile + 16 * size)) (pos back) in
      rw (under_i32 low (omega arith), and_false)

  pub axis_fits : 32 * tile + 32 * size ≤ 2147483647 → 32 * tile + 16 * size + ahead + 1 ≤ 2147483647 → back ≤ 32 * tile + 16 * size + 2147483648
      → axis_of tile size back ahead ≡ Some (record { left = pos (32 * tile); right = pos (32 * tile + 32 * size); low = pos (32 * tile + 16 * size) -ℤ pos back; high = pos (32 * tile + 16 * size + ahead + 1) })
  unfolding sides_if
  axis_fits h k b =
      let low = pos (32 * tile + 16 * size) -ℤ pos back in
      let e = sub_nat (pos (32 * tile + 16 * size)) (pos back) in
      let z = apart low in
      rw (
        fits_in_i32 (pos (32 * tile)) (omega arith) (omega arith),
        fits_in_i32 (pos (32 * tile + 32 * size)) (omega arith) (omega arith),
        fits_in_i32 low (omega arith) (omega arith),
        fits_in_i32 (pos (32 * tile + 16 * size + ahead + 1)) (omega arith) (omega arith),
      )

-- the machine reads the difference of two naturals, which i32 holds, back as it is
pub less : (n k : ℕ) → n < 2147483648 → k < 2 ^ 32 → k ≤ n + 2147483648 → to_z w32 (of_z w32 (to_z w64 (of_z w64 (to_z w64 n -ℤ to_z w64 k)))) ≡ pos n -ℤ pos k
less n k h l m =
    let z = pos n -ℤ pos k in
    let e = sub_nat (pos n) (pos k) in
    let wide : SFits w64 z = nat_fits (omega (arith, e, apart z)) in
    let narrow : SFits w32 z = nat_fits (omega (arith, e, apart z)) in
    rw (to_z_pos w64 {n = n} (omega arith), to_z_pos w64 {n = k} (omega arith), to_z-of_z wide, to_z-of_z narrow)
