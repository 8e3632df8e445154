-- A building's sides on one axis. Assumes nothing.
use Rattle.std.specs.Prelude.{Option, Some, None, Bool, ◌&&◌, cond, ℕ, ◌+◌, ◌*◌, ℤ, pos, ◌-ℤ◌}
use Rattle.model.specs.Boxes.{in_i32}
use Rattle.axes.specs.declared.Sides.{Sides}

-- i32 holds all four sides
abbrev pub held : ℤ → ℤ → ℤ → ℤ → Bool
held left right low high = (in_i32 left && in_i32 right) && (in_i32 low && in_i32 high)

unfoldable pub sides_if : ℤ → ℤ → ℤ → ℤ → Option Sides
sides_if left right low high = cond (held left right low high) (Some (record { left = left; right = right; low = low; high = high })) None

-- The footprint's sides start at 32 × tile and are 32 × the size apart; those of the collision box surround the center, which is 16 × the size past the start.
abbrev pub axis_of : ℕ → ℕ → ℕ → ℕ → Option Sides
axis_of tile size back ahead =
    sides_if (pos (32 * tile)) (pos (32 * tile + 32 * size)) (pos (32 * tile + 16 * size) -ℤ pos back) (pos (32 * tile + 16 * size + ahead + 1))
