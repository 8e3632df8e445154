-- The laws of the running sums. Assumes nothing.
use Rattle.std.proofs.Common.{ℕ, zero, suc, ◌+◌, ◌-◌, ◌*◌, ◌^◌, ◌<◌, ◌≡◌, List, get_or, arith}
use Rattle.grid.specs.Grid.{north, Differences, Counts, Summed}
use Rattle.numbers.proofs.Modulo.{◌≈◌}
use Rattle.numbers.proofs.Places.{row_below}

-- Two passes over a grid of differences, one place back and one row back, leave the counts.
module _ (s m : ℕ) (C : ℕ → ℕ → ℕ) (d e c : List ℕ) (D : Differences s m C d) (A : Summed 1 (m * s) d e) (B : Summed s (m * s) e c) where
  -- the first pass leaves the difference of each row and the row above
  abbrev RowAt : ℕ → ℕ → Type 0
  RowAt x y = get_or e (y * s + x) 0 + north C x y ≈ C x y

  row_next : (x y : ℕ) → suc x < s → y < m → RowAt x y → RowAt (suc x) y
  row_next x y hx hy h = grind (arith, D.mixed (suc x) y hx hy, A.added (y * s + x) (grind arith))

  -- the last column brings a row's sum back to 0
  row_ends : (x y : ℕ) → x + 1 ≡ s → y < m → RowAt x y → get_or e (y * s + x) 0 + 0 ≈ 0
  row_ends x zero hx hy h = grind (arith, D.closed x 0 hx hy)
  row_ends x (suc y) hx hy h = grind (arith, D.closed x (suc y) hx hy, D.closed x y hx (omega arith))

  row_starts : (x y : ℕ) → x + 1 ≡ s → suc y < m → RowAt x y → RowAt 0 (suc y)
  row_starts x y hx hy h = grind (arith, row_ends x y hx (omega arith) h, D.mixed 0 (suc y) (omega arith) hy, A.added (y * s + x) (omega (arith, row_below s 0 (suc y) m (omega arith) hy)))

  along : (y : ℕ) → y < m → RowAt 0 y → (x : ℕ) → x < s → RowAt x y
  along y hy h zero hx = h
  along y hy h (suc x) hx = row_next x y hx hy (along y hy h x (omega arith))

  rows : (y : ℕ) → y < m → (x : ℕ) → x < s → RowAt x y
  rows zero hy x hx = along 0 hy (grind (arith, A.first 0 (omega arith), D.mixed 0 0 (omega arith) hy)) x hx
  rows (suc y) hy x hx =
      along (suc y) hy (row_starts (s - 1) y (omega arith) hy (rows y (omega arith) (s - 1) (omega arith))) x hx

  -- the second pass adds the rows up
  columns : (y : ℕ) → y < m → (x : ℕ) → x < s → get_or c (y * s + x) 0 ≈ C x y
  columns zero hy x hx = grind (arith, B.first (0 * s + x) (omega arith), rows 0 hy x hx)
  columns (suc y) hy x hx = grind (arith, rows (suc y) hy x hx, columns y (omega arith) x hx, B.added (y * s + x) (omega (arith, row_below s x (suc y) m hx hy)))

  pub two_passes : ((k : ℕ) → get_or c k 0 < 2 ^ 32) → Counts s m C c
  two_passes small = record { count = λ x y hx hy. grind (arith, columns y hy x hx, small (y * s + x)) }
