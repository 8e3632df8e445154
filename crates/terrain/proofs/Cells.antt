-- Unwalkable cells: a run of cells stops a mover where one of them does, and cells that no mover in the window reaches stop none. Assumes nothing.
use mathlib.Core.Path.{◌≡◌, ap}
use mathlib.Core.Bool.{Bool, false, not, ◌&&◌, ◌||◌}
use mathlib.Core.List.{List}
use Prim.Native.Nat.{ℕ, ◌+◌, ◌-◌, ◌*◌, ◌/◌, ◌≤◌, ◌<◌}
use native.Mathlib.Omega.{arith}
use native.Mathlib.Decide.{dec_lt}
use lib.Dec.{T}
use lib.ListN.{get_or, length, take, drop}
use Rattle.std.proofs.lemmas.Grind.{common_steps}
use Rattle.std.proofs.lemmas.Bool.Decides.{nat_tests}
use Rattle.model.specs.declared.CollisionBounds.{CollisionBounds}
use Rattle.model.specs.Boxes.{meets, around}
use Rattle.model.specs.Ground.{walkable}
use Rattle.stamps.specs.declared.Frame.{Frame}
use Rattle.stamps.specs.Stamps.{stop, among, flat}
use Rattle.stamps.proofs.Some.{Passing, passing, passed, among_join, among_same}
use Rattle.terrain.specs.Terrain.{cell_at, run_stops, line_stops, row_stops, NextCell}

-- the mover's box at (x, y) meets the rectangle from column l up to r and row t up to b
pub record Reaches (m : CollisionBounds) (x y l t r b : ℕ) : Type 0 where
  pub before : x < r + m.left
  pub after : l ≤ x + m.right
  pub above : y < b + m.top
  pub below : t ≤ y + m.bottom

module _ (m : CollisionBounds) (x y l t r b : ℕ) where
  pub reaches : T (meets (around m x y) (flat l t r b)) → Reaches m x y l t r b
  unfolding meets
  reaches h = grind (arith, nat_tests)

  pub reached : Reaches m x y l t r b → T (meets (around m x y) (flat l t r b))
  unfolding meets
  reached k = grind (arith, nat_tests)

module _ (f : Frame) (m : CollisionBounds) (row from to : ℕ) (x y : ℕ) where
  abbrev X : ℕ
  X = f.left + x

  abbrev Y : ℕ
  Y = f.top + y

  abbrev stopped : ℕ → Bool
  stopped c = stop f m (cell_at c row) x y

  -- the first cell of the run, or the one that the mover's near side lies in
  some_cell : from < to → Reaches m X Y (8 * from) (8 * row) (8 * to) (8 * row + 8) → Passing from to stopped
  some_cell h k = pick (dec_lt X (8 * from + 8 + m.left))
    where
      at : (c : ℕ) → X < 8 * c + 8 + m.left → 8 * c ≤ X + m.right → T (stopped c)
      at c p q = reached m X Y (8 * c) (8 * row) (8 * c + 8) (8 * row + 8) (record { before = p; after = q; above = k.above; below = k.below })

      pick : Dec (X < 8 * from + 8 + m.left) → Passing from to stopped
      pick (yes l) = record { number = from; low = omega arith; high = h; passes = at from l k.after }
      pick (no l) =
          record { number = (X - m.left) / 8; low = omega (arith, k.before); high = omega (arith, k.before); passes = at ((X - m.left) / 8) (omega (arith, k.before)) (omega (arith, k.before)) }

  whole : Passing from to stopped → Reaches m X Y (8 * from) (8 * row) (8 * to) (8 * row + 8)
  whole p = grind (arith, reaches m X Y (8 * p.number) (8 * row) (8 * p.number + 8) (8 * row + 8) p.passes)

  -- a run of cells stops the mover where one of its cells does
  pub run_stops_as_flat : from < to → stop f m (flat (8 * from) (8 * row) (8 * to) (8 * row + 8)) x y ≡ run_stops f m row from to x y
  run_stops_as_flat h = grind (arith, passed stopped, some_cell h, reaches m X Y (8 * from) (8 * row) (8 * to) (8 * row + 8), reached m X Y (8 * from) (8 * row) (8 * to) (8 * row + 8), whole, passing stopped from to)

-- From a column on, the cells up to `from` are walkable, and those from there up to `to` are not: what the row stops up to `to` is what it stops up to the column, and the run.
module _ (f : Frame) (m : CollisionBounds) (line : List ℕ) (row first column from to end : ℕ) (gap : NextCell line column end 0 from) (run : NextCell line from end 1 to) where
  pub next_run : first ≤ column → (x y : ℕ) → x < f.width → y < f.height → line_stops f m line row first column x y || run_stops f m row from to x y ≡ line_stops f m line row first to x y
  next_run h x y hx hy =
      let test : ℕ → Bool = λ c. not (walkable (get_or line c 0)) && stop f m (cell_at c row) x y in
      let before : (c : ℕ) → column ≤ c → c < from → test c ≡ false = λ c l u. grind (arith, nat_tests, gap.before c l u) in
      let within : (c : ℕ) → from ≤ c → c < to → test c ≡ stop f m (cell_at c row) x y = λ c l u. grind (arith, nat_tests, run.before c l u) in
      grind (arith, among_join test first column to, among_join test column from to, among_same test (λ c. false) column from before, among_same test (λ c. stop f m (cell_at c row) x y) from to within, nothing column from)
    where
      nothing : (a b : ℕ) → among a b (λ c. false) ≡ false
      nothing a b = grind (arith, passing (λ c. false) a b)

-- a row's cells up to `to`, cut out of the map's
pub line_in_row : (f : Frame) (m : CollisionBounds) (cells : List ℕ) (width row from to n : ℕ) → n ≡ to → row * width + to ≤ length cells → (x y : ℕ) → x < f.width → y < f.height
    → line_stops f m (take n (drop (row * width) cells)) row from (length (take n (drop (row * width) cells))) x y ≡ row_stops f m cells width row from to x y
line_in_row f m cells width row from to n e room x y hx hy =
    let line : List ℕ = take n (drop (row * width) cells) in
    let long : length line ≡ to = grind (arith, common_steps) in
    let at : (k : ℕ) → k < to → get_or line k 0 ≡ get_or cells (row * width + k) 0 = λ k h. grind (arith, common_steps) in
    rw long (among_same _ _ from to (λ k l u. ap (λ (c : ℕ). not (walkable c) && stop f m (cell_at k row) x y) (at k u)))
