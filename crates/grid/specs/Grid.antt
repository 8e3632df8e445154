-- What a difference grid says. A grid of s columns and m rows lies in a list row by row: the entry of column x and row y stands at y * s + x.
-- A count C says of each column and row how many rectangles cover it: `no_box` before any is stamped, `plus_box` with one more. Assumes nothing.
use Rattle.std.specs.Prelude.{◌≡◌, ℕ, zero, suc, ◌+◌, ◌*◌, ◌%◌, ◌^◌, ◌<◌, ◌≤◌, ◌&&◌, List, drop, nat_le, nat_lt, slice_index, slice_set}
use Rattle.numbers.proofs.Modulo.{◌≈◌}
use Rattle.numbers.proofs.Places.{one_if}

-- 1 for each x from l up to, not including, r
unfoldable pub within : ℕ → ℕ → ℕ → ℕ
within l r x = one_if (nat_le l x && nat_lt x r)

-- 1 for each place from column l up to r and row t up to b, both ends half open
abbrev pub box : ℕ → ℕ → ℕ → ℕ → ℕ → ℕ → ℕ
box l t r b x y = within l r x * within t b y

-- the count of no rectangle
abbrev pub no_box : ℕ → ℕ → ℕ
no_box x y = 0

-- the count C with one rectangle more
abbrev pub plus_box : ℕ → ℕ → ℕ → ℕ → (ℕ → ℕ → ℕ) → ℕ → ℕ → ℕ
plus_box l t r b C x y = box l t r b x y + C x y

-- f one place back: 0 at 0, and f x at x + 1
abbrev pub prev : (ℕ → ℕ) → ℕ → ℕ
prev f zero = 0
prev f (suc x) = f x

-- C one column back, one row back, and both: 0 beyond the edge
abbrev pub west : (ℕ → ℕ → ℕ) → ℕ → ℕ → ℕ
west C x y = prev (λ a. C a y) x

abbrev pub north : (ℕ → ℕ → ℕ) → ℕ → ℕ → ℕ
north C x y = prev (λ b. C x b) y

abbrev pub corner : (ℕ → ℕ → ℕ) → ℕ → ℕ → ℕ
corner C x y = prev (λ a. north C a y) x

-- The grid g holds the mixed differences of C, modulo 2 ^ 32, and C is 0 in the last column.
pub record Differences (s m : ℕ) (C : ℕ → ℕ → ℕ) (g : List ℕ) : Type 0 where
  pub mixed : (x y : ℕ) → x < s → y < m → slice_index g (y * s + x) + west C x y + north C x y ≈ C x y + corner C x y
  pub closed : (x y : ℕ) → x + 1 ≡ s → y < m → C x y ≡ 0

-- The grid g holds C itself, modulo 2 ^ 32.
pub record Counts (s m : ℕ) (C : ℕ → ℕ → ℕ) (g : List ℕ) : Type 0 where
  pub count : (x y : ℕ) → x < s → y < m → slice_index g (y * s + x) ≡ C x y % 2 ^ 32

-- g after v was added to its entry i, modulo 2 ^ 32
abbrev pub bump : List ℕ → ℕ → ℕ → List ℕ
bump g i v = slice_set g i ((slice_index g i + v) % 2 ^ 32)

-- h is g after each entry from step up to n has got what then stood step places before it, from the front on
pub record Summed (step n : ℕ) (g h : List ℕ) : Type 0 where
  pub first : (k : ℕ) → k < step → slice_index h k ≡ slice_index g k
  pub added : (k : ℕ) → k + step < n → slice_index h (k + step) ≡ (slice_index g (k + step) + slice_index h k) % 2 ^ 32
  pub rest : (k : ℕ) → n ≤ k → slice_index h k ≡ slice_index g k

-- What stamping one rectangle promises: one more for every count that the grid held, and nothing changed behind its last row.
pub record Boxed (stride left top right bottom : ℕ) (was now : List ℕ) : Type 0 where
  pub stamped : (m : ℕ) (C : ℕ → ℕ → ℕ) → bottom < m → Differences stride m C was → Differences stride m (plus_box left top right bottom C) now
  pub rest : (n : ℕ) → (bottom + 1) * stride ≤ n → drop n now ≡ drop n was

-- What finishing promises: the counts themselves, and nothing changed behind the grid.
pub record Finished (stride rows : ℕ) (was now : List ℕ) : Type 0 where
  pub counted : (C : ℕ → ℕ → ℕ) → Differences stride rows C was → Counts stride rows C now
  pub rest : drop (rows * stride) now ≡ drop (rows * stride) was
