-- What a caller starts and ends with: a cleared grid holds the differences of no rectangle, and a rectangle counts at most one. Assumes nothing.
use Rattle.std.proofs.Common.{ℕ, zero, suc, ◌+◌, ◌*◌, ◌<◌, ◌≤◌, ◌≡◌, get_or, List, ◌++◌, replicate, refl, arith}
use Rattle.std.proofs.lemmas.Bool.Decides.{nat_tests}
use Rattle.std.proofs.lemmas.Grind.{common_steps}
use Rattle.grid.specs.Grid.{within, box, no_box, west, north, corner, Differences}
use Rattle.numbers.proofs.Modulo.{◌≈◌, equal}

pub blank : (s m : ℕ) (rest : List ℕ) → Differences s m no_box (replicate (m * s) 0 ++ rest)
blank s m rest = record { mixed = λ x y hx hy. rw (zero_at x y hx hy) (edges x y); closed = λ x y hx hy. refl }
  where
    zero_at : (x y : ℕ) → x < s → y < m → get_or (replicate (m * s) 0 ++ rest) (y * s + x) 0 ≡ 0
    zero_at x y hx hy = grind (arith, common_steps)

    edges : (x y : ℕ) → 0 + west no_box x y + north no_box x y ≈ no_box x y + corner no_box x y
    edges zero zero = search equal
    edges zero (suc y) = search equal
    edges (suc x) zero = search equal
    edges (suc x) (suc y) = search equal

pub box_small : (l t r b x y : ℕ) → box l t r b x y ≤ 1
unfolding within
box_small l t r b x y = grind (arith, nat_tests)
