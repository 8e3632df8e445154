-- The laws of a rectangle's indicator, whose mixed differences are its four corners, and of the four stores of a stamp. Assumes nothing.
use Rattle.std.proofs.Common.{◌≡◌, ℕ, zero, suc, ◌+◌, ◌*◌, ◌<◌, ◌≤◌, ◌⊎◌, List, length, get_or, drop, ap, subst, arith}
use Rattle.std.proofs.lemmas.Grind.{common_steps}
use Rattle.std.proofs.lemmas.Bool.Decides.{nat_tests}
use Rattle.grid.specs.Grid.{within, plus_box, prev, west, north, corner, bump, Differences, Boxed}
use Rattle.numbers.proofs.Modulo.{◌≈◌, by_sum, both_sums, equal, wrapped}
use Rattle.numbers.proofs.Places.{same, same_place, row_below}

-- along one axis the indicator rises at the start and falls at the end
rise : (l r x : ℕ) → l < r → within l r x + same x r ≡ prev (within l r) x + same x l
unfolding within
rise l r zero h = grind (arith, nat_tests)
rise l r (suc x) h = grind (arith, nat_tests)

-- so the mixed difference of a product of two indicators is the product of the differences: the four corners
product : (a b e f a' b' e' f' : ℕ) → b + f ≡ a + e → b' + f' ≡ a' + e' → b * b' + a * a' + (f * e' + e * f') ≡ a * b' + b * a' + (e * e' + f * f')
product a b e f a' b' e' f' h k = omega (arith, ap (λ (n : ℕ). n * a') h, ap (λ (n : ℕ). n * b') h, ap (λ (n : ℕ). n * e) k, ap (λ (n : ℕ). n * f) k)

-- what stands at k after v was added at i
bump_at : (g : List ℕ) (i v k : ℕ) → i < length g → get_or (bump g i v) k 0 ≈ get_or g k 0 + same k i * v
bump_at g i v k h = grind (arith, nat_tests, common_steps, wrapped, equal)

module _ (l t r b : ℕ) (C : ℕ → ℕ → ℕ) where
  west_plus : (x y : ℕ) → west (plus_box l t r b C) x y ≡ prev (within l r) x * within t b y + west C x y
  west_plus zero y = grind arith
  west_plus (suc x) y = grind arith

  north_plus : (x y : ℕ) → north (plus_box l t r b C) x y ≡ within l r x * prev (within t b) y + north C x y
  north_plus x zero = grind arith
  north_plus x (suc y) = grind arith

  corner_plus : (x y : ℕ) → corner (plus_box l t r b C) x y ≡ prev (within l r) x * prev (within t b) y + corner C x y
  corner_plus zero y = grind arith
  corner_plus (suc x) y = north_plus x y

-- the four stores of a stamp: 4294967295 is -1 modulo 2 ^ 32
abbrev pub stamps : ℕ → ℕ → ℕ → ℕ → ℕ → List ℕ → List ℕ
stamps s l t r b g = bump (bump (bump (bump g (t * s + l) 1) (t * s + r) 4294967295) (b * s + l) 4294967295) (b * s + r) 1

bump_place : (s x y l t v : ℕ) (g : List ℕ) → x < s → l < s → t * s + l < length g → get_or (bump g (t * s + l) v) (y * s + x) 0 ≈ get_or g (y * s + x) 0 + same x l * same y t * v
bump_place s x y l t v g hx hl h = grind (arith, bump_at, same_place)

module _ (s l t r b : ℕ) (g : List ℕ) (lr : l < r) (tb : t < b) (rs : r < s) (room : (b + 1) * s ≤ length g) where
  stamps_at : (x y : ℕ) → x < s → get_or (stamps s l t r b g) (y * s + x) 0 + same x r * same y t + same x l * same y b ≈ get_or g (y * s + x) 0 + same x l * same y t + same x r * same y b
  stamps_at x y hx =
      let g1 : List ℕ = bump g (t * s + l) 1 in
      let g2 : List ℕ = bump g1 (t * s + r) 4294967295 in
      let g3 : List ℕ = bump g2 (b * s + l) 4294967295 in
      let h1 = bump_place s x y l t 1 g hx (grind arith) (grind arith) in
      let h2 = bump_place s x y r t 4294967295 g1 hx rs (grind (arith, common_steps)) in
      let h3 = bump_place s x y l b 4294967295 g2 hx (grind arith) (grind (arith, common_steps)) in
      let h4 = bump_place s x y r b 1 g3 hx rs (grind (arith, common_steps)) in
      by_sum 0 (same x r * same y t + same x l * same y b) (both_sums (both_sums h1 h2) (both_sums h3 h4)) (omega arith)

  stamped : (m : ℕ) (C : ℕ → ℕ → ℕ) → Differences s m C g → Differences s m (plus_box l t r b C) (stamps s l t r b g)
  unfolding within
  stamped m C D = record {
    mixed = λ x y hx hy.
        rw (west_plus l t r b C x y, north_plus l t r b C x y, corner_plus l t r b C x y)
        (by_sum 0 0 (both_sums (stamps_at x y hx) (D.mixed x y hx hy))
        (omega (arith, product (prev (within l r) x) (within l r x) (same x l) (same x r) (prev (within t b) y) (within t b y) (same y t) (same y b) (rise l r x lr) (rise t b y tb))));
    closed = λ x y hx hy. grind (arith, nat_tests, D.closed x y hx hy);
  }

  rest : (n : ℕ) → (b + 1) * s ≤ n → drop n (stamps s l t r b g) ≡ drop n g
  rest n h = grind (arith, common_steps, row_below s r t b rs tb, row_below s r b (b + 1) rs (omega arith))

  pub boxed : Boxed s l t r b g (stamps s l t r b g)
  boxed = record { stamped = λ m C h D. stamped m C D; rest = rest }

-- a rectangle that is empty covers nothing
pub empty_boxed : (s l t r b : ℕ) (g : List ℕ) → (r ≤ l) ⊎ (b ≤ t) → Boxed s l t r b g g
unfolding within
empty_boxed s l t r b g h = record {
  stamped = λ m C k D. subst (λ (f : ℕ → ℕ → ℕ). Differences s m f g) (λ i x y. nothing C x y h i) D;
  rest = λ n k. grind arith;
}
  where
    nothing : (C : ℕ → ℕ → ℕ) (x y : ℕ) → (r ≤ l) ⊎ (b ≤ t) → C x y ≡ plus_box l t r b C x y
    nothing C x y e = grind (arith, nat_tests)
