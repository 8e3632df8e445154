-- The fewest digits that hold a number, as `io::decimal` gives them, are its decimal text. Assumes nothing.
use mathlib.Core.Path.{◌≡◌, refl}
use mathlib.Core.Bool.{Bool, true, false}
use Prim.Native.Nat.{ℕ, zero, suc, ◌+◌, ◌-◌, ◌*◌, ◌/◌, ◌%◌, ◌^◌, ◌≤◌, ◌<◌}
use native.Mathlib.Nat.{pow-suc, mod-lt, one-le-pow, pow-le-pow_right}
use native.Mathlib.Omega.{arith}
use borrow.Author.Tests.{lt-ltb, le-ltb, leb-true, leb-false}
use lib.Dec.{leb, lit<}
use Rattle.io.specs.Digits.{hex_digit_ascii, IsDigitCount, last_digits as shown}
use Rattle.model.specs.Report.{digits, decimal}

digit : (n : ℕ) → hex_digit_ascii (n % 10) ≡ 48 + n % 10
digit n = rw (lt-ltb (n % 10) 10 (mod-lt n (lit< tt)))

spells : (k f n : ℕ) → k ≤ f → IsDigitCount 10 1 n k → shown 10 k n ≡ digits f n
unfolding digits
spells zero f n l h = absurd (let z : 1 ≤ 0 = h.0 in omega arith)
spells (suc k) zero n l h = absurd (omega arith)
spells (suc zero) (suc f) n l h =
    let b : n < 10 = h.1 in
    let e : n % 10 ≡ n = omega arith in
    rw (digit n, lt-ltb n 10 b, e)
spells (suc (suc j)) (suc f) n l h =
    let p : 10 ^ suc (suc j) ≡ 10 ^ suc j * 10 = pow-suc 10 (suc j) in
    let q : 10 ^ suc j ≡ 10 ^ j * 10 = pow-suc 10 j in
    let up : n < 10 ^ suc (suc j) = h.1 in
    let o : 1 ≤ 10 ^ j = one-le-pow j 10 (lit< tt) in
    let s : suc (suc j) - 1 ≡ suc j = omega arith in
    let low : 10 ^ suc j ≤ n = rw s at (h.2 (omega arith)) in
    let t : suc j - 1 ≡ j = omega arith in
    rw (digit n, le-ltb n 10 (omega arith), spells (suc j) f (n / 10) (omega arith) (omega arith, omega arith, λ m. rw t (omega arith)))

-- a number of 64 bits has at most 20 digits
few : (n k : ℕ) → n < 2 ^ 64 → IsDigitCount 10 1 n k → k ≤ 20
few n k b h = pick (leb k 20) refl
  where
    pick : (t : Bool) → leb k 20 ≡ t → k ≤ 20
    pick true e = leb-true k 20 e
    pick false e =
        let l : 20 < k = leb-false k 20 e in
        let low : 10 ^ (k - 1) ≤ n = h.2 (omega arith) in
        let m : 20 ≤ k - 1 = omega arith in
        let big : 10 ^ 20 ≤ 10 ^ (k - 1) = pow-le-pow_right (lit< tt) m in
        absurd (omega arith)

pub spelt : {n k : ℕ} → n < 2 ^ 64 → IsDigitCount 10 1 n k → shown 10 k n ≡ decimal n
spelt {n} {k} b h = spells k 20 n (few n k b h) h
