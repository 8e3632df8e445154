-- Laws of `bit_at` and `field_at`. Assumes nothing.
--     field_lt       a field of n bits is below 2 ^ n
--     field_add      a field of m + n bits is one of m bits and one of n bits
--     field_byte     the eight bits of a byte are the byte
--     field_window   a field within the 40 bits from a byte on, as a quotient and a remainder of them
use mathlib.Core.Path.{◌≡◌, ap, ◌∙◌}
use mathlib.Core.List.{List, ◌++◌}
use Prim.Native.Nat.{ℕ, zero, suc, ◌+◌, ◌-◌, ◌*◌, ◌/◌, ◌%◌, ◌^◌, ◌≤◌, ◌<◌, min}
use native.Mathlib.Nat.{add-zero, add-suc, pow-zero, pow-suc, add_assoc, mod-lt}
use native.Mathlib.Omega.{arith}
use lib.ListN.{get_or, drop, replicate}
use lib.Dec.{lit<}
use lib.Pow.{high, low}
use Rattle.std.proofs.lemmas.List.{drop-replicate}
use Rattle.std.proofs.lemmas.Nat.{one_shl}
use Rattle.model.specs.Packed.{bit_at, field_at, word_in, no_building}
use Rattle.model.specs.Lists.{table}
use Rattle.model.specs.declared.WallBuilding.{WallBuilding}
use Rattle.bits.specs.Reading.{AtWord}

bit_lt : (s : List ℕ) (i : ℕ) → bit_at s i < 2
unfolding bit_at
bit_lt s i = mod-lt (get_or s (i / 8) 0 / 2 ^ (7 - i % 8)) (lit< tt)

pub field_lt : (s : List ℕ) (i n : ℕ) → field_at s i n < 2 ^ n
unfolding field_at
field_lt s i zero = rw pow-zero (lit< tt)
field_lt s i (suc n) = rw pow-suc (omega (arith, field_lt s i n, bit_lt s (i + n)))

field_add : (s : List ℕ) (i m n : ℕ) → field_at s i (m + n) ≡ field_at s i m * 2 ^ n + field_at s (i + m) n
unfolding field_at
field_add s i m zero = rw (add-zero, pow-zero) (omega arith)
field_add s i m (suc n) =
    rw (add-suc m n, pow-suc, field_add s i m n, add_assoc i m n) (omega arith)

bit_in : (s : List ℕ) (k j : ℕ) → j < 8 → bit_at s (8 * k + j) ≡ get_or s k 0 / 2 ^ (7 - j) % 2
unfolding bit_at
bit_in s k j h =
    let q : (8 * k + j) / 8 ≡ k = omega arith in
    let r : (8 * k + j) % 8 ≡ j = omega arith in
    rw (q, r)

-- a byte's bits, put together from the top
byte_bits : (b : ℕ) → b < 256 → (((((((0 * 2 + b / 128 % 2) * 2 + b / 64 % 2) * 2 + b / 32 % 2) * 2 + b / 16 % 2) * 2 + b / 8 % 2) * 2 + b / 4 % 2) * 2 + b / 2 % 2) * 2 + b / 1 % 2 ≡ b
byte_bits b h = omega arith

field_byte : (s : List ℕ) (k : ℕ) → get_or s k 0 < 256 → field_at s (8 * k) 8 ≡ get_or s k 0
unfolding field_at
field_byte s k h =
    rw
    (bit_in s k 0 (lit< tt), bit_in s k 1 (lit< tt), bit_in s k 2 (lit< tt), bit_in s k 3 (lit< tt), bit_in s k 4 (lit< tt), bit_in s k 5 (lit< tt), bit_in s k 6 (lit< tt), bit_in s k 7 (lit< tt))
    (byte_bits (get_or s k 0) h)

field_window : (s : List ℕ) (k o n : ℕ) → o + n ≤ 40 → field_at s (8 * k) 40 / 2 ^ (40 - (o + n)) % 2 ^ n ≡ field_at s (8 * k + o) n
field_window s k o n h =
    let t = 40 - (o + n) in
    let e : 40 ≡ o + n + t = omega arith in
    let whole : field_at s (8 * k) 40 ≡ (field_at s (8 * k) o * 2 ^ n + field_at s (8 * k + o) n) * 2 ^ t + field_at s (8 * k + (o + n)) t =
    ap (field_at s (8 * k)) e ∙ field_add s (8 * k) (o + n) t ∙ ap (λ (x : ℕ). x * 2 ^ t + field_at s (8 * k + (o + n)) t) (field_add s (8 * k) o n) in
    rw (whole, high (field_at s (8 * k) o * 2 ^ n + field_at s (8 * k + o) n) t (field_lt s (8 * k + (o + n)) t))
    (low (field_at s (8 * k) o) n (field_lt s (8 * k + o) n))

-- one byte more
field_next : (s : List ℕ) (k j : ℕ) → get_or s (k + j) 0 < 256 → field_at s (8 * k) (8 * j + 8) ≡ field_at s (8 * k) (8 * j) * 256 + get_or s (k + j) 0
field_next s k j h =
    let e : 8 * k + 8 * j ≡ 8 * (k + j) = omega arith in
    field_add s (8 * k) (8 * j) 8 ∙ rw (e, field_byte s (k + j) h)

-- five bytes are their 40 bits
pub field_five : (s : List ℕ) (k : ℕ) → ((i : ℕ) → get_or s i 0 < 256)
    → (((get_or s k 0 * 256 + get_or s (k + 1) 0) * 256 + get_or s (k + 2) 0) * 256 + get_or s (k + 3) 0) * 256 + get_or s (k + 4) 0 ≡ field_at s (8 * k) 40
field_five s k byte =
    let f0 : field_at s (8 * k) 8 ≡ get_or s k 0 = field_byte s k (byte k) in
    let f1 : field_at s (8 * k) 16 ≡ field_at s (8 * k) 8 * 256 + get_or s (k + 1) 0 = field_next s k 1 (byte (k + 1)) in
    let f2 : field_at s (8 * k) 24 ≡ field_at s (8 * k) 16 * 256 + get_or s (k + 2) 0 = field_next s k 2 (byte (k + 2)) in
    let f3 : field_at s (8 * k) 32 ≡ field_at s (8 * k) 24 * 256 + get_or s (k + 3) 0 = field_next s k 3 (byte (k + 3)) in
    let f4 : field_at s (8 * k) 40 ≡ field_at s (8 * k) 32 * 256 + get_or s (k + 4) 0 = field_next s k 4 (byte (k + 4)) in
    omega arith

-- what `get` computes is the field
pub field_taken : (s : List ℕ) (at n : ℕ) → n ≤ 32 → field_at s (8 * (at / 8)) 40 / 2 ^ (40 - (at % 8 + n)) % (1 * 2 ^ n % 2 ^ 64) ≡ field_at s at n
field_taken s at n h =
    let e : 8 * (at / 8) + at % 8 ≡ at = omega arith in
    rw (one_shl n 64 (omega arith)) (field_window s (at / 8) (at % 8) n (omega arith) ∙ ap (λ (i : ℕ). field_at s i n) e)

-- what is read where word k begins is word k
pub word_is : (s : List ℕ) (p k v : ℕ) → AtWord s p k → v ≡ field_at s p 32 → v ≡ word_in s k
unfolding word_in
word_is s p k v e h = h ∙ ap (λ (i : ℕ). field_at s i 32) e

-- the buildings that a plan has read when it stops at i, which is n or 32
pub plan_read : (f : ℕ → WallBuilding) (i n : ℕ) (bs d : List WallBuilding) → i ≡ min n 32 → d ≡ replicate 32 no_building → bs ≡ table f i ++ drop i d
    → bs ≡ table f (min n 32) ++ replicate (32 - n) no_building
plan_read f i n bs d e h k =
    let rest : 32 - i ≡ 32 - n = omega arith in
    rw (k, h, drop-replicate i 32 no_building, rest, e)
