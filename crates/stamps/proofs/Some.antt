-- Laws of `some` and `among`: some number of a range passes a test. Assumes nothing.
use Rattle.std.proofs.Common.{◌≡◌, refl, Bool, false, ◌||◌, List, [], ◌∷◌, map, ◌⊎◌, ℕ, zero, suc, ◌+◌, ◌-◌, ◌≤◌, ◌<◌, T, length, get_or, take, arith}
use Rattle.std.proofs.lemmas.Grind.{common_steps}
use Rattle.model.specs.Lists.{any}
use Rattle.stamps.specs.Stamps.{some, among}

-- a number that passes the test
pub record Passing (a b : ℕ) (test : ℕ → Bool) : Type 0 where
  pub number : ℕ
  pub low : a ≤ number
  pub high : number < b
  pub passes : T (test number)

or_cases : (a b : Bool) → T (a || b) → T a ⊎ T b
or_cases a b h = grind arith

module _ (test : ℕ → Bool) where
  out : (a n : ℕ) → T (some a n test) → Passing a (a + n) test
  unfolding some
  out a zero h = absurd h
  out a (suc n) h = grind (arith, out a n, or_cases)

  into : (a n k : ℕ) → a ≤ k → k < a + n → T (test k) → T (some a n test)
  unfolding some
  into a zero k l u h = grind arith
  into a (suc n) k l u h = grind (arith, into a n k)

  -- what passes among the numbers from a up to b, and that it does
  pub passing : (a b : ℕ) → T (among a b test) → Passing a b test
  passing a b h = grind (arith, out a (b - a))

  pub passed : {a b : ℕ} → Passing a b test → T (among a b test)
  passed {a} {b} p = grind (arith, into a (b - a) p.number)

  -- one range after the other
  pub among_join : (a b c : ℕ) → a ≤ b → b ≤ c → among a c test ≡ among a b test || among b c test
  among_join a b c h k = grind (arith, passing, passed)

  -- an empty range
  pub among_none : (a b : ℕ) → b ≤ a → among a b test ≡ false
  unfolding some
  among_none a b h = grind arith

  -- a range of one
  among_one : (a : ℕ) → among a (a + 1) test ≡ test a
  unfolding some
  among_one a = grind arith

  -- one number more
  pub among_next : (a i : ℕ) → a ≤ i → among a i test || test i ≡ among a (i + 1) test
  among_next a i h = grind (arith, among_join a i (i + 1), among_one i)

-- two ranges and tests: some number passes the one where some number passes the other
pub among_alike : (f g : ℕ → Bool) (a b c d : ℕ) → (Passing a b f → Passing c d g) → (Passing c d g → Passing a b f) → among a b f ≡ among c d g
among_alike f g a b c d out back = grind (arith, passing, passed)

-- two tests that agree over a range
pub among_same : (f g : ℕ → Bool) (a b : ℕ) → ((k : ℕ) → a ≤ k → k < b → f k ≡ g k) → among a b f ≡ among a b g
among_same f g a b e = grind (arith, passing, passed)

-- the first number of a range, and those after it
some_first : (test : ℕ → Bool) (n : ℕ) → some 0 (suc n) test ≡ test 0 || some 0 n (λ k. test (suc k))
unfolding some
some_first test zero = grind arith
some_first test (suc n) = grind (arith, some_first test n)

pub among_first : (test : ℕ → Bool) (n : ℕ) → among 0 (suc n) test ≡ test 0 || among 0 n (λ k. test (suc k))
among_first test n = grind (arith, some_first test n)

-- some element of the first ones of a list, and one more
pub any_more : {A : Type 0} (test : A → Bool) (d : A) (l : List A) (i : ℕ) → i < length l → any test (take i l) || test (get_or l i d) ≡ any test (take (i + 1) l)
unfolding any
any_more test d [] i h = absurd (omega arith)
any_more test d (x ∷ l) zero h = grind (arith, common_steps)
any_more test d (x ∷ l) (suc i) h = grind (arith, common_steps, any_more test d l i)

-- some element of a mapped list
pub any_map : {A B : Type 0} (test : B → Bool) (f : A → B) (l : List A) → any test (map f l) ≡ any (λ a. test (f a)) l
unfolding any
any_map test f [] = refl
any_map test f (a ∷ l) = grind (arith, any_map test f l)
