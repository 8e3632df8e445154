-- Chains as numbers: the steps are the digits of a number to base eight, after a leading 1. The numbers' order is that of the chains, the
-- fewest steps first and then step by step. Assumes nothing.
use mathlib.Core.Path.{◌≡◌, refl}
use mathlib.Core.List.{List, [], ◌∷◌, ◌++◌}
use mathlib.Core.Logic.{⊎_elim, ◌⊎◌, inl, inr}
use Prim.Native.Nat.{ℕ, ◌+◌, ◌*◌, ◌<◌, ◌≤◌}
use native.Mathlib.Omega.{arith}
use native.Mathlib.Decide.{dec_lt}
use lib.ListN.{length}
use Rattle.model.specs.declared.PixelPosition.{PixelPosition}
use Rattle.model.specs.Steps.{Step, Chain, stay, step, Lex, NotAfter}

abbrev onto : ℕ → List ℕ → ℕ
onto n [] = n
onto n (k ∷ ks) = onto (8 * n + k) ks

abbrev pub code : List ℕ → ℕ
code ks = onto 1 ks

abbrev Digits : List ℕ → Type 0
Digits [] = Unit
Digits (k ∷ ks) = (k < 8) × Digits ks

onto_snoc : (ks : List ℕ) (n k : ℕ) → onto n (ks ++ (k ∷ [])) ≡ 8 * onto n ks + k
onto_snoc [] n k = refl
onto_snoc (j ∷ ks) n k = onto_snoc ks (8 * n + j) k

pub code_snoc : (ks : List ℕ) (k : ℕ) → code (ks ++ (k ∷ [])) ≡ 8 * code ks + k
code_snoc ks k = onto_snoc ks 1 k

onto_up : (ks : List ℕ) (n : ℕ) → n ≤ onto n ks
onto_up [] n = omega arith
onto_up (k ∷ ks) n = omega (arith, onto_up ks (8 * n + k))

-- the longer list has the larger number
longer : (js ks : List ℕ) (m n : ℕ) → Digits ks → n < 8 * m → length ks < length js → onto m js ≤ onto n ks → ⊥
longer [] ks m n d h l e = omega arith
longer (j ∷ js) [] m n d h l e = omega (arith, onto_up js (8 * m + j))
longer (j ∷ js) (k ∷ ks) m n d h l e = longer js ks (8 * m + j) (8 * n + k) d.1 (omega arith) (omega arith) e

-- of two lists of one length the larger number has the first digit that is larger
sorted : (js ks : List ℕ) (m n : ℕ) → Digits js → Digits ks → length js ≡ length ks → onto m js ≤ onto n ks → (m < n) ⊎ ((m ≡ n) × Lex js ks)
sorted [] [] m n c d l e = split (dec_lt m n)
  where
    split : Dec (m < n) → (m < n) ⊎ ((m ≡ n) × Unit {0})
    split (yes h) = inl h
    split (no h) = inr (omega arith, tt)
sorted [] (k ∷ ks) m n c d l e = absurd (omega arith)
sorted (j ∷ js) [] m n c d l e = absurd (omega arith)
sorted (j ∷ js) (k ∷ ks) m n c d l e = split (dec_lt m n) (dec_lt j k) (sorted js ks (8 * m + j) (8 * n + k) c.1 d.1 (omega arith) e)
  where
    split : Dec (m < n) → Dec (j < k) → (8 * m + j < 8 * n + k) ⊎ ((8 * m + j ≡ 8 * n + k) × Lex js ks) → (m < n) ⊎ ((m ≡ n) × ((j < k) ⊎ ((j ≡ k) × Lex js ks)))
    split (yes h) q r = inl h
    split (no h) (yes q) r = inr (⊎_elim (λ a. omega arith) (λ a. omega arith) r, inl q)
    split (no h) (no q) r = ⊎_elim (λ a. absurd (omega arith)) (λ a. inr (omega arith, inr (omega arith, a.1))) r

pub code_le : (js ks : List ℕ) → Digits js → Digits ks → code js ≤ code ks → NotAfter js ks
code_le js ks c d e = split (dec_lt (length js) (length ks)) (dec_lt (length ks) (length js))
  where
    split : Dec (length js < length ks) → Dec (length ks < length js) → NotAfter js ks
    split (yes h) q = inl h
    split (no h) (yes q) = absurd (longer js ks 1 1 d (omega arith) q e)
    split (no h) (no q) = inr (omega arith, ⊎_elim (λ a. absurd (omega arith)) (λ a. a.1) (sorted js ks 1 1 c d (omega arith) e))

module _ {free : ℕ → ℕ → Type 0} where
  pub digits : {p q : PixelPosition} {ks : List ℕ} {cs : List PixelPosition} → Chain free p ks cs q → Digits ks
  digits stay = tt
  digits (step s c) = (s.number, digits c)

  -- a chain with one more step
  pub snoc : {p q r : PixelPosition} {ks : List ℕ} {cs : List PixelPosition} {k : ℕ} → Chain free p ks cs q → Step free k q r → Chain free p (ks ++ (k ∷ [])) (cs ++ (r ∷ [])) r
  snoc stay s = step s stay
  snoc (step t c) s = step t (snoc c s)

-- some chain from s with the number n ends at p
pub data Reach (free : ℕ → ℕ → Type 0) (s : PixelPosition) : ℕ → PixelPosition → Type 0 where
  begin : Reach free s 1 s
  onward : {n k : ℕ} {p q : PixelPosition} → Reach free s n p → Step free k p q → Reach free s (8 * n + k) q

module _ {free : ℕ → ℕ → Type 0} {s : PixelPosition} where
  reach_on : {n : ℕ} {p q : PixelPosition} {ks : List ℕ} {cs : List PixelPosition} → Reach free s n p → Chain free p ks cs q → Reach free s (onto n ks) q
  reach_on {n = n} r stay = r
  reach_on {n = n} r (step {k = k} t c) = reach_on {n = 8 * n + k} (onward r t) c

  pub reach : {q : PixelPosition} {ks : List ℕ} {cs : List PixelPosition} → Chain free s ks cs q → Reach free s (code ks) q
  reach c = reach_on begin c
