-- What a loop over a list gathers, one part for each element behind the other, as the words of the overlaps that it finds. Assumes nothing.
use mathlib.Core.Path.{◌≡◌, refl, sym, ap, ◌∙◌}
use mathlib.Core.Bool.{Bool, true, false}
use mathlib.Core.List.{List, [], ◌∷◌, ◌++◌, map, append_assoc, append-nil}
use Prim.Native.Nat.{ℕ, suc, ◌+◌, ◌≤◌, ◌<◌}
use native.Mathlib.Numerals.{add-one}
use native.Mathlib.Omega.{arith}
use lib.ListN.{length, get_or, take, drop, length-append}
use lib.Seq.{length-take-le, take-suc, take_all, split_at}
use Rattle.model.specs.Lists.{places_from, keep_if}
use Rattle.model.specs.Placement.{Issue, issue_word}
use Rattle.issue_words.specs.Issues.{noted}

module _ {A B : Type 0} (f : ℕ → A → List B) where
  -- the parts of the elements, of which the first has number n
  abbrev pub each_from : ℕ → List A → List B
  each_from n [] = []
  each_from n (a ∷ l) = f n a ++ each_from (suc n) l

  abbrev pub each : List A → List B
  each l = each_from 0 l

  each_append : (n : ℕ) (a b : List A) → each_from n (a ++ b) ≡ each_from n a ++ each_from (n + length a) b
  each_append n [] b = ap (λ (k : ℕ). each_from k b) (omega arith)
  each_append n (x ∷ a) b =
      ap (λ (l : List B). f n x ++ l) (each_append (suc n) a b ∙ ap (λ (k : ℕ). each_from (suc n) a ++ each_from k b) (omega arith))
      ∙ sym (append_assoc (f n x) (each_from (suc n) a) (each_from (n + suc (length a)) b))

  module _ (l : List A) (i : ℕ) (d : A) (h : i < length l) where
    -- the elements before i, then element i, then others
    split : (rest : List A) → each (take i l ++ (get_or l i d ∷ rest)) ≡ each (take i l) ++ (f i (get_or l i d) ++ each_from (suc i) rest)
    split rest =
        let e : 0 + length (take i l) ≡ i = omega (arith, length-take-le i l (omega arith)) in
        each_append 0 (take i l) (get_or l i d ∷ rest) ∙ ap (λ (k : ℕ). each (take i l) ++ each_from k (get_or l i d ∷ rest)) e

    -- one element more
    pub each_next : each (take (i + 1) l) ≡ each (take i l) ++ f i (get_or l i d)
    each_next = rw (add-one i, take-suc l i d h) (split [] ∙ ap (λ (p : List B). each (take i l) ++ p) (append-nil (f i (get_or l i d))))

    -- its part has its room among all parts
    pub each_room : length (each (take i l)) + length (f i (get_or l i d)) ≤ length (each l)
    each_room =
        let rest = each_from (suc i) (drop (suc i) l) in
        let whole = ap each (split_at l i d h) ∙ split (drop (suc i) l) in
        omega (arith, ap length whole, length-append (each (take i l)) (f i (get_or l i d) ++ rest), length-append (f i (get_or l i d)) rest)

  -- all elements
  pub each_all : (l : List A) (i : ℕ) → length l ≤ i → each (take i l) ≡ each l
  each_all l i h = ap each (take_all i l h)

-- the words of building k for the elements that pass a test
module _ {A : Type 0} (k : ℕ) (issue : ℕ → Issue) (test : ℕ → A → Bool) where
  abbrev pub words_at : ℕ → A → List ℕ
  words_at i a = map (issue_word k) (noted (test i a) (issue i))

  pub found_each : (n : ℕ) (l : List A) → map (issue_word k) (map issue (places_from n test l)) ≡ each_from words_at n l
  unfolding places_from
  found_each n [] = refl
  found_each n (a ∷ l) = pick (test n a) (found_each (suc n) l)
    where
      pick : (t : Bool) → map (issue_word k) (map issue (places_from (suc n) test l)) ≡ each_from words_at (suc n) l
          → map (issue_word k) (map issue (keep_if t n (places_from (suc n) test l))) ≡ map (issue_word k) (noted t (issue n)) ++ each_from words_at (suc n) l
      pick true later = ap (λ (ws : List ℕ). issue_word k (issue n) ∷ ws) later
      pick false later = later
