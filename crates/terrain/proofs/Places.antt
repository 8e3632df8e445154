-- Some place of an element that passes a test, by the places of the list. Assumes nothing.
use Rattle.std.proofs.Common.{◌≡◌, refl, ap, ◌∙◌, Bool, true, false, ◌&&◌, ◌||◌, List, [], ◌∷◌, ℕ, suc, ◌+◌, length, get_or, arith}
use Rattle.model.specs.Lists.{any, keep_if, places_from}
use Rattle.stamps.specs.Stamps.{among, some}
use Rattle.stamps.proofs.Some.{among_first, among_same}

module _ {A : Type 0} (test : A → Bool) (d : A) (p : ℕ → Bool) where
  -- the element i of a list whose first has number n passes the test, and its number passes p
  abbrev at : ℕ → List A → ℕ → Bool
  at n l i = test (get_or l i d) && p (n + i)

  any_keep : (t : Bool) (n : ℕ) (rest : List ℕ) → any p (keep_if t n rest) ≡ t && p n || any p rest
  unfolding any
  any_keep true n rest = refl
  any_keep false n rest = refl

  any_from : (n : ℕ) (l : List A) → any p (places_from n (λ i c. test c) l) ≡ among 0 (length l) (at n l)
  unfolding any places_from some
  any_from n [] = refl
  any_from n (a ∷ l) =
      any_keep (test a) n (places_from (suc n) (λ i c. test c) l)
      ∙ ap (λ (t : Bool). test a && p n || t) (any_from (suc n) l ∙ among_same (at (suc n) l) (λ i. at n (a ∷ l) (suc i)) 0 (length l) (λ k u v. grind arith))
      ∙ grind (arith, among_first (at n (a ∷ l)) (length l))

  -- some place of an element that passes the test passes p
  pub any_places : (l : List A) → any p (places_from 0 (λ i c. test c) l) ≡ among 0 (length l) (λ i. test (get_or l i d) && p i)
  any_places l = any_from 0 l ∙ among_same (at 0 l) (λ i. test (get_or l i d) && p i) 0 (length l) (λ k u v. grind arith)
