-- A place comes in at the queue's end: what the queue and the parents hold then. Assumes nothing.
use mathlib.Core.Path.{◌≡◌, ap, sym, ◌∙◌}
use mathlib.Core.List.{List}
use Prim.Native.Nat.{ℕ, ◌+◌, ◌<◌}
use native.Mathlib.Omega.{arith}
use native.Mathlib.Decide.{ℕ_discrete}
use lib.ListN.{length, get_or, set}
use lib.Seq.{get_or-set_same, get_or-set_other}
use borrow.Author.Count.{below_more}
use Rattle.search.specs.Search.{Listed}

-- Place p has not been found, and the queue has room for it.
pub record Fresh (queue parents : List ℕ) (tail p : ℕ) : Type 0 where
  pub listed : Listed queue parents tail
  pub parentless : get_or parents p 0 ≡ 0
  pub inside : p < length parents
  pub room : tail < length queue

module _ {queue parents : List ℕ} {tail p : ℕ} (F : Fresh queue parents tail p) where
  pub queue_old : (i : ℕ) → i < tail → get_or (set queue tail p) i 0 ≡ get_or queue i 0
  queue_old i l = get_or-set_other queue tail i p 0 (λ e. omega arith)

  pub queue_new : get_or (set queue tail p) tail 0 ≡ p
  queue_new = get_or-set_same queue tail p 0 F.room

  pub apart : (i : ℕ) → i < tail → get_or queue i 0 ≡ p → ⊥
  apart i l e = omega (arith, F.listed.linked i l, F.parentless, ap (λ (n : ℕ). get_or parents n 0) e)

  -- its parent is v
  module _ (v : ℕ) where
    pub parent_old : (i : ℕ) → i < tail → get_or (set parents p (v + 1)) (get_or queue i 0) 0 ≡ get_or parents (get_or queue i 0) 0
    parent_old i l = get_or-set_other parents p (get_or queue i 0) (v + 1) 0 (apart i l)

    pub parent_new : get_or (set parents p (v + 1)) p 0 ≡ v + 1
    parent_new = get_or-set_same parents p (v + 1) 0 F.inside

    -- the places found are the earlier ones and p
    pub listed_more : Listed (set queue tail p) (set parents p (v + 1)) (tail + 1)
    listed_more = record {
      linked = below_more (λ i. 0 < get_or (set parents p (v + 1)) (get_or (set queue tail p) i 0) 0) tail (λ i l. rw (queue_old i l, parent_old i l) (F.listed.linked i l)) (rw (queue_new, parent_new) (omega arith));
      only = λ q h. only q h (ℕ_discrete q p);
      unused = λ i l. get_or-set_other queue tail i p 0 (λ e. omega arith) ∙ F.listed.unused i (omega arith);
    }
      where
        only : (q : ℕ) → 0 < get_or (set parents p (v + 1)) q 0 → Dec (q ≡ p) → (i : ℕ) × (i < tail + 1) × (get_or (set queue tail p) i 0 ≡ q)
        only q h (yes e) = (tail, omega arith, queue_new ∙ sym e)
        only q h (no n) = let o = F.listed.only q (rw (get_or-set_other parents p q (v + 1) 0 n) at h) in (o.0, omega (arith, o.1), queue_old o.0 o.1 ∙ o.2)
