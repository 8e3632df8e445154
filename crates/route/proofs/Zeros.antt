-- Areas that hold zeros: as a search finds them, and as it leaves them. Assumes nothing.
use mathlib.Core.Path.{◌≡◌, sym, ap, ◌∙◌}
use mathlib.Core.List.{List}
use Prim.Native.Nat.{ℕ, ◌+◌, ◌<◌, ◌≤◌}
use native.Mathlib.Omega.{arith}
use native.Mathlib.Decide.{dec_lt, ℕ_discrete}
use lib.ListN.{length, get_or, set, replicate, length-replicate, get_or-replicate}
use lib.Seq.{get_or-set_same, get_or-set_other, ext_get_or}

-- an area with a zero everywhere is all zeros
pub all_zeros : (area : List ℕ) → ((i : ℕ) → get_or area i 0 ≡ 0) → area ≡ replicate (length area) 0
all_zeros area zero-at = ext_get_or 0 area (replicate (length area) 0) (sym (length-replicate (length area) 0)) (λ i l. zero-at i ∙ sym (get_or-replicate (length area) i 0 0 l))

-- each place that still has a parent is queued from entry i on
pub record Kept (queue parents : List ℕ) (i : ℕ) : Type 0 where
  pub later : (p : ℕ) → 0 < get_or parents p 0 → (j : ℕ) × (i ≤ j) × (j < length queue) × (get_or queue j 0 ≡ p)

pub kept_next : {queue parents : List ℕ} {i : ℕ} → Kept queue parents i → (q : ℕ) → q ≡ get_or queue i 0 → q < length parents → Kept queue (set parents q 0) (i + 1)
kept_next {queue} {parents} {i} K q e inside = record { later = λ p some. split p some (ℕ_discrete p q) }
  where
    split : (p : ℕ) → 0 < get_or (set parents q 0) p 0 → Dec (p ≡ q) → (j : ℕ) × (i + 1 ≤ j) × (j < length queue) × (get_or queue j 0 ≡ p)
    split p some (yes s) = absurd (omega (arith, some, ap (λ (n : ℕ). get_or (set parents q 0) n 0) s, get_or-set_same parents q 0 0 inside))
    split p some (no s) =
        let o = K.later p (omega (arith, some, get_or-set_other parents q p 0 0 s)) in
        (o.0, after o.0 o.1 o.3, o.2, o.3)
      where
        after : (j : ℕ) → i ≤ j → get_or queue j 0 ≡ p → i + 1 ≤ j
        after j l h = pick (ℕ_discrete i j)
          where
            pick : Dec (i ≡ j) → i + 1 ≤ j
            pick (yes same) = absurd (s (sym h ∙ ap (λ (n : ℕ). get_or queue n 0) (sym same) ∙ sym e))
            pick (no other) = omega arith

pub kept_none : {queue parents : List ℕ} {i : ℕ} → Kept queue parents i → length queue ≤ i → parents ≡ replicate (length parents) 0
kept_none {parents = parents} K over = all_zeros parents (λ p. split p (dec_lt 0 (get_or parents p 0)))
  where
    split : (p : ℕ) → Dec (0 < get_or parents p 0) → get_or parents p 0 ≡ 0
    split p (yes some) = let o = K.later p some in absurd (omega (arith, o.1, o.2))
    split p (no none) = omega arith
