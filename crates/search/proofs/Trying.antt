-- What one step that is tried does to the search's state, and how such steps join. Assumes nothing.
use mathlib.Core.Path.{◌≡◌, refl, sym, subst, ◌∙◌}
use mathlib.Core.List.{List, []}
use Prim.Native.Nat.{ℕ, ◌+◌, ◌<◌}
use native.Mathlib.Omega.{arith}
use native.Mathlib.Decide.{ℕ_discrete}
use lib.ListN.{length, get_or, set}
use lib.Seq.{get_or-set_other}
use Rattle.model.specs.Steps.{steps, Step}
use Rattle.model.proofs.Chains.{step_one}
use Rattle.search.specs.Places.{center, ahead}
use Rattle.search.specs.Search.{Expanding, Works, Bars, Growing, Tried}
use Rattle.search.proofs.Noted.{noted_more, noted_room}
use Rattle.search.proofs.Stepping.{passed, pushed}

-- lists and a tail that are the ones at work
works_same : {free : ℕ → ℕ → Type 0} {w head tail k tail₁ tail₂ k' : ℕ} {queue parents queue₁ parents₁ queue₂ parents₂ : List ℕ}
    → queue₂ ≡ queue₁ → parents₂ ≡ parents₁ → tail₂ ≡ tail₁ → Works free w head queue parents tail k queue₁ parents₁ tail₁ k' → Works free w head queue parents tail k queue₂ parents₂ tail₂ k'
works_same {free} {w} {head} {tail} {k} {tail₁} {tail₂} {k'} {queue} {parents} {queue₁} {parents₁} {queue₂} {parents₂} a b c W =
    subst (λ (q : List ℕ). Works free w head queue parents tail k q parents₂ tail₂ k') (sym a)
    (subst (λ (p : List ℕ). Works free w head queue parents tail k queue₁ p tail₂ k') (sym b)
    (subst (λ (t : ℕ). Works free w head queue parents tail k queue₁ parents₁ t k') (sym c) W))

-- the place that step k leads to from place p
abbrev place_after : ℕ → ℕ → ℕ → ℕ
place_after w p k = ahead w p (get_or steps k [])

module _ {free : ℕ → ℕ → Type 0} {w n p head tail : ℕ} (queue parents bars : List ℕ) (grows : Growing parents queue tail) (at_head : get_or queue head 0 ≡ p) (allowed : Bars free w n p bars)
    (k : ℕ) (small : k < 8) where
  -- step k leads nowhere, or to a place that has been found
  old_place : 0 < get_or parents (place_after w p k) 0 + get_or bars k 0 → Works free w head queue parents tail k queue parents tail (k + 1)
  old_place some = record {
    counted = grows.counted;
    grown = omega arith;
    kept = λ i l. refl;
    goes_on = λ s e X. passed X small (λ q t.
        let here = subst (λ (m : ℕ). Step free k (center w m) q) at_head t in
        let clear = allowed.only k q here in
        (place_after w p k, omega (arith, some, clear), step_one (allowed.goes k small clear) here));
  }

  -- step k finds its place
  new_place : place_after w p k < length parents → get_or parents (place_after w p k) 0 + get_or bars k 0 ≡ 0
      → Works free w head queue parents tail k (set queue tail (place_after w p k)) (set parents (place_after w p k) (p + 1)) (tail + 1) (k + 1)
  new_place inside none =
      let fresh : get_or parents (place_after w p k) 0 ≡ 0 = omega (arith, none) in
      let room : tail < length queue = omega (arith, noted_room parents (place_after w p k) inside fresh, grows.counted, grows.as_long) in
      let step = allowed.goes k small (omega (arith, none)) in
      record {
        counted = omega (arith, noted_more parents (place_after w p k) p inside fresh, grows.counted);
        grown = omega arith;
        kept = λ i l. get_or-set_other queue tail i (place_after w p k) 0 (λ e. omega arith);
        goes_on = λ s e X. subst (λ (m : ℕ). Expanding free w s e (set queue tail (place_after w p k)) (set parents (place_after w p k) (m + 1)) head (tail + 1) (k + 1)) at_head
            (pushed X small (place_after w p k) fresh inside room (subst (λ (m : ℕ). Step free k (center w m) (center w (place_after w p k))) (sym at_head) step));
      }

  -- trying it does the one or the other
  pub tried_works : {queue' parents' : List ℕ} {tail' : ℕ} → n ≡ length parents → Tried p (place_after w p k) (get_or bars k 0) queue parents tail queue' parents' tail'
      → Works free w head queue parents tail k queue' parents' tail' (k + 1)
  tried_works {queue'} {parents'} {tail'} long t = split (ℕ_discrete (get_or parents (place_after w p k) 0 + get_or bars k 0) 0)
    where
      split : Dec (get_or parents (place_after w p k) 0 + get_or bars k 0 ≡ 0) → Works free w head queue parents tail k queue' parents' tail' (k + 1)
      split (yes z) = let e = t.new z in works_same e.0 e.1 e.2 (new_place (omega (arith, (allowed.inside k small (omega (arith, z))).1, long)) z)
      split (no z) = let some : 0 < get_or parents (place_after w p k) 0 + get_or bars k 0 = omega arith in let e = t.old some in works_same e.0 e.1 e.2 (old_place some)

-- steps one after the other
pub works_then : {free : ℕ → ℕ → Type 0} {w head t₁ k₁ t₂ k₂ t₃ k₃ : ℕ} {q₁ p₁ q₂ p₂ q₃ p₃ : List ℕ} → Works free w head q₁ p₁ t₁ k₁ q₂ p₂ t₂ k₂ → Works free w head q₂ p₂ t₂ k₂ q₃ p₃ t₃ k₃ → Works free w head q₁ p₁ t₁ k₁ q₃ p₃ t₃ k₃
works_then a b = record {
  counted = b.counted;
  grown = omega (arith, a.grown, b.grown);
  kept = λ i l. b.kept i (omega (arith, a.grown)) ∙ a.kept i l;
  goes_on = λ s e X. b.goes_on s e (a.goes_on s e X);
}
