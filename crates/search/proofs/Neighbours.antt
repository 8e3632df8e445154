-- Moves, and what the steps from a center lead to. Assumes nothing.
use mathlib.Core.Path.{◌≡◌, ap, sym, subst, ◌∙◌}
use mathlib.Core.List.{List, []}
use Prim.Native.Nat.{ℕ, zero, suc, ◌+◌, ◌-◌, ◌*◌, ◌<◌, ◌≤◌}
use native.Mathlib.Omega.{arith}
use lib.ListN.{length, get_or, set}
use lib.Seq.{get_or-set_same, get_or-set_other}
use borrow.Author.Count.{below_more}
use lib.IntN.{ℤ}
use Rattle.model.specs.Steps.{steps}
use Rattle.marks.specs.Marks.{Unmarked}
use Rattle.search.specs.Places.{eastward, southward, Small, Inner, Stays, ahead, Seen}
use Rattle.search.proofs.Centers.{place_in}

-- what holds of each of the eight steps
pub each_step : (P : ℕ → Type 0) → P 0 → P 1 → P 2 → P 3 → P 4 → P 5 → P 6 → P 7 → (k : ℕ) → k < 8 → P k
each_step P a b c d e f g h zero l = a
each_step P a b c d e f g h (suc zero) l = b
each_step P a b c d e f g h (suc (suc zero)) l = c
each_step P a b c d e f g h (suc (suc (suc zero))) l = d
each_step P a b c d e f g h (suc (suc (suc (suc zero)))) l = e
each_step P a b c d e f g h (suc (suc (suc (suc (suc zero))))) l = f
each_step P a b c d e f g h (suc (suc (suc (suc (suc (suc zero)))))) l = g
each_step P a b c d e f g h (suc (suc (suc (suc (suc (suc (suc zero))))))) l = h
each_step P a b c d e f g h (suc (suc (suc (suc (suc (suc (suc (suc k)))))))) l = absurd (omega arith)

-- they move by at most one
pub step_small : (k : ℕ) → k < 8 → Small (get_or steps k [])
step_small = each_step (λ k. Small (get_or steps k [])) (omega arith) (omega arith) (omega arith) (omega arith) (omega arith) (omega arith) (omega arith) (omega arith)

-- where a step leads: column and row, and place
pub landed : (w x y a b nx ny : ℕ) → nx + 1 ≡ x + a → ny + 1 ≡ y + b → y * w + x + (a + b * w) ≡ ny * w + nx + (w + 1)
landed w x y a b nx ny ex ey = omega (arith, ap (λ (n : ℕ). n * w) ey)

module _ (w h x y : ℕ) (d : List ℤ) where
  pub inner_stays : Inner w h x y → Small d → Stays w h x y d
  inner_stays i s = record { west = omega (arith, i.west); east = omega (arith, i.east, s.x); north = omega (arith, i.north); south = omega (arith, i.south, s.y) }

  module _ (p : ℕ) (placed : p ≡ y * w + x) (stays : Stays w h x y d) where
    abbrev nx : ℕ
    nx = x + eastward d - 1

    abbrev ny : ℕ
    ny = y + southward d - 1

    lands : p + (eastward d + southward d * w) ≡ ny * w + nx + (w + 1)
    lands = ap (λ (n : ℕ). n + (eastward d + southward d * w)) placed ∙ landed w x y (eastward d) (southward d) nx ny (omega (arith, stays.west)) (omega (arith, stays.north))

    pub lands_in : (w + 1 ≤ p + (eastward d + southward d * w)) × (ahead w p d < w * h)
    lands_in = (omega (arith, lands), omega (arith, lands, place_in w h nx ny (omega (arith, stays.west, stays.east)) (omega (arith, stays.north, stays.south))))

    -- the mark of the center that it leads to
    pub seen_mark : (marks : List ℕ) (m : ℕ) → m ≡ get_or marks (ahead w p d) 0 → m ≤ 255 → Seen (Unmarked marks w h) x y d m
    seen_mark marks m e l = record {
      is = λ z. (record { x = nx; y = ny }, omega (arith, stays.west), omega (arith, stays.north), (omega (arith, stays.west, stays.east), omega (arith, stays.north, stays.south), ap (λ (n : ℕ). get_or marks n 0) (sym there) ∙ sym e ∙ z));
      all = λ q a b f. e ∙ ap (λ (n : ℕ). get_or marks n 0) (omega (arith, ap (λ (n : ℕ). n + (eastward d + southward d * w)) placed, landed w x y (eastward d) (southward d) q.x q.y a b)) ∙ f.2;
      small = l;
    }
      where
        there : ahead w p d ≡ ny * w + nx
        there = omega (arith, lands)

-- a list that is filled from the front, by what is known of each entry
pub filled_more : (P : ℕ → ℕ → Type 0) (l : List ℕ) (k v : ℕ) → k < length l → ((j : ℕ) → j < k → P j (get_or l j 0)) → P k v → (j : ℕ) → j < k + 1 → P j (get_or (set l k v) j 0)
filled_more P l k v inside old new = below_more (λ (j : ℕ). P j (get_or (set l k v) j 0)) k
    (λ j m. subst (P j) (sym (get_or-set_other l k j v 0 (λ e. omega arith))) (old j m)) (subst (P k) (sym (get_or-set_same l k v 0 inside)) new)
