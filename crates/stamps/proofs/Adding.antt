-- What stamps add to a grid, one after the other: laws of `Adds`. Assumes nothing.
use mathlib.Core.Path.{◌≡◌, refl, sym, ap, ◌∙◌}
use mathlib.Core.Bool.{Bool, false, ◌||◌}
use mathlib.Core.List.{List, ◌++◌}
use Prim.Native.Nat.{ℕ, ◌+◌, ◌*◌, ◌^◌, ◌≤◌, ◌<◌}
use native.Mathlib.Omega.{arith}
use lib.Dec.{ltb}
use lib.ListN.{drop, replicate, take, get_or, length}
use Rattle.std.proofs.lemmas.Grind.{common_steps}
use Rattle.std.proofs.lemmas.Bool.Decides.{nat_tests}
use Rattle.model.specs.declared.PixelRect.{PixelRect}
use Rattle.model.specs.declared.CollisionBounds.{CollisionBounds}
use Rattle.model.specs.Lists.{any}
use Rattle.model.specs.Areas.{cleared}
use Rattle.grid.specs.Grid.{box, no_box, plus_box, Boxed, Finished}
use Rattle.grid.proofs.Uses.{blank, box_small}
use Rattle.stamps.specs.declared.Frame.{Frame}
use Rattle.stamps.specs.Stamps.{Stamped, Adds, Counted, among, stop, stops}
use Rattle.stamps.proofs.Some.{among_none, among_next, any_more}

module _ {w h : ℕ} where
  -- nothing stamped, nothing added
  pub adds_none : (g : List ℕ) → Adds w h 0 (λ x y. false) g g
  adds_none g = record {
    stamped = λ n P S. record {
      count = S.count;
      differences = S.differences;
      few = λ x y. omega (arith, S.few x y);
      covered = λ x y hx hy. grind (arith, S.covered x y hx hy);
    };
    rest = refl;
  }

  -- one after the other
  pub adds_then : {j k : ℕ} {Q R : ℕ → ℕ → Bool} {a b c : List ℕ} → Adds w h j Q a b → Adds w h k R b c → Adds w h (j + k) (λ x y. Q x y || R x y) a c
  adds_then {j} {k} {Q} {R} A B = record {
    stamped = λ n P S.
        (let s = B.stamped (n + j) (λ x y. P x y || Q x y) (A.stamped n P S) in
        record {
          count = s.count;
          differences = s.differences;
          few = λ x y. omega (arith, s.few x y);
          covered = λ x y hx hy. grind (arith, s.covered x y hx hy);
        });
    rest = B.rest ∙ A.rest;
  }

  -- the same places, said otherwise, and a larger bound
  pub adds_same : {j k : ℕ} {Q R : ℕ → ℕ → Bool} {a b : List ℕ} → j ≤ k → ((x y : ℕ) → x < w → y < h → Q x y ≡ R x y) → Adds w h j Q a b → Adds w h k R a b
  adds_same {j} {k} {Q} {R} l e A = record {
    stamped = λ n P S.
        (let s = A.stamped n P S in
        record {
          count = s.count;
          differences = s.differences;
          few = λ x y. omega (arith, s.few x y);
          covered = λ x y hx hy. grind (arith, s.covered x y hx hy, e x y hx hy);
        });
    rest = A.rest;
  }

  -- a loop over numbers from a on: none yet, and one more
  pub adds_start : (test : ℕ → ℕ → ℕ → Bool) (a : ℕ) (g : List ℕ) → Adds w h 0 (λ x y. among a a (λ n. test n x y)) g g
  adds_start test a g = adds_same (omega arith) (λ x y hx hy. sym (among_none (λ n. test n x y) a a (omega arith))) (adds_none g)

  pub adds_next : (test : ℕ → ℕ → ℕ → Bool) (a i : ℕ) {j k : ℕ} {was mid now : List ℕ} → a ≤ i → Adds w h j (λ x y. among a i (λ n. test n x y)) was mid → Adds w h k (test i) mid now
      → Adds w h (j + k) (λ x y. among a (i + 1) (λ n. test n x y)) was now
  adds_next test a i l A B = adds_same (omega arith) (λ x y hx hy. among_next (λ n. test n x y) a i l) (adds_then A B)

  -- one rectangle within the grid
  pub adds_box : {l t r b : ℕ} {Q : ℕ → ℕ → Bool} {was now : List ℕ} → r ≤ w → b ≤ h → ((x y : ℕ) → x < w → y < h → ltb 0 (box l t r b x y) ≡ Q x y)
      → Boxed (w + 1) l t r b was now → Adds w h 1 Q was now
  adds_box {l} {t} {r} {b} {Q} hr hb e B = record {
    stamped = λ n P S. record {
      count = plus_box l t r b S.count;
      differences = B.stamped (h + 1) S.count (omega arith) S.differences;
      few = λ x y. omega (arith, S.few x y, box_small l t r b x y);
      covered = λ x y hx hy. grind (arith, nat_tests, S.covered x y hx hy, e x y hx hy);
    };
    rest = B.rest ((h + 1) * (w + 1)) (grind arith);
  }

  -- a cleared grid covers nothing
  pub stamped_none : (rest : List ℕ) → Stamped w h 0 (λ x y. false) (replicate ((h + 1) * (w + 1)) 0 ++ rest)
  stamped_none rest = record { count = no_box; differences = blank (w + 1) (h + 1) rest; few = λ x y. omega arith; covered = λ x y hx hy. refl }

  -- cleared, stamped and finished: what stands there is above zero where something was stamped
  pub counted : {k : ℕ} {Q : ℕ → ℕ → Bool} {was clear stamped now : List ℕ} → k < 2 ^ 32 → clear ≡ cleared ((h + 1) * (w + 1)) was → Adds w h k Q clear stamped
      → Finished (w + 1) (h + 1) stamped now → Counted w h Q was now
  counted {k} {Q} {was} few e A F =
      let n = (h + 1) * (w + 1) in
      let s = (rw e at A).stamped 0 (λ x y. false) (stamped_none (drop n was)) in
      record {
        above = λ x y hx hy.
            grind (arith, common_steps, (F.counted s.count s.differences).count x y (omega arith) (omega arith), s.few x y, s.covered x y hx hy);
        rest = grind (arith, common_steps, F.rest, A.rest);
      }

-- the boxes of a list, one after the other: none yet, one more, and all
module _ (f : Frame) (m : CollisionBounds) (boxes : List PixelRect) where
  pub stops_none : (g : List ℕ) → Adds f.width f.height 0 (stops f m (take 0 boxes)) g g
  unfolding any
  stops_none g = adds_none g

  pub stops_more : (d : PixelRect) (i : ℕ) {was mid now : List ℕ} → i < length boxes → Adds f.width f.height i (stops f m (take i boxes)) was mid → Adds f.width f.height 1 (stop f m (get_or boxes i d)) mid now
      → Adds f.width f.height (i + 1) (stops f m (take (i + 1) boxes)) was now
  stops_more d i l A B = adds_same (omega arith) (λ x y hx hy. any_more (λ b. stop f m b x y) d boxes i l) (adds_then A B)

  pub stops_all : (i : ℕ) {k : ℕ} {was now : List ℕ} → length boxes ≤ i → i ≤ k → Adds f.width f.height i (stops f m (take i boxes)) was now → Adds f.width f.height k (stops f m boxes) was now
  stops_all i h l A = adds_same l (λ x y hx hy. ap (λ (bs : List PixelRect). stops f m bs x y) (grind (arith, common_steps))) A
