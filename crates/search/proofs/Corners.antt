-- The corner rule, and which steps lead from a place. Assumes nothing.
use mathlib.Core.Path.{◌≡◌, refl, ap, sym, subst, subst₂, ◌∙◌}
use mathlib.Core.List.{List, [], ◌∷◌}
use mathlib.Core.Bool.{Bool, true, false}
use Prim.Native.Nat.{ℕ, ◌+◌, ◌*◌, ◌<◌, ◌≤◌}
use native.Mathlib.Omega.{arith}
use Rattle.std.proofs.Common.{rules}
use lib.ListN.{get_or}
use Rattle.model.specs.declared.PixelPosition.{PixelPosition}
use Rattle.model.specs.Steps.{steps, across, down, Step}
use Rattle.model.proofs.Chains.{step_by_rule}
use Rattle.marks.specs.Marks.{Unmarked}
use Rattle.search.specs.Places.{center, ahead, Inner, Around, Allows, side_x, side_y}
use Rattle.search.specs.Search.{Bars}
use Rattle.search.proofs.Centers.{place_in, center_place}
use Rattle.search.proofs.Neighbours.{each_step, landed, lands_in, inner_stays, step_small}

-- sums are 0 where each part is
module _ (a : List ℕ) (small : (k : ℕ) → k < 8 → get_or a k 0 ≤ 255) where
  abbrev sums : List ℕ
  sums =
      get_or a 0 0 ∷ get_or a 1 0 ∷ get_or a 2 0 ∷ get_or a 3 0
      ∷ (get_or a 4 0 + get_or a 0 0 + get_or a 1 0) ∷ (get_or a 5 0 + get_or a 2 0 + get_or a 1 0) ∷ (get_or a 6 0 + get_or a 2 0 + get_or a 3 0) ∷ (get_or a 7 0 + get_or a 0 0 + get_or a 3 0) ∷ []

  -- what the rule says of step k
  record Rule (k : ℕ) : Type 0 where
    opens : get_or sums k 0 ≡ 0 → (get_or a k 0 ≡ 0) × (4 ≤ k → (get_or a (side_x k) 0 ≡ 0) × (get_or a (side_y k) 0 ≡ 0))
    joins : get_or a k 0 ≡ 0 → (4 ≤ k → (get_or a (side_x k) 0 ≡ 0) × (get_or a (side_y k) 0 ≡ 0)) → get_or sums k 0 ≡ 0
    few : get_or sums k 0 ≤ 765

  straight : (k : ℕ) → k < 4 → get_or sums k 0 ≡ get_or a k 0 → Rule k
  straight k l e = record { opens = λ z. (omega arith, λ m. absurd (omega arith)); joins = λ z _. omega arith; few = omega (arith, small k (omega arith)) }

  diagonal : (k : ℕ) → 4 ≤ k → k < 8 → side_x k < 8 → side_y k < 8 → get_or sums k 0 ≡ get_or a k 0 + get_or a (side_x k) 0 + get_or a (side_y k) 0 → Rule k
  diagonal k l m x y e = record {
    opens = λ z. (omega arith, λ _. (omega arith, omega arith));
    joins = λ z f. let g = f l in omega (arith, g.0, g.1);
    few = omega (arith, small k m, small (side_x k) x, small (side_y k) y);
  }

  rule : (k : ℕ) → k < 8 → Rule k
  rule = each_step Rule (straight 0 (omega arith) refl) (straight 1 (omega arith) refl) (straight 2 (omega arith) refl) (straight 3 (omega arith) refl)
      (diagonal 4 (omega arith) (omega arith) (omega arith) (omega arith) refl) (diagonal 5 (omega arith) (omega arith) (omega arith) (omega arith) refl)
      (diagonal 6 (omega arith) (omega arith) (omega arith) (omega arith) refl) (diagonal 7 (omega arith) (omega arith) (omega arith) (omega arith) refl)

  pub corner_rule : Allows a sums
  corner_rule = record { opens = λ k l. (rule k l).opens; joins = λ k l. (rule k l).joins; small = λ k l. (rule k l).few }

-- the sides of a diagonal step are where it moves along one axis alone
record Sides (k : ℕ) : Type 0 where
  x_number : side_x k < 8
  x_across : across (side_x k) ≡ across k
  x_down : down (side_x k) ≡ 1
  y_number : side_y k < 8
  y_across : across (side_y k) ≡ 1
  y_down : down (side_y k) ≡ down k

sides : (k : ℕ) → k < 8 → 4 ≤ k → Sides k
sides = each_step (λ k. 4 ≤ k → Sides k) (λ m. absurd (omega arith)) (λ m. absurd (omega arith)) (λ m. absurd (omega arith)) (λ m. absurd (omega arith)) (λ m. search rules) (λ m. search rules) (λ m. search rules) (λ m. search rules)

-- what the eight steps lead to, by the corner rule, says which of them are steps
module _ {free : ℕ → ℕ → Type 0} {x y : ℕ} {around bars : List ℕ} (here : free x y) (seen : Around free x y around) (allows : Allows around bars) where
  abbrev origin : PixelPosition
  origin = record { x = x; y = y }

  -- a center that a step of the table sees is free
  free_at : (j nx ny : ℕ) → j < 8 → nx + 1 ≡ x + across j → ny + 1 ≡ y + down j → get_or around j 0 ≡ 0 → free nx ny
  free_at j nx ny l ex ey z =
      let s = (seen j l).is z in
      subst₂ free (omega (arith, s.1)) (omega (arith, s.2)) s.3

  step_open : (k : ℕ) → k < 8 → get_or bars k 0 ≡ 0 → (q : PixelPosition) × Step free k origin q
  step_open k l z =
      let o = allows.opens k l z in
      let s = (seen k l).is o.0 in
      let q = s.0 in (
        q,
        step_by_rule free k origin q l s.1 s.2 here s.3 (λ m.
            let t = sides k l m in
            let both = o.1 m in (
              free_at (side_x k) q.x y t.x_number (omega (arith, s.1, t.x_across)) (omega (arith, t.x_down)) both.0,
              free_at (side_y k) x q.y t.y_number (omega (arith, t.y_across)) (omega (arith, s.2, t.y_down)) both.1,
            )),
      )

  open_step : (k : ℕ) (q : PixelPosition) → Step free k origin q → get_or bars k 0 ≡ 0
  open_step k q t = allows.joins k t.number ((seen k t.number).all q t.moved_x t.moved_y t.to) (λ m.
      let s = sides k t.number m in (
        (seen (side_x k) s.x_number).all (record { x = q.x; y = y }) (omega (arith, t.moved_x, s.x_across)) (omega (arith, s.x_down)) t.side_x_free,
        (seen (side_y k) s.y_number).all (record { x = x; y = q.y }) (omega (arith, s.y_across)) (omega (arith, t.moved_y, s.y_down)) t.side_y_free,
      ))

-- the same of the place p
pub bars_of : (marks : List ℕ) (w h p x y : ℕ) {around bars : List ℕ} → p ≡ y * w + x → Unmarked marks w h x y → Around (Unmarked marks w h) x y around → Allows around bars
    → Bars (Unmarked marks w h) w (w * h) p bars
bars_of marks w h p x y placed here seen allows = record {
  goes = λ k l z.
      let t = step_open here seen allows k l z in
      subst₂ (Step (Unmarked marks w h) k) (sym origin_of) (sym (there k t.0 t.1)) t.1;
  inside = λ k l z.
      let t = step_open here seen allows k l z in
      let m = lands k t.0 t.1 in
      (omega (arith, m), omega (arith, m, place_in w h t.0.x t.0.y t.1.to.0 t.1.to.1));
  only = λ k q t. open_step here seen allows k q (subst (λ (o : PixelPosition). Step (Unmarked marks w h) k o q) origin_of t);
  small = allows.small;
}
  where
    origin_of : center w p ≡ record { x = x; y = y }
    origin_of = ap (center w) placed ∙ center_place w x y here.0

    lands : (k : ℕ) (q : PixelPosition) → Step (Unmarked marks w h) k (record { x = x; y = y }) q → p + (across k + down k * w) ≡ q.y * w + q.x + (w + 1)
    lands k q t = ap (λ (n : ℕ). n + (across k + down k * w)) placed ∙ landed w x y (across k) (down k) q.x q.y t.moved_x t.moved_y

    there : (k : ℕ) (q : PixelPosition) → Step (Unmarked marks w h) k (record { x = x; y = y }) q → center w (ahead w p (get_or steps k [])) ≡ q
    there k q t =
        let e : ahead w p (get_or steps k []) ≡ q.y * w + q.x = omega (arith, lands k q t) in
        ap (center w) e ∙ center_place w q.x q.y t.to.0

-- where step k leads from the place p, if it is allowed or p is not at the window's edge
pub lands_at : (at-edge : Bool) (w h x y p k : ℕ) {free : ℕ → ℕ → Type 0} {bars : List ℕ} → p ≡ y * w + x → Bars free w (w * h) p bars → k < 8 → (at-edge ≡ false → Inner w h x y) → (at-edge ≡ true → get_or bars k 0 ≡ 0)
    → (w + 1 ≤ p + (across k + down k * w)) × (ahead w p (get_or steps k []) < w * h)
lands_at true w h x y p k placed allowed l inner clear = allowed.inside k l (clear refl)
lands_at false w h x y p k placed allowed l inner clear = let d = get_or steps k [] in lands_in w h x y d p placed (inner_stays w h x y d (inner refl) (step_small k l))
