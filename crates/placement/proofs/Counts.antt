-- Document 01's number for the issues, b(n + b + 1), is enough for b buildings and n obstacles. Assumes nothing.
use mathlib.Core.Path.{◌≡◌, refl, ap, ◌∙◌}
use mathlib.Core.Bool.{Bool, true, false, not, ◌&&◌}
use mathlib.Core.List.{List, [], ◌∷◌, ◌++◌, map}
use Prim.Native.Nat.{ℕ, suc, ◌+◌, ◌*◌, ◌≤◌, ◌<◌}
use native.Mathlib.Nat.{suc-mul}
use native.Mathlib.Decide.{ℕ_discrete}
use native.Mathlib.Omega.{arith}
use borrow.Author.Tests.{eq-eqb}
use lib.Dec.{eqb}
use lib.ListN.{length, length-append, length-map}
use Rattle.model.specs.declared.WallBuilding.{WallBuilding}
use Rattle.model.specs.Lists.{places_from, places, keep_if}
use Rattle.model.specs.Boxes.{meets, in_map, footprint_box, collision_box}
use Rattle.model.specs.Ground.{Ground, obstacles}
use Rattle.model.specs.Placement.{Issue, OutOfMap, UnbuildableTerrain, OverlapsObstacle, OverlapsBuilding, issue_word, bad_cells, issues_of, words_from, issue_words}
use Rattle.model.specs.Areas.{issue_room}
use Rattle.issue_words.specs.Issues.{noted}
use Rattle.footprints.specs.Cells.{non_empty}

keep_most : (t : Bool) (n : ℕ) (ns : List ℕ) → length (keep_if t n ns) ≤ suc (length ns)
keep_most true n ns = omega arith
keep_most false n ns = omega arith

-- at most as many places as elements
places_most : {A : Type 0} (n : ℕ) (test : ℕ → A → Bool) (l : List A) → length (places_from n test l) ≤ length l
unfolding places_from
places_most n test [] = omega arith
places_most n test (a ∷ l) = omega (arith, keep_most (test n a) n (places_from (suc n) test l), places_most (suc n) test l)

-- one less where the test leaves out an element
places_but_one : {A : Type 0} (n k : ℕ) (test : ℕ → A → Bool) (l : List A) → ((a : A) → test k a ≡ false) → n ≤ k → k < n + length l → length (places_from n test l) < length l
unfolding places_from
places_but_one n k test [] out h m = absurd (omega arith)
places_but_one n k test (a ∷ l) out h m = pick (ℕ_discrete n k) (places_but_one (suc n) k test l out)
  where
    pick : Dec (n ≡ k) → (suc n ≤ k → k < suc n + length l → length (places_from (suc n) test l) < length l) → length (keep_if (test n a) n (places_from (suc n) test l)) < suc (length l)
    pick (yes e) later = rw (ap (λ (i : ℕ). test i a) e ∙ out a) (omega (arith, places_most (suc n) test l))
    pick (no e) later = omega (arith, keep_most (test n a) n (places_from (suc n) test l), later (omega arith) (omega arith))

noted_most : (t : Bool) (i : Issue) → length (noted t i) ≤ 1
noted_most true i = omega arith
noted_most false i = omega arith

module _ (g : Ground) (bs : List WallBuilding) where
  -- of one building: two kinds once, each obstacle, each other building
  issues_most : (k : ℕ) (b : WallBuilding) → k < length bs → length (issues_of g bs k b) ≤ length (obstacles g) + length bs + 1
  unfolding issues_of
  issues_most k b h =
      let inside = in_map g.width g.height (footprint_box b) in
      let out = noted (not (inside && in_map g.width g.height (collision_box b))) OutOfMap in
      let bad = noted (inside && non_empty (bad_cells g (footprint_box b))) UnbuildableTerrain in
      let os = places (λ i o. meets (footprint_box b) o) (obstacles g) in
      let others = places (λ i c. not (eqb i k) && meets (footprint_box b) (footprint_box c)) bs in
      omega (
        arith,
        length-append out (bad ++ (map OverlapsObstacle os ++ map OverlapsBuilding others)),
        length-append bad (map OverlapsObstacle os ++ map OverlapsBuilding others),
        length-append (map OverlapsObstacle os) (map OverlapsBuilding others),
        length-map os OverlapsObstacle,
        length-map others OverlapsBuilding,
        noted_most (not (inside && in_map g.width g.height (collision_box b))) OutOfMap,
        noted_most (inside && non_empty (bad_cells g (footprint_box b))) UnbuildableTerrain,
        places_most 0 (λ i o. meets (footprint_box b) o) (obstacles g),
        places_but_one 0 k (λ i c. not (eqb i k) && meets (footprint_box b) (footprint_box c)) bs (λ c. rw (eq-eqb k k refl) refl) (omega arith) (omega arith),
      )

  words_most : (k : ℕ) (cs : List WallBuilding) → k + length cs ≤ length bs → length (words_from g bs k cs) ≤ length cs * (length (obstacles g) + length bs + 1)
  unfolding words_from
  words_most k [] h = omega arith
  words_most k (c ∷ cs) h =
      omega (
        arith,
        length-append (map (issue_word k) (issues_of g bs k c)) (words_from g bs (suc k) cs),
        length-map (issues_of g bs k c) (issue_word k),
        issues_most k c (omega arith),
        words_most (suc k) cs (omega arith),
        suc-mul (length cs) (length (obstacles g) + length bs + 1),
      )

  -- all issues have room
  pub room_enough : length (issue_words g bs) ≤ issue_room (length (obstacles g)) (length bs)
  room_enough = words_most 0 bs (omega arith)
