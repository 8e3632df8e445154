-- The loop over the buildings of a plan: what holds after i turns, and what follows from it. Assumes nothing.
use mathlib.Core.Path.{◌≡◌, refl, sym, ap, ◌∙◌}
use mathlib.Core.List.{List, [], ◌∷◌, ◌++◌, append_assoc}
use Prim.Native.Nat.{ℕ, suc, ◌+◌, ◌-◌, ◌≤◌, ◌<◌}
use native.Mathlib.Omega.{arith}
use borrow.Rule.Slice.PartMut.{put_mid}
use lib.ListN.{length, take, set, replicate, length-map}
use lib.Seq.{set_at, length-take-le}
use Rattle.std.specs.List.{between}
use Rattle.model.specs.declared.Plan.{Plan}
use Rattle.model.specs.declared.WallBuilding.{WallBuilding}
use Rattle.model.specs.declared.WallPlacement.{WallPlacement}
use Rattle.model.specs.Ground.{Ground, obstacles, built}
use Rattle.model.specs.Placement.{issues_of, issue_word, placement_of, placements, issue_words}
use Rattle.model.specs.Areas.{issue_room}
use Rattle.model.specs.Check.{no_placement}
use Rattle.model.specs.Packed.{no_building}
use Rattle.placement_issues.specs.Words.{Put}
use Rattle.placement.specs.Assessed.{OneAssessed, AllAssessed, building_at}
use Rattle.placement_issues.proofs.Each.{each, each_from, each_next, each_room, each_all}
use Rattle.placement_issues.proofs.Puts.{then}
use Rattle.placement.proofs.Each.{building_part, placement_part, words_each, placements_each}
use Rattle.placement.proofs.Counts.{room_enough}

-- the first i buildings are assessed
pub record SoFar (g : Ground) (plan : Plan) (i : ℕ) (was now : List ℕ) (at : ℕ) (ps : List WallPlacement) : Type 0 where
  pub put : Put (each (building_part g (built plan)) (take i (built plan))) was now at
  pub placed : ps ≡ each (placement_part g (built plan)) (take i (built plan)) ++ replicate (32 - i) no_placement

-- one placement each
one_each : (g : Ground) (bs : List WallBuilding) (n : ℕ) (cs : List WallBuilding) → length (each_from (placement_part g bs) n cs) ≡ length cs
one_each g bs n [] = refl
one_each g bs n (c ∷ cs) = ap suc (one_each g bs (suc n) cs)

module _ {g : Ground} {plan : Plan} {i : ℕ} {was now : List ℕ} {at : ℕ} {ps : List WallPlacement} (s : SoFar g plan i was now at ps) where
  module _ (h : i < length (built plan)) where
    -- there is room for the issues of building i
    pub room_here : issue_room (length (obstacles g)) (length (built plan)) ≤ length was → at + length (issues_of g (built plan) i (building_at plan i)) ≤ length was
    room_here room =
        omega (
          arith,
          s.put.count,
          each_room (building_part g (built plan)) (built plan) i no_building h,
          length-map (issues_of g (built plan) i (building_at plan i)) (issue_word i),
          ap length (words_each g (built plan) 0 (built plan)),
          room_enough g (built plan),
        )

    pub after_turn : {part : List ℕ} {r : WallPlacement} → i < 32 → OneAssessed g plan i (between at (length now) now) part r
        → SoFar g plan (i + 1) was (put_mid at (length now - at) now part) (at + r.issues) (set ps i r)
    after_turn {part} {r} small one = record {
      put = rw (each_next (building_part g (built plan)) (built plan) i no_building h) (then s.put one.put);
      placed =
          let front = each (placement_part g (built plan)) (take i (built plan)) in
          let rest = replicate (32 - (i + 1)) no_placement in
          let e : 32 - i ≡ suc (32 - (i + 1)) = omega arith in
          let n : length front ≡ i = one_each g (built plan) 0 (take i (built plan)) ∙ length-take-le i (built plan) (omega arith) in
          rw (s.placed, e, set_at front no_placement rest r i n, each_next (placement_part g (built plan)) (built plan) i no_building h, one.placed)
          (sym (append_assoc front (placement_of g (built plan) i (building_at plan i) ∷ []) rest));
    }

  pub at_last : length (built plan) ≡ i → AllAssessed g plan was now ps
  at_last h =
      let bs = built plan in
      let p : each (placement_part g bs) (take i bs) ≡ placements g bs = each_all (placement_part g bs) bs i (omega arith) ∙ sym (placements_each g bs 0 bs) in
      let w : each (building_part g bs) (take i bs) ≡ issue_words g bs = each_all (building_part g bs) bs i (omega arith) ∙ sym (words_each g bs 0 bs) in
      let unused : 32 - i ≡ 32 - length (placements g bs) = omega (arith, ap length (placements_each g bs 0 bs), one_each g bs 0 bs) in
      record {
        placed = s.placed ∙ (λ j. p j ++ replicate (unused j) no_placement);
        words = (rw w at s.put).area;
      }
