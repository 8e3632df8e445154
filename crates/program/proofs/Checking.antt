-- What an accepted check leaves can be printed, and is what the definitions say. Assumes nothing.
use mathlib.Core.Path.{◌≡◌, refl, sym, ap, subst, ◌∙◌}
use mathlib.Core.List.{List, [], ◌∷◌, ◌++◌, map}
use Prim.Native.Nat.{ℕ, suc, ◌≤◌}
use native.Mathlib.Omega.{arith}
use lib.ListN.{length, take, length-append, length-take, length-map}
use lib.Seq.{take_at}
use Rattle.std.specs.Prelude.{None, Result, Ok}
use Rattle.model.specs.declared.WallCheck.{WallCheck}
use Rattle.model.specs.declared.WallError.{WallError}
use Rattle.model.specs.declared.WallBuilding.{WallBuilding}
use Rattle.model.specs.declared.WallQuery.{WallQuery}
use Rattle.model.specs.Ground.{Ground, built}
use Rattle.model.specs.Placement.{placements_from, placements, issue_words}
use Rattle.model.specs.Steps.{point_word}
use Rattle.model.specs.Refusal.{given, first, query_lines}
use Rattle.model.specs.Areas.{room_lines, begun}
use Rattle.model.specs.Check.{CheckAreas, check_rooms, Checked, Answers}
use Rattle.model.specs.Report.{report_text, PrintsAs}
use Rattle.model.proofs.Lines.{none_both}
use Rattle.model.proofs.Valid.{valid}
use Rattle.text.specs.Writing.{Wrote}
use Rattle.text.proofs.Chain.{said}
use Rattle.report.specs.Printing.{report_room, issue_sum, Printable}
use Rattle.report.proofs.Areas.{report_counted, words_counted}
use Rattle.program.specs.Promise.{Told}

-- one placement a building
one_each : (g : Ground) (bs : List WallBuilding) (k : ℕ) (cs : List WallBuilding) → length (placements_from g bs k cs) ≡ length cs
unfolding placements_from
one_each g bs k [] = refl
one_each g bs k (c ∷ cs) = ap suc (one_each g bs (suc k) cs)

module _ {g : Ground} {q : WallQuery} {was now : CheckAreas} {reply : Result WallCheck WallError} {check : WallCheck} (a : Answers g q was now reply) (ok : reply ≡ Ok check) (places : length q.plan.buildings ≡ 32) where
  abbrev bs : List WallBuilding
  bs = built q.plan

  none_applies : None ≡ first (query_lines g q ++ room_lines (check_rooms g q was))
  none_applies = sym (ap given ok) ∙ a.refuses

  checked : Checked g q was now check
  checked = rw ok at a.leaves

  few : q.plan.count ≤ 32
  few = (valid g q (none_both (query_lines g q) _ (sym none_applies)).0).plan.count

  placed : take q.plan.count check.placements ≡ placements g bs
  placed =
      let n : length (placements g bs) ≡ q.plan.count = omega (arith, few, one_each g bs 0 bs, length-take q.plan.count q.plan.buildings) in
      ap (take q.plan.count) checked.placed ∙ take_at (placements g bs) _ q.plan.count n

  words_left : now.issues ≡ begun (issue_words g bs) was.issues
  words_left = ap (λ (x : CheckAreas). x.issues) checked.areas

  route_left : now.route ≡ begun (map point_word checked.centers) was.route
  route_left = ap (λ (x : CheckAreas). x.route) checked.areas

  -- as many points as the answer says
  pointed : length (map point_word checked.centers) ≡ check.passed.points
  pointed = length-map checked.centers point_word ∙ sym checked.passes.points

  pub printable : (out : List ℕ) → length now.issues ≡ 2080 → length now.route ≡ 1600 → report_room ≤ length out
      → Printable check q.plan.count now.issues now.route out
  printable out i r h =
      let counted = ap issue_sum placed ∙ words_counted g bs 0 bs in
      let words = ap length words_left ∙ length-append (issue_words g bs) _ in
      let points = ap length route_left ∙ length-append (map point_word checked.centers) _ in
      record {
        buildings = few;
        issues_there = omega (arith, counted, words);
        issues_few = omega (arith, counted, words);
        points_there = omega (arith, pointed, points);
        points_few = omega (arith, pointed, points);
        room = h;
      }

  as_defined : report_text (take q.plan.count check.placements) now.issues check.passed (take check.passed.points now.route)
      ≡ report_text (placements g bs) (issue_words g bs) check.passed (map point_word checked.centers)
  as_defined =
      let points = ap (take check.passed.points) route_left ∙ take_at (map point_word checked.centers) _ check.passed.points pointed in
      (λ i. report_text (placed i) (words_left i) check.passed (points i))
      ∙ report_counted (placements g bs) (issue_words g bs) _ check.passed (map point_word checked.centers) (omega (arith, words_counted g bs 0 bs))

  pub reported : {out out' : List ℕ} {r : ℕ}
      → Wrote out 0 (report_text (take q.plan.count check.placements) now.issues check.passed (take check.passed.points now.route)) out' r
      → Told (query_lines g q ++ room_lines (check_rooms g q was)) g q out out' r
  reported w =
      let text = report_text (placements g bs) (issue_words g bs) check.passed (map point_word checked.centers) in
      record { text = text; prints = subst (PrintsAs g q text) none_applies (check.passed, checked.centers, checked.passes, refl); wrote = said as_defined w }
