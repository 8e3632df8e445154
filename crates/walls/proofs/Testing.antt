-- From the marks of a window that the checks accept to the route test's answer. Assumes nothing.
use mathlib.Core.Path.{◌≡◌, ◌∙◌}
use mathlib.Core.Bool.{Bool}
use mathlib.Core.List.{List, map}
use Prim.Native.Nat.{ℕ}
use lib.ListN.{take, drop}
use Rattle.std.specs.Prelude.{Ok}
use Rattle.model.specs.declared.WallQuery.{WallQuery}
use Rattle.model.specs.Ground.{Ground, after, built, passable}
use Rattle.model.specs.Steps.{point_of}
use Rattle.model.specs.Areas.{mark_room, center_room, cleared}
use Rattle.model.specs.RouteTest.{TestAreas, TestLeaves, is_passage}
use Rattle.model.proofs.Lists.{cleared_alike}
use Rattle.model.specs.Accepted.{Valid}
use Rattle.marks.specs.Marks.{Centers, areas, frame_of}
use Rattle.marks.proofs.Showing.{marks_agree}
use Rattle.route_list.specs.Reading.{ByMarks}

pub list_tested : (g : Ground) (q : WallQuery) (words : List ℕ) (was : TestAreas) {mid : TestAreas} {marks : List ℕ} {r : Bool} → Valid g q → Centers g q.window q.mover q.plan was mid
    → ByMarks (take (center_room q.window) (drop (center_room q.window) mid.marks)) (frame_of q.window) (λ free. is_passage free q.start q.end (map point_of words)) r
    → marks ≡ cleared (mark_room q.window) mid.marks
    → TestLeaves g q words was (areas mid.base mid.plan marks) (Ok r)
list_tested g q words was v c told z =
    let w = q.window in
    let boxes = after g (built q.plan) in
    let zero = z ∙ cleared_alike (mark_room w) was.marks _ c.marks.rest in
    (told (passable g w q.mover boxes) (marks_agree g w q.mover boxes _ v.window c.marks.planned), λ i. record { base = c.base i; plan = c.plan i; marks = zero i })
