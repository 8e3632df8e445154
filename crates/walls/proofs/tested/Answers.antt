-- `walls::tested` meets its contract: the marks, then the list against them. Assumes nothing.
use mathlib.Core.Path.{ap, ◌∙◌}
use Prim.Native.Nat.{◌*◌}
use Rattle.stamps.specs.declared.Frame.{Frame}
use Rattle.model.specs.Areas.{cleared}
use Rattle.model.specs.Ground.{seen}
use Rattle.marks.specs.Marks.{areas}
use Rattle.walls.proofs.Testing.{list_tested}
use Rattle.walls.proofs.tested.Goals as goal

pub returns : goal.returns
returns c =
    let a = c.args in
    let e = c.frame_of-frame.ensures in
    let marks = c.mark_centers.new.marks in
    list_tested (seen a.ground) a.query a.list.now (areas a.base.now a.planned.now a.marks.now)
    c.requires.0 c.mark_centers.ensures (rw e at c.is_passage_planned-passes.ensures) (c.clear_marks.ensures ∙ ap (λ (f : Frame). cleared (2 * (f.width * f.height)) marks) e)
