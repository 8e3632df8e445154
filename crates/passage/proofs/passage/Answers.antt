-- `passage::passage` meets its contract. Assumes nothing.
use mathlib.Core.Path.{ap, ◌∙◌}
use Prim.Native.Nat.{◌*◌}
use Rattle.stamps.specs.declared.Frame.{Frame}
use Rattle.model.specs.Ground.{seen}
use Rattle.model.specs.Areas.{cleared}
use Rattle.passage.specs.Passing.{pass_areas}
use Rattle.passage.proofs.Marked.{passage_told}
use Rattle.passage.proofs.passage.Goals as goal

pub returns : goal.returns
returns c =
    let a = c.args in
    let e = c.frame_of-frame.ensures in
    let frame = c.frame_of-frame.result in
    let marks = c.mark_centers.new.marks in
    passage_told (seen a.ground) a.window a.mover a.plan a.start a.end
    (pass_areas a.base.now a.planned.now a.marks.now a.parents.now a.queue.now a.out.now)
    c.requires.ready.0 c.mark_centers.ensures (rw e at c.judged-passed.ensures) (c.clear_marks.ensures ∙ ap (λ (f : Frame). cleared (2 * (f.width * f.height)) marks) e)
