-- `search::try_steps` meets its contract. The loop's invariant: the steps below k have been tried. Assumes nothing.
use mathlib.Core.Path.{◌∙◌}
use native.Mathlib.Omega.{arith}
use Rattle.search.specs.Search.{Growing}
use Rattle.search.proofs.Corners.{bars_of, lands_at}
use Rattle.search.proofs.Trying.{tried_works, works_then}
use Rattle.search.proofs.try_steps.Goals as goal

pub try_step-end-requires-clause-lands : goal.try_step-end-requires-clause-lands
try_step-end-requires-clause-lands g c =
    let a = c.args in
    let allowed = bars_of a.field.marks.now a.field.width a.field.height a.from.place a.from.x a.from.y c.requires.placed.0.place c.requires.placed.1 c.around.ensures c.barred-bars.ensures in
    λ clear.
    let lands = lands_at _ a.field.width a.field.height a.from.x a.from.y a.from.place c.loop-k.k c.requires.placed.0.place allowed (omega arith) c.requires.inner clear in
    (lands.0, omega (arith, lands.1))

pub loop-k-preserved : goal.loop-k-preserved
loop-k-preserved g c =
    let a = c.args in
    let l = c.loop-k in
    let placed = c.requires.placed in
    let entry = c.requires.entry in
    let works = l.invariant.works in
    let growing : Growing l.parents l.queue l.end = record { limit = omega arith; as_long = omega arith; counted = works.counted } in
    let allowed = bars_of a.field.marks.now a.field.width a.field.height a.from.place a.from.x a.from.y placed.0.place placed.1 c.around.ensures c.barred-bars.ensures in record {
      parents_long = cc;
      queue_long = cc;
      works = works_then works (tried_works l.queue l.parents c.barred-bars.result growing (works.kept a.head entry.0 ∙ entry.2) allowed l.k (omega arith) (omega arith) c.try_step-end.ensures);
    }
