-- `search::try_steps` meets its contract. The loop's invariant: the steps below k have been tried. Assumes nothing.
use mathlib.Core.Path.{◌≡◌}
use lib.ListN.{length}
use Rattle.search.specs.Places.{Free}
use Rattle.search.specs.Search.{Works}
use Rattle.search.proofs.try_steps.Given as goal

abbrev pub invariant-loop-k : goal.invariant-loop-k
invariant-loop-k g l = record {
  parents_long : length l.parents ≡ length l.initial.parents;
  queue_long : length l.queue ≡ length l.initial.queue;
  works : Works (Free l.field) l.field.width l.head l.initial.queue l.initial.parents l.tail 0 l.queue l.parents l.end l.k;
}
