-- `search::seek` meets its contract. The loop's invariant: the entries before `head` are done, and the end is not among them. Assumes nothing.
use mathlib.Core.Path.{◌≡◌}
use Prim.Native.Nat.{◌-◌, ◌≤◌}
use lib.ListN.{length}
use Rattle.search.specs.Places.{Free, size}
use Rattle.search.specs.Search.{Searching}
use Rattle.search.proofs.seek.Given as goal

abbrev pub invariant-loop-head : goal.invariant-loop-head
invariant-loop-head l = record {
  parents_long : length l.parents ≡ size l.field;
  queue_long : length l.queue ≡ size l.field;
  within : l.tail ≤ size l.field;
  state : Searching (Free l.field) l.field.width l.start l.end l.queue l.parents l.head l.tail;
}

abbrev pub decreases-loop-head : goal.decreases-loop-head
decreases-loop-head l = size l.field - l.head
