-- `way_back::write_back` meets its contract. The loop's invariant: the words of the n places after p stand first, the end's before the others. Assumes nothing.
use mathlib.Core.Path.{◌≡◌}
use Prim.Native.Nat.{◌-◌, ◌<◌, ◌≤◌}
use lib.ListN.{length, get_or}
use Rattle.way_back.specs.Ways.{Short}
use Rattle.way_back.proofs.Tracing.{Laying}
use Rattle.way_back.proofs.write_back.Given as goal

abbrev pub invariant-loop-p : goal.invariant-loop-p
invariant-loop-p l = record {
  laying : Laying l.parents l.start l.end l.frame l.initial.out l.out l.n l.p;
  short : Short l.hop;
  room : l.n < length l.parents;
  parent : (l.p ≡ l.start → ⊥) → (l.p < length l.parents) × (1 ≤ get_or l.parents l.p 0);
}

abbrev pub decreases-loop-p : goal.decreases-loop-p
decreases-loop-p l = length l.parents - l.n
