-- `search::around` meets its contract. The loop's invariant: what the steps below k lead to is known. Assumes nothing.
use mathlib.Core.Path.{◌≡◌}
use mathlib.Core.List.{[]}
use Prim.Native.Nat.{ℕ, ◌<◌}
use lib.ListN.{length, get_or}
use Rattle.model.specs.Steps.{steps}
use Rattle.search.specs.Places.{Free, Seen}
use Rattle.search.proofs.around.Given as goal

abbrev pub invariant-loop-k : goal.invariant-loop-k
invariant-loop-k g l = record {
  long : length l.seen ≡ 8;
  seen : (j : ℕ) → j < l.k → Seen (Free l.field) l.from.x l.from.y (get_or steps j []) (get_or l.seen j 0);
}
