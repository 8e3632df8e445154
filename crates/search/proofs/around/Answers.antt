-- `search::around` meets its contract. The loop's invariant: what the steps below k lead to is known. Assumes nothing.
use mathlib.Core.List.{[]}
use Prim.Native.Nat.{ℕ}
use native.Mathlib.Omega.{arith}
use lib.ListN.{get_or, length-set}
use Rattle.model.specs.Steps.{steps}
use Rattle.search.specs.Places.{Free, Seen}
use Rattle.search.proofs.Neighbours.{filled_more}
use Rattle.search.proofs.around.Goals as goal

pub loop-k-preserved : goal.loop-k-preserved
loop-k-preserved g c =
    let a = c.args in
    let l = c.loop-k in
    record {
      long = simp length-set l.invariant.long;
      seen = filled_more (λ (j m : ℕ). Seen (Free a.field) a.from.x a.from.y (get_or steps j []) m) l.seen l.k c.neighbour.result (omega arith) l.invariant.seen c.neighbour.ensures;
    }
