-- `route_list::leads_to` meets its contract. The loop's invariant: the points from the first on lead to the end as those from i on do. Assumes nothing.
use mathlib.Core.Path.{◌≡◌}
use mathlib.Core.Bool.{Bool}
use Prim.Native.Nat.{ℕ}
use lib.Dec.{T}
use Rattle.model.proofs.Shifted.{Agree}
use Rattle.marks.specs.Marks.{Unmarked}
use Rattle.route_list.proofs.Reading.{From}
use Rattle.route_list.proofs.leads_to.Given as goal

abbrev pub invariant-loop-i : goal.invariant-loop-i
invariant-loop-i l = (free : ℕ → ℕ → Bool) → Agree l.frame.left l.frame.top (Unmarked l.marks l.frame.width l.frame.height) (λ x y. T (free x y)) → From free l.end l.list 0 ≡ From free l.end l.list l.i
