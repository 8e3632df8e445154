-- `grid::sums` meets its contract. The invariant: the entries before k are summed. Assumes nothing.
use Rattle.grid.specs.Grid.{Summed}
use Rattle.grid.proofs.sums.Given as goal

abbrev pub invariant-loop-k : goal.invariant-loop-k
invariant-loop-k l = Summed l.step l.k l.initial.grid l.grid
