-- `words::put_each` meets its contract. After i turns the words of the first i values are written. Assumes nothing.
use Rattle.words.proofs.Writing.{WrittenBelow}
use Rattle.words.proofs.put_each.Given as goal

abbrev pub invariant-loop-i : goal.invariant-loop-i
invariant-loop-i g l = WrittenBelow g.T.Told.words g.row.N l.at l.values l.initial.out l.i l.out
