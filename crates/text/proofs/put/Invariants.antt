-- `text::put` meets its contract. After k turns the first k bytes of the text are pasted over the buffer. Assumes nothing.
use mathlib.Core.Path.{◌≡◌}
use lib.ListN.{length}
use lib.Seq.{paste}
use Rattle.text.proofs.put.Given as goal

abbrev pub invariant-loop-k : goal.invariant-loop-k
invariant-loop-k l = (length l.out ≡ length l.initial.out) × (l.out ≡ paste l.initial.out l.at l.text l.k)
