-- `marks::mark_row` meets its contract. The invariant: the first i centers of the row are marked. Assumes nothing.
use Rattle.std.proofs.Common.{◌≡◌, ℕ, ◌<◌, get_or}
use Rattle.marks.specs.Marks.{mark_of}
use Rattle.marks.specs.Passes.{covered}
use Rattle.marks.proofs.mark_row.Given as goal

abbrev pub invariant-loop-i : goal.invariant-loop-i
invariant-loop-i l = (k : ℕ) → k < l.i → get_or l.marks k 0 ≡ mark_of (covered l.ground l.plan k)
