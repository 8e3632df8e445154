-- `terrain::next_cell` meets its contract. The invariant: no cell passed has the wanted bit. Assumes nothing.
use Rattle.std.proofs.Common.{◌≡◌, ℕ, ◌/◌, ◌%◌, ◌≤◌, ◌<◌, get_or}
use Rattle.terrain.proofs.next_cell.Given as goal

abbrev pub invariant-loop-i : goal.invariant-loop-i
invariant-loop-i l = (k : ℕ) → l.at ≤ k → k < l.i → get_or l.cells k 0 / 16 % 2 ≡ l.wanted → ⊥
