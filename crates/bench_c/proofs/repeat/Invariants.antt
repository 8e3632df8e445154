-- `bench_c::repeat` calls the search as it must be called. The loop's invariant: the working areas are as they came. Assumes nothing.
use mathlib.Core.Path.{◌≡◌}
use Rattle.bench_c.proofs.repeat.Given as goal

abbrev pub invariant-loop : goal.invariant-loop
invariant-loop l = (l.parents ≡ l.initial.parents) × (l.queue ≡ l.initial.queue)
