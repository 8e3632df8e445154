-- `route::forget_places` meets its contract. The loop's invariant: each place that still has a parent is queued from where the loop is on. Assumes nothing.
use Rattle.route.proofs.Zeros.{Kept}
use Rattle.route.proofs.forget_places.Given as goal

abbrev pub invariant-loop-place : goal.invariant-loop-place
invariant-loop-place l = Kept l.queue l.parents l.place-index
