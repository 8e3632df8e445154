-- `route::forget_places` meets its contract. The loop's invariant: each place that still has a parent is queued from where the loop is on. Assumes nothing.
use mathlib.Core.Path.{ap, ◌∙◌}
use Prim.Native.Nat.{ℕ}
use native.Mathlib.Omega.{arith}
use lib.ListN.{replicate}
use Rattle.numbers.proofs.Lists.{some_in}
use Rattle.route.proofs.Zeros.{kept_next, kept_none}
use Rattle.route.proofs.forget_places.Goals as goal

pub loop-place-preserved : goal.loop-place-preserved
loop-place-preserved c =
    let l = c.loop-place in
    let inside = some_in c.args.parents.now c.wide.result (rw c.wide.ensures.0 (c.requires.linked l.place-index c.loop-place-test.true)) in
    kept_next l.invariant c.wide.result c.wide.ensures.0 (omega (arith, inside))

pub returns : goal.returns
returns c =
    let l = c.loop-place in
    kept_none l.invariant c.loop-place-test.false ∙ ap (λ (n : ℕ). replicate n 0) l.auto.parents
