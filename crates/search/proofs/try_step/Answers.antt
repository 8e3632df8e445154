-- `search::try_step` meets its contract: the queue has room, since the place that is queued had no parent. Assumes nothing.
use Prim.Native.Nat.{◌<◌}
use native.Mathlib.Omega.{arith}
use lib.ListN.{length}
use Rattle.search.proofs.Noted.{noted_room}
use Rattle.search.proofs.try_step.Given.{Over}
use Rattle.search.proofs.try_step.Goals.{Else-wide-bar-ne0}
use Rattle.search.proofs.try_step.Goals as goal

room : (g : Over) (c : Else-wide-bar-ne0 g) → c.args.tail < length c.args.queue.now
room g c =
    let next = c.step_from-next.result in
    let parents = c.args.parents.now in
    omega (arith, noted_room parents next (omega (arith, (c.requires.lands (λ _. omega arith)).1)) (omega (arith, c.if-wide-bar-ne0.false)))

pub offset_bounds-queue-tail : goal.offset_bounds-queue-tail
offset_bounds-queue-tail g c = omega (arith, room g c)

pub bounds-queue-tail : goal.bounds-queue-tail
bounds-queue-tail g c = room g c

pub overflow_add-result : goal.overflow_add-result
overflow_add-result g c = omega (arith, room g c)
