-- `search::expand` meets its contract. Assumes nothing.
use native.Mathlib.Omega.{arith}
use Rattle.search.proofs.Noted.{noted_le}
use Rattle.search.proofs.expand.Goals as goal

pub offset_bounds-queue-head : goal.offset_bounds-queue-head
offset_bounds-queue-head c = omega (arith, noted_le c.args.parents.now)

pub bounds-queue-head : goal.bounds-queue-head
bounds-queue-head c = omega (arith, noted_le c.args.parents.now)
