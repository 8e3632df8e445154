-- `counts::count_ground` meets its contract: what the closure adds is what the ground stops. Assumes nothing.
use Rattle.std.proofs.Common.{rules, arith}
use Rattle.counts.specs.Counts.{ground_cap}
use Rattle.counts.proofs.count_ground.Goals as goal

pub returns : goal.returns
returns c = c.count.ensures ground_cap _ (omega arith) (λ was now p. search rules)
