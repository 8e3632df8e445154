-- `counts::count_plan` meets its contract: what the closure adds is what the plan stops. Assumes nothing.
use Rattle.std.proofs.Common.{rules, arith}
use Rattle.counts.proofs.count_plan.Goals as goal

pub returns : goal.returns
returns c = c.count.ensures 32 _ (omega arith) (λ was now p. search rules)
