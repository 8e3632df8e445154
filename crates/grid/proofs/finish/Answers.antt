-- `grid::finish` meets its contract: two passes of running sums. Assumes nothing.
use Rattle.std.proofs.Common.{◌*◌, ◌∙◌, arith}
use Rattle.numbers.proofs.Lists.{same_rest}
use Rattle.grid.proofs.Passes.{two_passes}
use Rattle.grid.proofs.finish.Goals as goal

pub returns : goal.returns
returns c =
    let a = c.args in
    let A = c.sums.ensures in
    let B = c.sums-2.ensures in record {
      counted = λ C D. two_passes a.stride a.rows C a.grid.now c.sums.new.grid c.sums-2.new.grid D A B (λ k. omega (arith, c.type_inv.grid k));
      rest = same_rest 0 (a.rows * a.stride) c.sums-2.new.grid a.grid.now (c.sums-2.auto.grid ∙ c.sums.auto.grid) (λ k h. B.rest k h ∙ A.rest k h);
    }
