-- `marks::settle` meets its contract: the second part leaves the first as it is. Assumes nothing.
use Rattle.std.proofs.Common.{arith}
use Rattle.std.proofs.lemmas.Grind.{common_steps}
use Rattle.marks.proofs.Filling.{first_part, second_part, behind_parts}
use Rattle.marks.proofs.settle.Goals as goal

pub returns : goal.returns
returns c =
    let f = c.args.frame in
    let p = c.blocked_centers in
    let q = c.blocked_centers-2 in
    let cut = c.split_at_mut-before.ensures.front_len in
    record {
      baseline = first_part f.width f.height cut p.auto.marks q.auto.marks p.ensures q.ensures;
      planned = second_part f.width f.height cut p.auto.marks q.auto.marks p.ensures q.ensures;
      rest = behind_parts f.width f.height cut p.auto.marks q.auto.marks p.ensures q.ensures _ c.split_at_mut-before.ensures.back;
      base = grind (arith, common_steps);
      plan = grind (arith, common_steps);
    }
