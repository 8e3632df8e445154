-- `report_placements::issue_label` meets its contract, by the kind. Assumes nothing.
use mathlib.Core.Path.{◌≡◌}
use Prim.Native.Nat.{◌/◌, ◌%◌, ◌^◌}
use native.Mathlib.Omega.{arith}
use Rattle.report_placements.proofs.issue_label.Goals as goal

pub returns-in-0 : goal.returns-in-0
returns-in-0 c = rw c.in-0.is

pub returns-in-1 : goal.returns-in-1
returns-in-1 c = rw c.in-1.is

pub returns-in-2 : goal.returns-in-2
returns-in-2 c = rw c.in-2.is

pub returns-in_default : goal.returns-in_default
returns-in_default c =
    let last_kind : c.args.word / 2 ^ 25 % 4 ≡ 3 = omega arith in
    rw last_kind
