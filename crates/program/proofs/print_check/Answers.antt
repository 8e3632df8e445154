-- `program::print_check` meets its contract. Assumes nothing.
use mathlib.Core.Path.{◌≡◌}
use native.Mathlib.Omega.{arith}
use borrow.Author.Rules.{rules}
use lib.ListN.{length}
use Rattle.program.proofs.Checking.{printable, reported}
use Rattle.program.proofs.print_check.Goals as goal

-- a plan has 32 places
pub report-requires : goal.report-requires
report-requires c =
    let places : length c.args.query.plan.buildings ≡ 32 = search rules in
    printable c.check_wall-reply.ensures c.in-Ok.is places _ (omega arith) (omega arith) (omega arith)

pub returns-in-Ok : goal.returns-in-Ok
returns-in-Ok c =
    let places : length c.args.query.plan.buildings ≡ 32 = search rules in
    reported c.check_wall-reply.ensures c.in-Ok.is places c.report.ensures
