-- `report_passage::verdict` meets its contract, by the verdict. Assumes nothing.
use Rattle.report_passage.proofs.verdict.Goals as goal

pub returns-in-StartBlocked : goal.returns-in-StartBlocked
returns-in-StartBlocked c = rw c.in-StartBlocked.is

pub returns-in-EndBlocked : goal.returns-in-EndBlocked
returns-in-EndBlocked c = rw c.in-EndBlocked.is

pub returns-in-Open : goal.returns-in-Open
returns-in-Open c = rw c.in-Open.is

pub returns-in-AlreadyDisconnected : goal.returns-in-AlreadyDisconnected
returns-in-AlreadyDisconnected c = rw c.in-AlreadyDisconnected.is

pub returns-in-BlockedWithinWindow : goal.returns-in-BlockedWithinWindow
returns-in-BlockedWithinWindow c = rw c.in-BlockedWithinWindow.is
