-- `search::barred` meets its contract: each sum is 0 where its parts are. Assumes nothing.
use Rattle.search.proofs.Corners.{corner_rule}
use Rattle.search.proofs.barred.Goals as goal

pub returns : goal.returns
returns c = corner_rule c.args.seen c.requires
