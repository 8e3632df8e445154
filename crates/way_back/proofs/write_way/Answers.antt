-- `way_back::write_way` meets its contract: what was laid from the end is turned round. Assumes nothing.
use Rattle.way_back.proofs.Tracing.{turned_written}
use Rattle.way_back.proofs.write_way.Goals as goal

pub returns : goal.returns
returns c = turned_written c.write_back-n.ensures c.reverse.ensures.after
