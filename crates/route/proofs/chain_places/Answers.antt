-- `route::chain_places` meets its contract. Assumes nothing.
use Rattle.route.proofs.Answering.{sought_says, zeros_again}
use Rattle.route.proofs.chain_places.Goals as goal

pub returns : goal.returns
returns c =
    let a = c.args in
    let areas = c.requires.areas in record {
      says = sought_says c.seek-ended.result.found c.seek-ended.ensures;
      parents_left = zeros_again _ _ a.parents.now _ areas.parents_long c.requires.blank.0 c.seek-ended.auto.parents c.tidy.ensures.0;
      queue_left = zeros_again _ _ a.queue.now _ areas.queue_long c.requires.blank.1 c.seek-ended.auto.queue c.tidy.ensures.1;
    }
