-- `route::find_chain` meets its contract: what is told of the places is told of the positions. Assumes nothing.
use Rattle.route.proofs.Answering.{says_out, part_back}
use Rattle.route.proofs.find_chain.Goals as goal

pub returns : goal.returns
returns c =
    let a = c.args in
    let r = c.chain_places.ensures in record {
      says = says_out a.marks.now a.frame _ _ c.local_index-s.ensures.1 c.local_index-e.ensures.1 c.chain_places.result r.says;
      parents_left = part_back _ a.parents.now r.parents_left;
      queue_left = part_back _ a.queue.now r.queue_left;
    }
