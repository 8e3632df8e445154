-- `route::route_places` meets its contract. Assumes nothing.
use mathlib.Core.Path.{refl}
use Rattle.route.proofs.Answering.{shut_out, told_answer, zeros_again}
use Rattle.route.proofs.route_places.Goals as goal

pub returns-then-not-opens : goal.returns-then-not-opens
returns-then-not-opens c =
    let a = c.args in
    record { answer = shut_out a.marks.now a.frame a.start a.end a.out.now (c.opens.ensures.shut c.if-not-opens.true); parents_left = refl; queue_left = refl }

pub returns : goal.returns
returns c =
    let a = c.args in
    let areas = c.requires.areas in record {
      answer = told_answer a.marks.now a.frame a.start a.end a.out.now _ c.tell-points.result c.seek-ended.ensures c.tell-points.ensures;
      parents_left = zeros_again _ _ a.parents.now _ areas.parents_long c.requires.blank.0 c.seek-ended.auto.parents c.tidy.ensures.0;
      queue_left = zeros_again _ _ a.queue.now _ areas.queue_long c.requires.blank.1 c.seek-ended.auto.queue c.tidy.ensures.1;
    }
