-- `search::seek` meets its contract. The loop's invariant: the entries before `head` are done, and the end is not among them. Assumes nothing.
use mathlib.Core.Path.{sym, ◌∙◌}
use native.Mathlib.Omega.{arith}
use lib.ListN.{length-set}
use Rattle.search.specs.Places.{size}
use Rattle.search.proofs.Frontier.{entry_free, found, not_found}
use Rattle.search.proofs.Moves.{begun, taken_up, worked}
use Rattle.search.proofs.Noted.{all_blank, noted_le}
use Rattle.search.proofs.seek.Goals as goal

pub loop-head-init : goal.loop-head-init
loop-head-init c =
    let a = c.args in
    let n = size a.field in
    let areas = c.requires.areas in record {
      parents_long = simp length-set areas.parents_long;
      queue_long = simp length-set areas.queue_long;
      within = omega arith;
      state = begun a.queue.now a.parents.now (omega arith) (omega arith) (all_blank n a.parents.now areas.parents_long c.requires.blank.0) (all_blank n a.queue.now areas.queue_long c.requires.blank.1) c.requires.start_free.1;
    }

pub returns-then-wide-end : goal.returns-then-wide-end
returns-then-wide-end c =
    let I = c.loop-head.invariant in
    found I.state (size c.args.field) I.within c.loop-head-test.true (sym c.wide.ensures.0 ∙ c.if-wide-end.true)

pub expand-tail-requires-clause-free : goal.expand-tail-requires-clause-free
expand-tail-requires-clause-free c = entry_free c.loop-head.invariant.state.state c.loop-head.head c.loop-head-test.true

pub loop-head-preserved : goal.loop-head-preserved
loop-head-preserved c =
    let works = c.expand-tail.ensures in record {
      parents_long = cc;
      queue_long = cc;
      within = omega (arith, works.counted, noted_le c.expand-tail.new.parents);
      state = worked (works.goes_on c.args.start c.args.end (taken_up c.loop-head.invariant.state c.loop-head-test.true (λ h. c.if-wide-end.false (c.wide.ensures.0 ∙ h))));
    }

pub returns : goal.returns
returns c =
    let I = c.loop-head.invariant in
    not_found I.state (size c.args.field) I.within c.loop-head-test.false
