-- `words::put_each` meets its contract. After i turns the words of the first i values are written. Assumes nothing.
use mathlib.Core.Path.{ap, ◌∙◌}
use borrow.Author.Rules.{rules}
use Rattle.words.proofs.Writing.{none_written, next_written, all_written}
use Rattle.words.proofs.put_each.Goals as goal

pub loop-i-init : goal.loop-i-init
loop-i-init g c = none_written g.T.Told.words g.row.N c.args.at c.args.values.now c.args.out.now

pub loop-i-preserved : goal.loop-i-preserved
loop-i-preserved g c =
    next_written g.T.Told.words g.row.N c.args.at c.args.values.now c.args.out.now c.loop-i.i c.index-values-i.result c.loop-i-test.true c.loop-i.invariant
    (search rules) (c.words.ensures ∙ ap g.T.Told.words c.index-values-i.is) c.put_words.ensures

pub returns : goal.returns
returns g c = all_written g.T.Told.words g.row.N c.args.at c.args.values.now c.args.out.now c.loop-i.i c.loop-i-test.false c.loop-i.invariant
