-- `text::put_lines` meets its contract. At each turn the lines of the words from there on are left. Assumes nothing.
use native.Mathlib.Omega.{arith}
use Rattle.text.proofs.Lines.{all_left, line_fits, line_put, no_line_left}
use Rattle.text.proofs.put_lines.Goals as goal

pub loop-word-init : goal.loop-word-init
loop-word-init g c = all_left g.L.Line.text c.args.words.now c.args.out.now c.args.at

pub put-end-requires : goal.put-end-requires
put-end-requires g c = omega (arith, line_fits c.loop-word.invariant c.loop-word-test.true c.requires)

pub loop-word-preserved : goal.loop-word-preserved
loop-word-preserved g c = line_put c.loop-word.invariant c.loop-word-test.true c.put-end.ensures

pub returns : goal.returns
returns g c = no_line_left c.loop-word.invariant c.loop-word-test.false
