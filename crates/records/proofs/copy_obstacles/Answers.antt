-- `records::copy_obstacles` meets its contract. Assumes nothing.
use Rattle.std.proofs.Common.{◌*◌, ◌≤◌, length, arith}
use Rattle.records.proofs.Fill.{begins, again, ends, refuses}
use Rattle.records.proofs.copy_obstacles.Goals as goal

pub returns-then-words-words_needed : goal.returns-then-words-words_needed
returns-then-words-words_needed c = refuses c.args.rects.now c.args.words.now (omega arith)

pub loop-i-init : goal.loop-i-init
loop-i-init c = begins c.args.rects.now c.args.words.now

pub loop-i-preserved : goal.loop-i-preserved
loop-i-preserved c =
    let room : 4 * length c.args.rects.now ≤ length c.args.words.now = omega arith in
    again c.args.rects.now c.args.words.now room c.loop-i.words c.put_rect.new.words c.loop-i.i _ c.loop-i.invariant c.loop-i-test.true c.put_rect.ensures

pub returns : goal.returns
returns c =
    let room : 4 * length c.args.rects.now ≤ length c.args.words.now = omega arith in
    ends c.args.rects.now c.args.words.now room c.loop-i.words c.loop-i.i c.loop-i.invariant c.loop-i-test.false
