-- `text::put_lines` meets its contract. At each turn the lines of the words from there on are left. Assumes nothing.
use Rattle.text.proofs.Lines.{LinesLeft}
use Rattle.text.proofs.put_lines.Given as goal

abbrev pub invariant-loop-word : goal.invariant-loop-word
invariant-loop-word g l = LinesLeft g.L.Line.text l.words l.word-index l.initial.out l.at l.out l.end
