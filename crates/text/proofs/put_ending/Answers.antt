-- `text::put_ending` meets its contract. Assumes nothing.
use mathlib.Core.List.{append_assoc}
use Rattle.model.specs.Report.{bytes, decimal}
use Rattle.text.proofs.Chain.{then, said}
use Rattle.text.proofs.put_ending.Goals as goal

pub returns : goal.returns
returns c =
    let a = c.args in
    said (append_assoc a.label.now (decimal a.n) (bytes "\n")) (then c.put_labelled-next.ensures c.put.ensures)
