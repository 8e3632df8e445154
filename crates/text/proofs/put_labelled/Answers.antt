-- `text::put_labelled` meets its contract. Assumes nothing.
use Rattle.text.proofs.Chain.{then}
use Rattle.text.proofs.put_labelled.Goals as goal

pub returns : goal.returns
returns c = then c.put-next.ensures c.put_number.ensures
