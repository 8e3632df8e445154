-- `text_boxes::put_labelled_box` meets its contract. Assumes nothing.
use Rattle.text.proofs.Chain.{then}
use Rattle.text_boxes.proofs.put_labelled_box.Goals as goal

pub returns : goal.returns
returns c = then c.put-next.ensures c.put_box.ensures
