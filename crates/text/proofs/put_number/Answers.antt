-- `text::put_number` meets its contract: the digits that `io::decimal` gives are the decimal text. Assumes nothing.
use mathlib.Core.Path.{◌∙◌}
use Rattle.text.proofs.Chain.{said}
use Rattle.text.proofs.Spelt.{spelt}
use Rattle.text.proofs.put_number.Goals as goal

pub put-requires : goal.put-requires
put-requires c = rw (c.decimal-k.ensures.digits ∙ spelt c.ranges.n.fits c.decimal-k.ensures.len) c.requires

pub returns : goal.returns
returns c = said (c.decimal-k.ensures.digits ∙ spelt c.ranges.n.fits c.decimal-k.ensures.len) c.put.ensures
