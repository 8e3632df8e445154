-- `boxes::intersects` meets its contract. Assumes nothing.
use borrow.Author.Rules.{rules}
use Rattle.model.specs.Boxes.{meets}
use Rattle.boxes.proofs.intersects.Goals as goal

pub returns : goal.returns
unfolding meets
returns c = search rules
