-- `bits::Bits::cells` meets its contract. Assumes nothing.
use borrow.Author.Rules.{rules}
use Rattle.bits.proofs.Bits.cells.Goals as goal

pub returns : goal.returns
returns c = (c.fields.ensures.at, c.fields.ensures.filled (λ v. v) (λ v y told. search rules))
