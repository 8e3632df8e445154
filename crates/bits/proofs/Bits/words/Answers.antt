-- `bits::Bits::words` meets its contract. Assumes nothing.
use borrow.Author.Rules.{rules}
use Rattle.model.specs.Packed.{signed}
use Rattle.bits.proofs.Bits.words.Goals as goal

pub returns : goal.returns
returns c = (c.fields.ensures.at, c.fields.ensures.filled signed (λ v y told. search rules))
