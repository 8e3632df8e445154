-- `bits::Bits::rect` meets its contract. Assumes nothing.
use borrow.Author.Rules.{rules}
use Rattle.bits.proofs.Bits.rect.Goals as goal

pub returns-clause-value : goal.returns-clause-value
returns-clause-value c = λ k e. let words = c.extents-got.ensures.value k e in search rules
