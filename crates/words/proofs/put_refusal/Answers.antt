-- `words::put_refusal` meets its contract, by whether there is a refusal. Assumes nothing.
use borrow.Author.Rules.{rules}
use mathlib.Core.Path.{◌≡◌, ◌∙◌}
use native.Mathlib.Omega.{arith}
use lib.ListN.{length}
use Rattle.model.specs.Words.{written}
use Rattle.words.proofs.put_refusal.Goals as goal

pub returns-in-Err-clause-words : goal.returns-in-Err-clause-words
unfolding written
returns-in-Err-clause-words g c = rw c.in-Err.is (c.put_words-in-Err.ensures ∙ rw (c.put.ensures, c.values-values.ensures, c.number-number.ensures))

pub returns-in-Err-clause-five : goal.returns-in-Err-clause-five
returns-in-Err-clause-five g c =
    let four : length c.values-values.result ≡ 4 = search rules in
    rw (c.in-Err.is, ← c.values-values.ensures) (omega (arith, four))
