-- `words::put_test` meets its contract. Assumes nothing.
use native.Mathlib.Omega.{arith}
use borrow.Author.Rules.{rules}
use mathlib.Core.Path.{◌≡◌}
use mir.Val.{bool_byte}
use mathlib.Core.List.{[], ◌∷◌}
use Rattle.std.specs.Prelude.{false}
use Rattle.std.specs.Result.{result_unwrap_or}
use Rattle.model.specs.Refusal.{given}
use Rattle.model.specs.Words.{flag, refusal_words, written}
use Rattle.words.proofs.Writing.{both}
use Rattle.words.proofs.put_test.Goals as goal

pub returns : goal.returns
unfolding written
returns c =
    let r = c.args.reply in
    let told = c.put_refusal-told.ensures in
    let byte : bool_byte (result_unwrap_or r false) ≡ flag (result_unwrap_or r false) = search rules in
    let wrote = rw (c.unwrap_or.ensures, byte) at c.put.ensures in
    (both 0 5 (refusal_words (given r)) (flag (result_unwrap_or r false) ∷ []) c.args.out.now _ _ told.words wrote (omega (arith, told.five)), told.told)
