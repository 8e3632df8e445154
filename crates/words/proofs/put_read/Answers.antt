-- `words::put_read` meets its contract, by whether there is a refusal. Assumes nothing.
use native.Mathlib.Omega.{arith}
use mathlib.Core.Path.{refl}
use mathlib.Core.List.{[], ◌∷◌, ◌++◌, flat_map}
use lib.ListN.{replicate}
use Rattle.model.specs.Refusal.{given}
use Rattle.model.specs.Words.{refusal_words, query_words}
use Rattle.words.proofs.Writing.{both}
use Rattle.words.proofs.put_read.Goals as goal

pub returns-in-Ok : goal.returns-in-Ok
returns-in-Ok c =
    let told = c.put_refusal-told.ensures in
    let p = c.in-Ok.packed in
    let sizes = p.width ∷ p.height ∷ p.obstacles ∷ p.query.plan.count ∷ [] in
    let rest = both 5 9 sizes (query_words p.query) _ _ _ c.put_words.ensures c.put_query.ensures refl in
    (rw c.in-Ok.is (rw c.in-Ok.is at (both 0 5 (refusal_words (given c.args.reply)) (sizes ++ query_words p.query) c.args.out.now _ _ told.words rest (omega (arith, told.five)))), told.told)

pub returns-in-Err : goal.returns-in-Err
unfolding flat_map
returns-in-Err c =
    let told = c.put_refusal-told.ensures in
    (rw c.in-Err.is (rw c.in-Err.is at (both 0 5 (refusal_words (given c.args.reply)) (replicate 272 0) c.args.out.now _ _ told.words c.put_words-in-Err.ensures (omega (arith, told.five)))), told.told)
