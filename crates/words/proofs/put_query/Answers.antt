-- `words::put_query` meets its contract. Assumes nothing.
use mathlib.Core.Path.{refl}
use mathlib.Core.List.{◌++◌, flat_map}
use Rattle.model.specs.Words.{rect_words, end_words, building_words}
use Rattle.words.proofs.Writing.{both}
use Rattle.words.proofs.put_query.Goals as goal

pub returns : goal.returns
returns c =
    let q = c.args.query in
    let ends = end_words q.start q.end q.mover in
    let plan = flat_map building_words q.plan.buildings in
    let rest = both 13 21 ends plan _ _ _ (rw c.end_words.ensures at c.put_words-2.ensures) c.put_each.ensures refl in
    both 9 13 (rect_words q.window) (ends ++ plan) c.args.out.now _ _ (rw c.rect_words.ensures at c.put_words.ensures) rest refl
